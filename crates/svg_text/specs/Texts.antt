-- The texts of the picture that are the same for every sequence.
use Rattle.std.specs.Prelude.{ℕ, List, ◌++◌}
use Rattle.text_tables.specs.Ascii.{ascii}

-- fills by kind: an address, a written byte, a byte to be read, a condition; bits that the words do not set are hatched
unfoldable pub style_text : List ℕ
style_text =
    ascii "<style>\n" ++ (
    ascii "path{fill:none;stroke:#1f2937;stroke-width:1.5}\n" ++ (
    ascii "rect{stroke:#1f2937}\n" ++ (
    ascii ".a{fill:#bfdbfe}\n" ++ (
    ascii ".w{fill:#bbf7d0}\n" ++ (
    ascii ".r{fill:#fde68a}\n" ++ (
    ascii ".c{fill:#e5e7eb}\n" ++ (
    ascii ".h{fill:url(#h);stroke:#9ca3af}\n" ++ (
    ascii ".g{stroke:#9ca3af}\n" ++ (
    ascii ".p{fill:#fff;stroke:none}\n" ++ (
    ascii ".n{text-anchor:start}\n" ++ (
    ascii "</style>\n")))))))))))

-- the names of the lanes (l), and START (S), RESTART (R) and STOP (P), 24 wide: SDA falls or rises while SCL is high
unfoldable pub conditions_text : List ℕ
conditions_text =
    ascii "<defs>\n" ++ (
    ascii "<pattern id=\"h\" width=\"6\" height=\"6\" patternUnits=\"userSpaceOnUse\"><rect class=\"p\" width=\"6\" height=\"6\"/><path class=\"g\" d=\"M0 6l6 -6\"/></pattern>\n" ++ (
    ascii "<g id=\"l\" class=\"n\"><text x=\"16\" y=\"26\">SCL</text><text x=\"16\" y=\"61\">SDA</text><text x=\"16\" y=\"96\">bus</text></g>\n" ++ (
    ascii "<g id=\"S\"><path d=\"M0 10h18v20h6M0 45h12v20h12\"/><rect class=\"c\" y=\"78\" width=\"24\" height=\"26\"/><text x=\"12\" y=\"96\">S</text></g>\n" ++ (
    ascii "<g id=\"R\"><path d=\"M0 30h3v-20h15v20h6M0 45h10v20h14\"/><rect class=\"c\" y=\"78\" width=\"24\" height=\"26\"/><text x=\"12\" y=\"96\">Sr</text></g>\n" ++ (
    ascii "<g id=\"P\"><path d=\"M0 30h6v-20h18M0 65h14v-20h10\"/><rect class=\"c\" y=\"78\" width=\"24\" height=\"26\"/><text x=\"12\" y=\"96\">P</text></g>\n")))))

-- what is the same of every byte, 108 wide: nine clocks (k), and the boxes of an address (a), a written byte (w) and a byte to be read (r); the ninth bit is an acknowledgement
unfoldable pub bytes_text : List ℕ
bytes_text =
    ascii "<path id=\"k\" d=\"M0 30h3v-20h6v20h6v-20h6v20h6v-20h6v20h6v-20h6v20h6v-20h6v20h6v-20h6v20h6v-20h6v20h6v-20h6v20h6v-20h6v20h3\"/>\n" ++ (
    ascii "<g id=\"a\"><use href=\"#k\"/><rect class=\"h\" x=\"96\" y=\"45\" width=\"12\" height=\"20\"/><rect class=\"a\" y=\"78\" width=\"108\" height=\"26\"/></g>\n" ++ (
    ascii "<g id=\"w\"><use href=\"#k\"/><rect class=\"h\" x=\"96\" y=\"45\" width=\"12\" height=\"20\"/><rect class=\"w\" y=\"78\" width=\"108\" height=\"26\"/></g>\n" ++ (
    ascii "<g id=\"r\"><use href=\"#k\"/><rect class=\"h\" y=\"45\" width=\"108\" height=\"20\"/><rect class=\"r\" y=\"78\" width=\"108\" height=\"26\"/><text x=\"54\" y=\"96\">read</text></g>\n" ++ (
    ascii "</defs>\n"))))

unfoldable pub legend_text : List ℕ
legend_text =
    ascii "<rect class=\"p\" width=\"840\" height=\"100%\"/>\n" ++ (
    ascii "<g class=\"n\"><text x=\"16\" y=\"26\" font-size=\"18\">I2C bus sequence</text>\n" ++ (
    ascii "<rect class=\"c\" x=\"16\" y=\"40\" width=\"14\" height=\"14\"/><text x=\"36\" y=\"52\">S START, Sr RESTART, P STOP</text>\n" ++ (
    ascii "<rect class=\"a\" x=\"290\" y=\"40\" width=\"14\" height=\"14\"/><text x=\"310\" y=\"52\">address</text>\n" ++ (
    ascii "<rect class=\"w\" x=\"400\" y=\"40\" width=\"14\" height=\"14\"/><text x=\"420\" y=\"52\">written</text>\n" ++ (
    ascii "<rect class=\"r\" x=\"510\" y=\"40\" width=\"14\" height=\"14\"/><text x=\"530\" y=\"52\">to be read</text>\n" ++ (
    ascii "<rect class=\"h\" x=\"640\" y=\"40\" width=\"14\" height=\"14\"/><text x=\"660\" y=\"52\">not set by the words</text></g>\n"))))))
