-- The picture of a bus sequence: SVG of a fixed width, a row of lanes below the other, and in each row the signs from left to right.
use Rattle.std.specs.Prelude.{ℕ, ◌+◌, ◌/◌, ◌%◌, List, [], ◌∷◌, ◌++◌, eqb, ltb, length, take, if◌then◌else◌}
use Rattle.regs.specs.Log.{decode}
use Rattle.bus.specs.declared.Sign.{Sign}
use Rattle.bus.specs.declared.Sign.TheVariants.{Start, Restart, Stop, Address, Written, ReadSlot}
use Rattle.bus.specs.Bus.{bus_sequence}
use Rattle.text_hex.specs.Text.{hex2}
use Rattle.text_tables.specs.Decimal.{digits}
use Rattle.text_tables.specs.Ascii.{ascii}
use Rattle.svg_text.specs.Texts.{style_text, conditions_text, bytes_text, legend_text}

-- a coordinate or a count
abbrev pub number_text : ℕ → List ℕ
number_text n = digits 6 n

-- ---- a sign at x and y

-- a shape of the head by its letter
unfoldable pub shape_text : ℕ → ℕ → ℕ → List ℕ
shape_text letter x y = ascii "<use href=\"#"
    ++ ((letter ∷ [])
    ++ (ascii "\" x=\"" ++ (number_text x ++ (ascii "\" y=\"" ++ (number_text y ++ ascii "\"/>\n")))))

-- SDA during a bit: high for 1
abbrev pub bit_text : ℕ → List ℕ
bit_text bit = if eqb bit 1 then ascii "V45h12" else ascii "V65h12"

-- SDA during the eight bits of a byte, the highest first
unfoldable pub bits_text : ℕ → List ℕ
bits_text b =
    bit_text (b / 128 % 2) ++ (bit_text (b / 64 % 2) ++ (bit_text (b / 32 % 2) ++ (bit_text (b / 16 % 2) ++
    (bit_text (b / 8 % 2) ++ (bit_text (b / 4 % 2) ++ (bit_text (b / 2 % 2) ++ bit_text (b % 2)))))))

-- a byte's shape, its bits and its label
unfoldable pub open_text : ℕ → ℕ → ℕ → List ℕ
open_text letter x y = ascii "<g transform=\"translate("
    ++ (number_text x ++ (ascii ","
    ++ (number_text y ++ (ascii ")\"><use href=\"#" ++ ((letter ∷ []) ++ ascii "\"/><path d=\"M0 65")))))

unfoldable pub byte_text : ℕ → ℕ → ℕ → ℕ → List ℕ → List ℕ
byte_text letter x y b label = open_text letter x y
    ++ (bits_text b ++ (ascii "\"/><text x=\"54\" y=\"96\">" ++ (label ++ ascii "</text></g>\n")))

-- `W` or `R`
abbrev pub direction_text : ℕ → ℕ
direction_text b = if eqb (b % 2) 0 then 87 else 82

-- letters are those of the shapes: a, w, S, R, P and r
abbrev pub sign_text : ℕ → ℕ → Sign → List ℕ
sign_text x y (Address b) = byte_text 97 x y b (hex2 (b / 2) ++ (32 ∷ direction_text b ∷ []))
sign_text x y (Written b) = byte_text 119 x y b (hex2 b)
sign_text x y Start = shape_text 83 x y
sign_text x y Restart = shape_text 82 x y
sign_text x y Stop = shape_text 80 x y
sign_text x y ReadSlot = shape_text 114 x y

-- ---- signs one after the other

-- in proportion: a byte is nine clocks, a condition two
abbrev pub width : Sign → ℕ
width (Address b) = 108
width (Written b) = 108
width Start = 24
width Restart = 24
width Stop = 24
width ReadSlot = 108

-- a sign that would end behind 800 begins the next row: its x and y, where the one before it ended at x in the row y
abbrev pub column : ℕ → ℕ → ℕ
column x w = if ltb 800 (x + w) then 60 else x

abbrev pub row : ℕ → ℕ → ℕ → ℕ
row x y w = if ltb 800 (x + w) then y + 120 else y

-- the names of the lanes (l), before the first sign of a row
abbrev pub lanes_text : ℕ → ℕ → List ℕ
lanes_text x y = if eqb x 60 then shape_text 108 0 y else []

unfoldable pub signs_text : ℕ → ℕ → List Sign → List ℕ
signs_text x y [] = []
signs_text x y (s ∷ ss) =
    (lanes_text (column x (width s)) (row x y (width s)) ++ sign_text (column x (width s)) (row x y (width s)) s)
    ++ signs_text (column x (width s) + width s) (row x y (width s)) ss

-- the last row
unfoldable pub last_row : ℕ → ℕ → List Sign → ℕ
last_row x y [] = y
last_row x y (s ∷ ss) = last_row (column x (width s) + width s) (row x y (width s)) ss

-- ---- the whole picture

unfoldable pub opening_text : ℕ → List ℕ
opening_text height = ascii "<svg xmlns=\"http://www.w3.org/2000/svg\" width=\"840\" height=\""
    ++ (number_text height ++ (ascii "\" viewBox=\"0 0 840 "
    ++ (number_text height ++ ascii
    "\" font-family=\"monospace\" font-size=\"14\" text-anchor=\"middle\">\n<title>I2C bus sequence</title>\n")))

unfoldable pub head_text : ℕ → List ℕ
head_text height = opening_text height ++ (style_text ++ (conditions_text ++ (bytes_text ++ legend_text)))

-- of a sequence of more than 256 signs the first are drawn, and the picture says so
unfoldable pub note_text : ℕ → ℕ → List ℕ
note_text y n = if ltb 256 n then ascii "<text class=\"n\" x=\"16\" y=\""
    ++ (number_text y ++ (ascii "\">the first 256 of " ++ (number_text n ++ ascii " entries</text>\n"))) else []

unfoldable pub svg_text : List Sign → ℕ → List ℕ
svg_text ss n = head_text (last_row 60 70 ss + 130) ++ (signs_text 60 70 ss ++ (note_text (last_row 60 70 ss + 124) n ++ ascii "</svg>\n"))

-- the picture of a log that makes at most 32,768 entries, with room for them and for the text; nothing where the
-- log puts nothing on the bus
unfoldable pub picture : List ℕ → ℕ → ℕ → List ℕ
picture log places room =
    if ltb 32768 (length (bus_sequence (decode log))) then [] else
    (if ltb places 32768 then [] else
    (if ltb room 53000 then [] else
    (if eqb (length (bus_sequence (decode log))) 0 then [] else
    svg_text (take 256 (bus_sequence (decode log))) (length (bus_sequence (decode log))))))
