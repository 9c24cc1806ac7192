-- What bus_svg writes of an input, line by line: the picture of the first call that put anything on the bus, and before it
-- the numbers of the lines that are no answer frames. This is the statement.
use Rattle.std.specs.Prelude.{ℕ, List, [], ◌∷◌, ◌++◌, length, take, if◌then◌else◌}
use Rattle.regs.specs.Log.{decode}
use Rattle.bus.specs.declared.Sign.{Sign}
use Rattle.bus.specs.Bus.{bus_sequence}
use Rattle.text_hex.specs.Text.{lines}
use Rattle.text_tables.specs.Ascii.{ascii}
use Rattle.answer_frames.specs.Frames.{frame_of, is_answer}
use Rattle.svg_text.specs.Picture.{svg_text}
use Rattle.answer_lines.specs.Lines.{number_after, no_frame, warning, kept_on}

-- on standard output and on standard error
pub record Written : Type 0 where
  pub output : List ℕ
  pub errors : List ℕ

-- what a line leads to: a picture, and then nothing more; or the log after the line, and what is warned of it
pub data Turn : Type 0 where
  draws : List ℕ → Turn
  goes : List ℕ → List ℕ → Turn

-- with an answer its call ends; it is drawn where it put anything on the bus, as far as its log was kept
abbrev pub ends : List Sign → Turn
ends [] = goes [] []
ends (s ∷ ss) = draws (svg_text (take 256 (s ∷ ss)) (length (s ∷ ss)))

abbrev pub warned : ℕ → List ℕ → List ℕ
warned number line = if no_frame line then warning number else []

abbrev pub turn : ℕ → List ℕ → List ℕ → Turn
turn number log line =
    if is_answer (frame_of line) then ends (bus_sequence (decode log)) else goes (kept_on log line) (warned number line)

abbrev pub onward : Turn → (List ℕ → Written) → Written
onward (draws text) rest = record { output = text; errors = [] }
onward (goes log text) rest = record { output = (rest log).output; errors = text ++ (rest log).errors }

unfoldable pub nothing_drawn : List ℕ
nothing_drawn = ascii "no whole call put anything on the bus\n"

-- behind so many lines, with a log of the open call
unfoldable pub drawn_from : ℕ → List ℕ → List (List ℕ) → Written
drawn_from n log [] = record { output = []; errors = nothing_drawn }
drawn_from n log (l ∷ ls) = onward (turn (number_after n) log l) (λ after. drawn_from (number_after n) after ls)

abbrev pub drawn_all : List (List ℕ) → Written
drawn_all ls = drawn_from 0 [] ls

-- of the bytes of an input
abbrev pub drawn_input : List ℕ → Written
drawn_input input = drawn_all (lines input)
