-- Which answer frame a line is, if it is one (docs/MANUAL.md, "Frames").
use Rattle.std.specs.Prelude.{ℕ, Bool, true, false, List, eqb, ltb, length, if◌then◌else◌, Option, Some, None}
use Rattle.text_hex.specs.Text.{number_at}
use Rattle.text_hex.specs.Pairs.{whole_pairs}
use Rattle.answer_frames.specs.declared.Frame.{Frame}
use Rattle.answer_frames.specs.declared.Frame.TheVariants.{Read, Write, Pending, BlockReset, Buffer, Answer}

abbrev pub mark_frame : ℕ → Option Frame
mark_frame kind = if eqb kind 0x32 then Some Pending else (if eqb kind 0x33 then Some BlockReset else None)

-- the numbers of answers go to 23
abbrev pub word_frame : ℕ → ℕ → ℕ → Option Frame
word_frame kind byte word =
    if eqb kind 0x30 then Some (Read byte word) else
    (if eqb kind 0x31 then Some (Write byte word) else
    (if eqb kind 0x35 then (if ltb byte 24 then Some (Answer byte word) else None) else None))

abbrev pub word_of : ℕ → Option ℕ → Option ℕ → Option Frame
word_of kind None word = None
word_of kind (Some byte) None = None
word_of kind (Some byte) (Some word) = word_frame kind byte word

abbrev pub frame_of_kind : List ℕ → ℕ → Option Frame
frame_of_kind line kind =
    if eqb kind 0x34 then (if whole_pairs line then Some Buffer else None) else
    (if eqb (length line) 2 then mark_frame kind else
    (if eqb (length line) 12 then word_of kind (number_at line 2 2) (number_at line 4 8) else None))

abbrev pub of_kind : List ℕ → Option ℕ → Option Frame
of_kind line None = None
of_kind line (Some kind) = frame_of_kind line kind

unfoldable pub frame_of : List ℕ → Option Frame
frame_of line = if ltb (length line) 2 then None else of_kind line (number_at line 0 2)

-- with an answer its call ends
abbrev pub is_answer : Option Frame → Bool
is_answer (Some (Answer n d)) = true
is_answer _ = false
