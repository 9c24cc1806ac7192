-- The text of a frame.
use Rattle.std.specs.Prelude.{ℕ, ◌/◌, ◌%◌, List, [], ◌∷◌, ◌++◌, eqb, ltb, length, drop, if◌then◌else◌, Option, Some, None}
use Rattle.text_hex.specs.Text.{LF, hex2, hex8}
use Rattle.answer_frames.specs.declared.Frame.{Frame}
use Rattle.answer_frames.specs.declared.Frame.TheVariants.{Read, Write, Pending, BlockReset, Buffer, Answer}
use Rattle.answer_frames.specs.Frames.{frame_of}
use Rattle.text_tables.specs.Ascii.{ascii}
use Rattle.text_tables.specs.Decimal.{digits}
use Rattle.text_tables.specs.Rows.{cell, flags, spaced}
use Rattle.regs_causes.specs.Causes.{causes_of}
use Rattle.regs_causes.specs.declared.Counted.{Counted}
use Rattle.explain_frames.specs.Tables.{names, con_flags, command_flags, interrupts_flags, status_flags, aborts_flags, words, answers}

-- how many causes an abort has, and the name of the lowest
unfoldable pub counted_text : Option Counted → List ℕ
counted_text None = ascii "; no cause"
counted_text (Some c) = ascii "; causes " ++ (digits 2 c.count ++ (ascii ", lowest " ++ cell aborts_flags 24 c.lowest))

-- the causes of an abort word, behind it: nothing where it is 0
unfoldable pub causes_text : ℕ → List ℕ
causes_text w = if eqb w 0 then [] else counted_text (causes_of w)

-- the fields of a register's value: of STATUS, and of TX_ABRT_SOURCE with its causes
unfoldable pub state_fields : ℕ → ℕ → List ℕ
state_fields offset w =
    if eqb offset 0x70 then flags status_flags 7 0 w else
    (if eqb offset 0x80 then flags aborts_flags 17 0 w ++ causes_text w else [])

-- and of CON, DATA_CMD, INTR_MASK and RAW_INTR_STAT
unfoldable pub fields : ℕ → ℕ → List ℕ
fields offset w =
    if eqb offset 0x00 then flags con_flags 10 0 w else
    (if eqb offset 0x10 then flags command_flags 4 0 (w / 256) else
    (if eqb offset 0x30 then flags interrupts_flags 13 0 w else
    (if eqb offset 0x34 then flags interrupts_flags 13 0 w else state_fields offset w)))

-- the row of a register's name; row 3 is a `?`
abbrev pub name_row : ℕ → ℕ
name_row offset = if eqb (offset % 4) 0 then (if ltb offset 172 then offset / 4 else 3) else 3

-- an access: which, the register's name and offset, the value and its fields
unfoldable pub access_words : ℕ → ℕ → ℕ → List ℕ
access_words word offset w = cell words 12 word
    ++ (cell names 17 (name_row offset) ++ (hex2 offset ++ ((32 ∷ []) ++ (hex8 w ++ fields offset w))))

unfoldable pub access_text : ℕ → ℕ → ℕ → List ℕ
access_text word offset w = access_words word offset w ++ (LF ∷ [])

unfoldable pub mark_text : ℕ → List ℕ
mark_text word = cell words 12 word ++ (LF ∷ [])

unfoldable pub buffer_text : List ℕ → List ℕ
buffer_text line = cell words 12 4 ++ (spaced (drop 2 line) ++ (LF ∷ []))

-- a detail that is not 0, behind a colon
unfoldable pub detail_text : ℕ → List ℕ
detail_text d = if eqb d 0 then [] else (58 ∷ []) ++ ((32 ∷ []) ++ hex8 d)

-- the detail of the answers 11 and 23 is an abort word, and its causes stand behind it
unfoldable pub abort_text : ℕ → ℕ → List ℕ
abort_text n d = if eqb n 11 then causes_text d else (if eqb n 23 then causes_text d else [])

unfoldable pub answer_text : ℕ → ℕ → List ℕ
answer_text n d = cell words 12 5 ++ (cell answers 40 n ++ (detail_text d ++ (abort_text n d ++ (LF ∷ []))))

-- the text of a frame; a buffer's bytes are read from its line
unfoldable pub frame_text : List ℕ → Frame → List ℕ
frame_text line (Read offset w) = access_text 0 offset w
frame_text line (Write offset w) = access_text 1 offset w
frame_text line Pending = mark_text 2
frame_text line BlockReset = mark_text 3
frame_text line Buffer = buffer_text line
frame_text line (Answer n d) = answer_text n d

-- what is no frame has no text
abbrev pub line_text : List ℕ → Option Frame → List ℕ
line_text line (Some f) = frame_text line f
line_text line None = []

-- the text of a line of at most 8,194 bytes, a buffer of 4,096, in a buffer with room for the longest text
unfoldable pub explained : List ℕ → ℕ → List ℕ
explained line room = if ltb 8194 (length line) then [] else (if ltb room 16900 then [] else line_text line (frame_of line))
