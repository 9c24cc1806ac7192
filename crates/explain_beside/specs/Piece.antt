-- The piece of the bus sequence that a frame's word makes after the frames before it, and the text of a frame with its piece.
use Rattle.std.specs.Prelude.{ℕ, ◌+◌, ◌-◌, ◌%◌, List, [], ◌∷◌, ◌++◌, eqb, ltb, length, replicate, if◌then◌else◌, Option, Some, None}
use Rattle.regs.specs.Registers.{TAR, DATA_CMD}
use Rattle.regs.specs.Fields.{address_field}
use Rattle.bus.specs.declared.Bus.TheVariants.{Idle}
use Rattle.bus.specs.declared.Sign.{Sign}
use Rattle.bus.specs.Bus.{signs_of}
use Rattle.bus.specs.Placed.{made, moved}
use Rattle.text_hex.specs.Text.{LF}
use Rattle.answer_frames.specs.declared.Frame.{Frame}
use Rattle.answer_frames.specs.declared.Frame.TheVariants.{Write}
use Rattle.answer_frames.specs.Frames.{frame_of}
use Rattle.explain_frames.specs.Texts.{access_words, explained}
use Rattle.explain_bus.specs.Line.{kept_of, signs_text}
use Rattle.explain_beside.specs.declared.transfer.Transfer.{Transfer}

-- what a frame writes to a register
abbrev pub written_in : ℕ → Option Frame → Option ℕ
written_in r (Some (Write offset w)) = if eqb (offset % 256) r then Some w else None
written_in r _ = None

-- a write to TAR opens a transfer on an idle bus
abbrev pub opened : Option ℕ → Option Transfer
opened None = None
opened (Some w) = Some (record { address = address_field w; bus = Idle })

-- a write to DATA_CMD moves its bus
abbrev pub moved_on : Transfer → Option ℕ → Transfer
moved_on t word = record { address = t.address; bus = moved t.bus word }

-- what stands before the next frame: no transfer, as long as TAR was not written
abbrev pub next : Option Transfer → Option Frame → Option Transfer
next None f = opened (written_in TAR f)
next (Some t) f = Some (moved_on t (written_in DATA_CMD f))

-- what a frame's word makes of the bus
abbrev pub piece : Option Transfer → Option Frame → List Sign
piece None f = []
piece (Some t) f = made t.bus t.address (written_in DATA_CMD f)

-- the pieces of frames one after the other
unfoldable pub pieces : Option Transfer → List (Option Frame) → List Sign
pieces t [] = []
pieces t (f ∷ fs) = piece t f ++ pieces (next t f) fs

-- the log that the same frames leave for the bus line, which has `used` words already
unfoldable pub kept_from : ℕ → List (Option Frame) → List ℕ
kept_from used [] = []
kept_from used (f ∷ fs) = kept_of used f ++ kept_from (used + length (kept_of used f)) fs

-- two spaces and `bus:`
abbrev pub bus_head : List ℕ
bus_head = (32 ∷ []) ++ ((32 ∷ []) ++ ((98 ∷ []) ++ ((117 ∷ []) ++ ((115 ∷ []) ++ (58 ∷ [])))))

-- a text and spaces up to a column
abbrev pub filled : ℕ → List ℕ → List ℕ
filled column text = text ++ replicate (column - length text) 32

-- the line of a word: its access, and from column 52 on what it makes of the bus
unfoldable pub word_line : Transfer → ℕ → List ℕ
word_line t w = filled 52 (access_words 1 DATA_CMD w) ++ (bus_head ++ (signs_text 0 (signs_of t.bus t.address w) ++ (LF ∷ [])))

-- the text of a line of an open transfer
abbrev pub told_word : Transfer → List ℕ → ℕ → Option ℕ → List ℕ
told_word t line room None = explained line room
told_word t line room (Some w) = if ltb room 16900 then [] else word_line t w

unfoldable pub told_of : Transfer → List ℕ → ℕ → List ℕ
told_of t line room = told_word t line room (written_in DATA_CMD (frame_of line))

-- the text of a line after what stands before it, in a buffer with room for the longest text: a word of a transfer has its piece beside it
abbrev pub told : Option Transfer → List ℕ → ℕ → List ℕ
told None line room = explained line room
told (Some t) line room = told_of t line room
