-- What is kept of a transfer's log, and the line of text for the sequence that it makes of the bus.
use Rattle.std.specs.Prelude.{ℕ, ◌+◌, ◌-◌, ◌/◌, ◌%◌, List, [], ◌∷◌, ◌++◌, eqb, ltb, length, if◌then◌else◌, Option, Some}
use Rattle.regs.specs.Registers.{TAR}
use Rattle.regs.specs.Log.{decode}
use Rattle.bus.specs.declared.Sign.{Sign}
use Rattle.bus.specs.declared.Sign.TheVariants.{Start, Restart, Stop, Address, Written, ReadSlot}
use Rattle.bus.specs.Bus.{bus_sequence}
use Rattle.text_hex.specs.Text.{LF, hex2}
use Rattle.text_tables.specs.Decimal.{digits}
use Rattle.text_tables.specs.Ascii.{ascii}
use Rattle.answer_frames.specs.Frames.{frame_of}
use Rattle.answer_frames.specs.declared.Frame.{Frame}
use Rattle.answer_frames.specs.declared.Frame.TheVariants.{Write}

-- the two words of a log's entry that a frame adds: of a write, and from the write to TAR on. Only a master's calls write TAR.
abbrev pub kept_of : ℕ → Option Frame → List ℕ
kept_of used (Some (Write offset w)) =
    if eqb used 0 then (if eqb (offset % 256) TAR then (0x200 + offset % 256) ∷ w ∷ [] else [])
    else (0x200 + offset % 256) ∷ w ∷ []
kept_of used _ = []

-- where there is room for them
unfoldable pub kept : List ℕ → ℕ → ℕ → List ℕ
kept line used room = if ltb room 2 then [] else (if ltb (room - 2) used then [] else kept_of used (frame_of line))

-- `w` or `r`
abbrev pub direction_letter : ℕ → ℕ
direction_letter b = if eqb (b % 2) 0 then 119 else 114

-- an address byte is the address in hexadecimal and its direction, a written byte stands in hexadecimal
abbrev pub address_text : ℕ → List ℕ
address_text b = (32 ∷ []) ++ (hex2 (b / 2) ++ (direction_letter b ∷ []))

abbrev pub byte_text : ℕ → List ℕ
byte_text b = (32 ∷ []) ++ hex2 b

-- a run of n read slots is its count in decimal, ` [n]`, and no slot is nothing; a count up to 32,768 has at most five digits
unfoldable pub run_text : ℕ → List ℕ
run_text n = if eqb n 0 then [] else (32 ∷ []) ++ ((91 ∷ []) ++ (digits 5 n ++ (93 ∷ [])))

-- a sign alone
abbrev pub sign_text : Sign → List ℕ
sign_text Start = ascii " START"
sign_text Restart = ascii " RESTART"
sign_text Stop = ascii " STOP"
sign_text (Address b) = address_text b
sign_text (Written b) = byte_text b
sign_text ReadSlot = run_text 1

-- the text of a sequence behind n read slots: another sign, or the end, closes their run
unfoldable pub signs_text : ℕ → List Sign → List ℕ
signs_text n [] = run_text n
signs_text n (ReadSlot ∷ ss) = signs_text (n + 1) ss
signs_text n (Start ∷ ss) = run_text n ++ (sign_text Start ++ signs_text 0 ss)
signs_text n (Restart ∷ ss) = run_text n ++ (sign_text Restart ++ signs_text 0 ss)
signs_text n (Stop ∷ ss) = run_text n ++ (sign_text Stop ++ signs_text 0 ss)
signs_text n (Address b ∷ ss) = run_text n ++ (sign_text (Address b) ++ signs_text 0 ss)
signs_text n (Written b ∷ ss) = run_text n ++ (sign_text (Written b) ++ signs_text 0 ss)

-- `bus` and the sequence; nothing where the transfer put nothing on the bus
unfoldable pub sequence_text : List Sign → List ℕ
sequence_text ss = if eqb (length ss) 0 then [] else (98 ∷ []) ++ ((117 ∷ []) ++ ((115 ∷ []) ++ (signs_text 0 ss ++ (LF ∷ []))))

-- the line of a log that makes at most 32,768 entries, with room for them and for the text
unfoldable pub bus_line : List ℕ → ℕ → ℕ → List ℕ
bus_line log places room =
    if ltb 32768 (length (bus_sequence (decode log))) then [] else
    (if ltb places 32768 then [] else
    (if ltb room 294921 then [] else sequence_text (bus_sequence (decode log))))
