-- A coded transfer after its run: the longer operations are run with 0 for the code, and by the last access to DATA_CMD
-- the code is then put into the log or tested. That this is what a coded transfer leaves is `settles` (proofs/Settles.antt).
use Rattle.std.specs.Prelude.{ℕ, true, false, not, ◌&&◌, List, [], ◌∷◌, ◌≡◌, eqb, length, if◌then◌else◌}
use Rattle.regs.specs.declared.access.Entry.{Entry}
use Rattle.regs.specs.declared.access.Entry.TheVariants.{Read, Write, Marked}
use Rattle.regs.specs.declared.answers.Reply.{Reply}
use Rattle.regs.specs.Registers.{DATA_CMD}
use Rattle.regs.specs.Fields.{command_word, cmd, stop, dat}
use Rattle.regs.specs.Log.{Each, expected}
use Rattle.regs.specs.Program.{Outcome}
use Rattle.master.specs.Driver.{reason_of}
use Rattle.master.specs.Operations.{Operation, Mode, Transfer, operations_of}
use Rattle.master.specs.Coded.{code_of, with_code, room_of, longer_transfer, restarts}
use Rattle.master.specs.CodedLaws.{coded_left, Small, tested_reply}

-- the value of the last access to DATA_CMD: read, or written
pub data LastData : Type 0 where
  none : LastData
  got put : ℕ → LastData

abbrev pub data_of : Entry → LastData
data_of (Read r v) = if eqb r DATA_CMD then got v else none
data_of (Write r w) = if eqb r DATA_CMD then put w else none
data_of (Marked x) = none

abbrev pub later : LastData → LastData → LastData
later first none = first
later first (got v) = got v
later first (put w) = put w

unfoldable pub last_data : List Entry → LastData
last_data [] = none
last_data (e ∷ es) = later (data_of e) (last_data es)

-- an entry that writes DATA_CMD, with the code c
abbrev pub with_word : ℕ → Entry → Entry
with_word c (Read r v) = Read r v
with_word c (Write r w) = Write r (if eqb r DATA_CMD then command_word c false true false else w)
with_word c (Marked x) = Marked x

-- the last access to DATA_CMD, with the code c
abbrev pub put_here : ℕ → LastData → Entry → List Entry → List Entry → List Entry
put_here c none e es put_later = with_word c e ∷ es
put_here c (got v) e es put_later = e ∷ put_later
put_here c (put w) e es put_later = e ∷ put_later

unfoldable pub put_last : ℕ → List Entry → List Entry
put_last c [] = []
put_last c (e ∷ es) = put_here c (last_data es) e es (put_last c es)

-- by the last access: a byte that was read is the code that came; a word with STOP of a write is to carry the code
abbrev pub settled_by : ℕ → LastData → Outcome (Unit {0}) Reply → Outcome (Unit {0}) Reply
settled_by c none o = o
settled_by c (got v) o =
    record { answer = tested_reply (eqb (dat v) c) o.answer; log = o.log; buffer = o.buffer; state = o.state }
settled_by c (put w) o =
    record {
      answer = o.answer;
      log = if stop w && not (cmd w) then put_last c o.log else o.log;
      buffer = o.buffer;
      state = o.state;
    }

-- the code is over the bytes of the lent buffer, which then holds all that was read
abbrev pub settled : ℕ → List (Operation ℕ) → Outcome (Unit {0}) Reply → Outcome (Unit {0}) Reply
settled address os o = settled_by (code_of address os o.buffer) (last_data o.log) o

-- the longer operations with 0 for the code, as they are run
abbrev pub longer_left : Mode → ℕ → Transfer ℕ → List ℕ → List ℕ → List ℕ → Outcome (Unit {0}) Reply
longer_left mode address t log readings buffer =
    expected (longer_transfer reason_of mode (restarts t) address (with_code 0 (operations_of t))) log readings buffer tt

abbrev pub Settles : Type 0
Settles = (mode : Mode) (address : ℕ) (t : Transfer ℕ) (log readings buffer : List ℕ)
    → Each Small (operations_of t)
    → length buffer ≡ room_of (operations_of t)
    → coded_left mode address t log readings buffer
    ≡ settled address (operations_of t) (longer_left mode address t log readings buffer)
