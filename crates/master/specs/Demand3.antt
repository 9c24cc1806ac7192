-- Demand 3: two master calls that succeed, plain ones or with a packet error code, make the same bus sequence exactly if
-- their addresses and their joined operations are the same. The code counts as a byte of the last operation.
-- The bus sequence (crates/bus/specs/Bus.antt) begins on an idle bus with restarts enabled.
use Rattle.std.specs.Prelude.{ℕ, zero, suc, ◌+◌, ◌*◌, ◌≤◌, ◌<◌, ◌≡◌, ◌≢◌, ◌↔◌, true, ◌&&◌, List, [], ◌∷◌, ◌++◌, eqb, take, if◌then◌else◌}
use Rattle.crc8.specs.Crc8.{crc8}
use Rattle.regs.specs.declared.access.Entry.{Entry}
use Rattle.regs.specs.declared.access.Entry.TheVariants.{Read, Write, Marked}
use Rattle.regs.specs.declared.access.Ran.{Ran}
use Rattle.regs.specs.Answers.{number}
use Rattle.regs.specs.Registers.{DATA_CMD, RXFLR}
use Rattle.regs.specs.Fields.{cmd, level}
use Rattle.regs.specs.Left.{bytes_read}
use Rattle.regs.specs.Log.{Each, Leaves, decode}
use Rattle.bus.specs.declared.Sign.{Sign}
use Rattle.bus.specs.Bus.{bus_sequence}
use Rattle.master.specs.Operations.{Operation, writes, reads}
use Rattle.master.specs.Sequence.{joined, sequence, told}
use Rattle.master.specs.Coded.{message, code_of, with_code}
use Rattle.master.specs.Calls.{Call, bytes_in, operations_in, left_by_call}

-- A call as it was made: what was lent to it, the readings, the lent log before and after it, and
-- what it returned. `left` is what the call's contract says of them, `small` what the type `&[u8]` does.
pub record Made : Type 0 where
  pub call : Call
  pub readings : List ℕ
  pub before : List ℕ
  pub after : List ℕ
  pub ran : Ran
  pub left : Leaves (left_by_call call before readings) before after ran
  pub small : Each (λ b. b < 256) (bytes_in call.lent)

abbrev pub address : Made → ℕ
address m = m.call.address

-- the operations that were asked for, on data alone
abbrev pub asked : Made → List (Operation ℕ)
asked m = operations_in m.call.lent

-- the log that it left: as many entries as it returned, two words each; what stands after them is older
abbrev pub log_of : Made → List Entry
log_of m = decode (take (m.ran.entries * 2) m.after)

-- The operations that it makes. With a packet error code the last one has the code behind it: as a written byte with its
-- value, over the bytes that the log read before, or as one more byte to read.
abbrev pub operations : Made → List (Operation ℕ)
operations m =
    if m.call.pec then with_code (code_of (address m) (asked m) (bytes_read (log_of m))) (asked m) else asked m

-- the bus sequence of that log, which `bus::bus_sequence` makes of the same words
abbrev pub made_sequence : Made → List Sign
made_sequence m = bus_sequence (log_of m)

abbrev pub NotEmpty : Operation ℕ → Type 0
NotEmpty (writes []) = ⊥
NotEmpty (writes (b ∷ bs)) = Unit {0}
NotEmpty (reads zero) = ⊥
NotEmpty (reads (suc n)) = Unit {0}

-- the reads of DATA_CMD in a log, and the read words written there
abbrev pub taken_by : ℕ → ℕ → ℕ
taken_by r taken = if eqb r DATA_CMD then suc taken else taken

abbrev pub taken_in : List Entry → ℕ
taken_in [] = 0
taken_in (Read r v ∷ log) = taken_by r (taken_in log)
taken_in (Write r w ∷ log) = taken_in log
taken_in (Marked x ∷ log) = taken_in log

abbrev pub issued_by : ℕ → ℕ → ℕ → ℕ
issued_by r w issued = if eqb r DATA_CMD && cmd w then suc issued else issued

abbrev pub issued_in : List Entry → ℕ
issued_in [] = 0
issued_in (Read r v ∷ log) = issued_in log
issued_in (Write r w ∷ log) = issued_by r w (issued_in log)
issued_in (Marked x ∷ log) = issued_in log

-- wherever the log reads RXFLR, the level plus the reads of DATA_CMD before it is at most the number of read words written there before it
abbrev pub LevelsPossible : List Entry → Type 0
LevelsPossible log = (before after : List Entry) (v : ℕ)
    → log ≡ before ++ (Read RXFLR v ∷ after)
    → level v + taken_in before ≤ issued_in before

-- the premises, of a call as it was made
pub record Premises (m : Made) : Type 0 where
  pub succeeds : number m.ran.reply ≡ 0
  pub at_least_one : asked m ≢ []
  pub none_empty : Each NotEmpty (asked m)
  pub levels : LevelsPossible (log_of m)

-- under such premises two calls make the same sequence exactly if their addresses and their joined operations are the same
abbrev pub SameIf : (Made → Type 0) → Type 0
SameIf P = (m n : Made) → P m → P n
    → (made_sequence m ≡ made_sequence n)
    ↔ ((address m ≡ address n) × (joined (operations m) ≡ joined (operations n)))

-- the demand
abbrev pub SameSequence : Type 0
SameSequence = SameIf Premises

-- each sequence is the one that its own address and joined operations make alone
abbrev pub SequenceOfCall : Type 0
SequenceOfCall = (m : Made) → Premises m → made_sequence m ≡ sequence (address m) (joined (operations m))

-- and it tells both
abbrev pub ToldByCall : Type 0
ToldByCall = (m : Made) → Premises m
    → ((told (made_sequence m)).address ≡ address m)
    × ((told (made_sequence m)).operations ≡ joined (operations m))

-- With a packet error code, the bytes on the bus are a message with its code behind it: what the log wrote and read has
-- the code 0. Of a last read the code is the byte that came.
abbrev pub CodeOnTheBus : Type 0
CodeOnTheBus = (m : Made) → m.call.pec ≡ true → Premises m → crc8 (message (made_sequence m) (bytes_read (log_of m))) ≡ 0
