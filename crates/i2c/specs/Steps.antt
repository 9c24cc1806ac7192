-- Stepping the transfers by hand (`transfer_steps`, `transfer_access`; with a packet error code its running code beside them)
-- leaves what the calls are to leave.
use Rattle.std.specs.Prelude.{ℕ, ◌/◌, ◌<◌, Bool, true, false, List, [], ◌∷◌, ◌≡◌, length, if◌then◌else◌}
use Rattle.regs.specs.Program.{Outcome, just}
use Rattle.regs.specs.Log.{Each}
use Rattle.regs.specs.Steps.{Machine, stepped}
use Rattle.regs.specs.Inner.Summed.{summed_machine}
use Rattle.regs.specs.declared.answers.Answer.TheVariants.{Refused}
use Rattle.regs.specs.declared.answers.Refusal.TheVariants.{OverLimits}
use Rattle.regs.specs.declared.answers.Reply.{Reply}
use Rattle.regs.specs.declared.answers.Reply.TheVariants.{Answered}
use Rattle.master.specs.Calls.{Lent, reads_into, writes_from, writes_then_reads, transacts, Call}
use Rattle.master.specs.Calls.{within_limits, buffer_in, bytes_in, left_by_call}
use Rattle.master.specs.Operations.{READ, WRITE, blocking, async}
use Rattle.master.specs.Operations as Spec
use Rattle.master.specs.Inner.Running.{fresh, running}
use Rattle.transfer.specs.Inner.Machine.{started, next_of, advance_of, store_of}
use Rattle.transfer.specs.declared.Transfer.{Transfer}
use Rattle.transfer.specs.declared.Mode.{Mode}
use Rattle.transfer.specs.declared.Mode.TheVariants.{Blocking, Async}

-- what `start` is given: the mode,
abbrev pub mode_for : Spec.Mode → Mode
mode_for blocking = Blocking
mode_for async = Async

-- whether a read's first word carries RESTART,
abbrev pub restart_in : Lent → Bool
restart_in (reads_into buffer) = true
restart_in (writes_from bytes) = true
restart_in (writes_then_reads bytes buffer) = true
restart_in (transacts kinds lengths bytes buffer) = false

-- and, with `advance`, the operations by kinds and lengths
abbrev pub kinds_in : Lent → List ℕ
kinds_in (reads_into buffer) = READ ∷ []
kinds_in (writes_from bytes) = WRITE ∷ []
kinds_in (writes_then_reads bytes buffer) = WRITE ∷ READ ∷ []
kinds_in (transacts kinds lengths bytes buffer) = kinds

abbrev pub lengths_in : Lent → List ℕ
lengths_in (reads_into buffer) = length buffer ∷ []
lengths_in (writes_from bytes) = length bytes ∷ []
lengths_in (writes_then_reads bytes buffer) = length bytes ∷ length buffer ∷ []
lengths_in (transacts kinds lengths bytes buffer) = lengths

-- the functions of the contracts of `next_access`, `advance` and `store`; a transfer has no state of its own
abbrev pub steps_of : Bool → Lent → Machine
steps_of pec lent = record {
  S = Transfer;
  K = Unit {0};
  next = next_of (bytes_in lent);
  advance = advance_of pec (kinds_in lent) (lengths_in lent);
  store = store_of;
  state = λ t. tt;
}

abbrev pub start_of : Spec.Mode → ℕ → Lent → Transfer
start_of mode address lent = started (mode_for mode) (restart_in lent) address (kinds_in lent)

-- from the start. With a packet error code its running code goes beside the transfer from step to step: it takes in each
-- access, and by it the code is written and tested.
abbrev pub from_start : Bool → Spec.Mode → ℕ → Lent → ℕ → List ℕ → Outcome (Unit {0}) Reply
from_start false mode address lent room readings =
    stepped (steps_of false lent) room (start_of mode address lent) readings (buffer_in lent)
from_start true mode address lent room readings =
    stepped (summed_machine (running address) (steps_of true lent)) room (fresh, start_of mode address lent) readings
    (buffer_in lent)

-- `start` leaves the limits to its caller, who tests them, is refused by 20 where they are not met, and else steps from the start
abbrev pub by_steps : Call → List ℕ → List ℕ → Outcome (Unit {0}) Reply
by_steps c log readings =
    if within_limits c.lent
    then from_start c.pec c.mode c.address c.lent (length log / 2) readings
    else just (Answered (Refused OverLimits)) (buffer_in c.lent) tt

-- the bytes to write are bytes; where there is no code it does not matter
abbrev pub SendsBytes : Call → Type 0
SendsBytes c = c.pec ≡ true → Each (λ b. b < 256) (bytes_in c.lent)

abbrev pub SteppedTransfers : Type 0
SteppedTransfers = (c : Call) (log readings : List ℕ) → SendsBytes c → by_steps c log readings ≡ left_by_call c log readings
