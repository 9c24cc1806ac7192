-- What the proofs about the slave share.
use Prim.Native.Nat.{ℕ}
use mathlib.Core.Bool.{Bool, true, false, ◌||◌, true≢false}
use mathlib.Core.List.{List}
use mathlib.Core.Path.{◌≡◌, refl, sym}
use Rattle.std.specs.Prelude.{Option, None, is_some}
use Rattle.regs.specs.Program.{Behaviour, Outcome, outcome}
use Rattle.regs.specs.declared.answers.Answer.{Answer}
use Rattle.regs.specs.declared.answers.Reply.{Reply}
use Rattle.regs.specs.declared.answers.Reply.TheVariants.{Answered, LogFull, OutOfReadings}
use Rattle.slave.specs.declared.SlaveState.{SlaveState}

-- what a run leaves of a behaviour
abbrev pub Out : Behaviour SlaveState Answer → ℕ → List ℕ → List ℕ → SlaveState → Outcome SlaveState Reply
Out = outcome Answered LogFull OutOfReadings

-- a state from its parts
abbrev pub state : Option ℕ → ℕ → Bool → SlaveState
state p address g = record { pending_byte = p; address = address; general_call = g }

pub or_true : (q : Bool) → (q || true) ≡ true
or_true true = refl
or_true false = refl

-- no byte is pending
pub none_pending : {p : Option ℕ} {P : Type 0} → p ≡ None → is_some p ≡ true → P
none_pending e h = absurd (true≢false (sym (rw e at h)))
