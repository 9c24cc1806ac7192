-- What one entry of a log adds to the sequence, which `explain` shows beside each word, and what it is to put signs into a buffer.
use Rattle.std.specs.Prelude.{◌≡◌, ℕ, ◌+◌, List, [], length, eqb, if◌then◌else◌, Option, Some, None}
use Rattle.std.proofs.lemmas.List.Edits.{sets}
use Rattle.regs.specs.declared.access.Entry.{Entry}
use Rattle.regs.specs.declared.access.Entry.TheVariants.{Read, Write, Marked}
use Rattle.bus.specs.declared.Bus.{Bus}
use Rattle.bus.specs.declared.Sign.{Sign}
use Rattle.bus.specs.Bus.{after, signs_of}

-- what an entry writes to a register
abbrev pub written_by : ℕ → Entry → Option ℕ
written_by r (Read s v) = None
written_by r (Write s v) = if eqb s r then Some v else None
written_by r (Marked x) = None

abbrev pub made : Bus → ℕ → Option ℕ → List Sign
made bus address None = []
made bus address (Some w) = signs_of bus address w

abbrev pub moved : Bus → Option ℕ → Bus
moved bus None = bus
moved bus (Some w) = after w

-- the buffer with signs put into it from a place on, those past its end left out, and the place after the last
pub record Puts (before : List Sign) (at : ℕ) (ss : List Sign) (after : List Sign) (end : ℕ) : Type 0 where
  pub places : after ≡ sets before at ss
  pub next : end ≡ at + length ss
