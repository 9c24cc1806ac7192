-- What a caller of the steps holds of a transfer.
use Rattle.std.specs.Prelude.{ℕ, Bool, List, None}
use Rattle.regs.specs.Answers.{number, detail}
use Rattle.regs.specs.declared.answers.Reply.TheVariants.{Answered}
use Rattle.regs.specs.Store.{Store}
use Rattle.transfer.specs.Inner.Machine.{store_of, advance_of}
use Rattle.transfer.specs.declared.Point.{Point}
use Rattle.transfer.specs.declared.Point.TheVariants.{Setup, Abort, ReadBlocking, WriteBlocking, ReadAsync}
use Rattle.transfer.specs.declared.Point.TheVariants.{WriteAsync, Wait, Stop, Finished}
use Rattle.transfer.specs.declared.Transfer.{Transfer}

-- a transfer under way, or the number and the detail of the answer
pub data Held : Type 0 where
  Live : Transfer → Held
  Over : ℕ → ℕ → Held

unfoldable pub held_in : Transfer → Point → Held
held_in t (Setup p) = Live t
held_in t (Abort p c) = Live t
held_in t (ReadBlocking p) = Live t
held_in t (WriteBlocking p) = Live t
held_in t (ReadAsync p) = Live t
held_in t (WriteAsync p) = Live t
held_in t (Wait p) = Live t
held_in t (Stop p) = Live t
held_in t (Finished a) = Over (number (Answered a)) (detail (Answered a))

abbrev pub held_of : Transfer → Held
held_of t = held_in t t.point

-- after an access that read v: the operations are listed by kinds and lengths, with a packet error code where `coded`
abbrev pub advanced_held : Bool → List ℕ → List ℕ → Held → ℕ → Held
advanced_held coded kinds lengths (Live t) v = held_of (advance_of coded kinds lengths t v)
advanced_held coded kinds lengths (Over n d) v = Over n d

-- what that access puts into the read buffer
abbrev pub store_held : Held → ℕ → Store
store_held (Live t) v = store_of t v
store_held (Over n d) v = None
