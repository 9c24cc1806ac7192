-- What is done to the lent buffer with an access, and what an access comes to.
use Rattle.std.specs.Prelude.{ℕ, Option, Result}
use Rattle.regs.specs.declared.answers.Reply.{Reply}

-- a byte, put at an index; or nothing
abbrev pub Store : Type 0
Store = Option (ℕ × ℕ)

-- the reading that was taken, 0 where none was, and how many readings are used then; or the reply with which the run stops
abbrev pub Performed : Type 0
Performed = Result (ℕ × ℕ) Reply
