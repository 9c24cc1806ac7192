-- What a call leaves as it was, by the last column of the table of refusals (docs/MANUAL.md, "The numbers"): all, where
-- the row says that there is no access; the rest of the buffer, where bytes were received before the call ended.
use Rattle.std.specs.Prelude.{ℕ, ◌≤◌, Bool, false, ◌||◌, List, [], ◌∷◌, ◌++◌, ◌≡◌, eqb, length, take, drop, if◌then◌else◌}
use Rattle.regs.specs.Registers.{DATA_CMD}
use Rattle.regs.specs.Fields.{dat}
use Rattle.regs.specs.Program.{Outcome}
use Rattle.regs.specs.Answers.{number}
use Rattle.regs.specs.declared.access.Entry.{Entry}
use Rattle.regs.specs.declared.access.Entry.TheVariants.{Read, Write, Marked}
use Rattle.regs.specs.declared.answers.Reply.{Reply}

-- the rows that say "all, no access"
abbrev pub NO_ACCESS : List ℕ
NO_ACCESS = 1 ∷ 2 ∷ 3 ∷ 6 ∷ 13 ∷ 16 ∷ 17 ∷ 20 ∷ []

abbrev pub among : List ℕ → ℕ → Bool
among [] n = false
among (m ∷ ms) n = eqb m n || among ms n

abbrev pub no_access : Reply → Bool
no_access r = among NO_ACCESS (number r)

-- no entry in the log; buffer and state are as they were
pub record Untouched {S : Type 0} (before : List ℕ) (me : S) (o : Outcome S Reply) : Type 0 where
  pub log : o.log ≡ []
  pub buffer : o.buffer ≡ before
  pub state : o.state ≡ me

-- the bytes that a log reads from DATA_CMD, in order
abbrev pub bytes_read : List Entry → List ℕ
bytes_read [] = []
bytes_read (Read r v ∷ es) = if eqb r DATA_CMD then dat v ∷ bytes_read es else bytes_read es
bytes_read (Write r v ∷ es) = bytes_read es
bytes_read (Marked x ∷ es) = bytes_read es

-- The bytes that the driver kept before and those read since, in order, are the first k of the buffer
-- and those that it keeps now: none is lost, doubled or moved. The rest of the buffer is as it was.
pub record Stored {S : Type 0} (kept : S → List ℕ) (k : ℕ) (before : List ℕ) (me : S) (o : Outcome S Reply) : Type 0 where
  pub within : k ≤ length before
  pub bytes : kept me ++ bytes_read o.log ≡ take k o.buffer ++ kept o.state
  pub others : drop k o.buffer ≡ drop k before
  pub size : length o.buffer ≡ length before
