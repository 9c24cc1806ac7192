-- Entries that a part of a run puts into a recording's log, one after the other.
use Rattle.std.specs.Prelude.{ℕ, ◌+◌, ◌<◌, ◌≤◌, Bool, true, List, [], ◌∷◌, ◌≡◌, get_or, length}
use Rattle.regs.specs.Inner.Machine.{entered}
use Rattle.regs.specs.Inner.Recording.{Keeps, room_of}
use Rattle.regs.specs.declared.access.Recording.{Recording}
use Rattle.regs.specs.declared.access.Entry.{Entry}
use Rattle.regs.specs.declared.access.Entry.TheVariants.{Read, Write, Marked}

-- n entries were put, which leaves the log l
pub record Puts (before : Recording) (n : ℕ) (l : List ℕ) (after : Recording) : Type 0 where
  pub keeps : Keeps before after
  pub log : after.log.now ≡ l
  pub entries : after.entries ≡ before.entries + n
  pub used : after.used ≡ before.used

-- entries were put, and the log had room for them
abbrev pub Grows : (before after : Recording) → Type 0
Grows before after = (before.entries < after.entries) × (after.entries ≤ room_of after)

-- a register was read
pub record Reads (before : Recording) (register v : ℕ) (after : Recording) : Type 0 where
  pub keeps : Keeps before after
  pub value : v ≡ get_or before.readings.now before.used 0
  pub log : after.log.now ≡ entered before.log.now before.entries (0x100 + register) v
  pub entries : after.entries ≡ before.entries + 1
  pub used : after.used ≡ before.used + 1

-- the two words of an entry
abbrev pub head_put : Entry → ℕ
head_put (Read r v) = 0x100 + r
head_put (Write r v) = 0x200 + r
head_put (Marked x) = 0x300 + x

abbrev pub value_put : Entry → ℕ
value_put (Read r v) = v
value_put (Write r v) = v
value_put (Marked x) = 0

-- entries are put one after the other, behind e + n others
abbrev pub put_from : List ℕ → ℕ → ℕ → List Entry → List ℕ
put_from l e n [] = l
put_from l e n (x ∷ xs) = put_from (entered l (e + n) (head_put x) (value_put x)) e (n + 1) xs

-- and behind e
abbrev pub put_all : List ℕ → ℕ → List Entry → List ℕ
put_all l e [] = l
put_all l e (x ∷ xs) = put_from (entered l e (head_put x) (value_put x)) e 1 xs

-- a poll found nothing: its entries are put, for which the log had room, and so many readings used, which were left
pub record Polled (before : Recording) (found_nothing : Bool) (readings : ℕ) (es : List Entry) (after : Recording) : Type 0 where
  pub keeps : Keeps before after
  pub nothing : found_nothing ≡ true
  pub left : before.used + readings ≤ length before.readings.now
  pub room : before.entries + length es ≤ room_of before
  pub log : after.log.now ≡ put_all before.log.now before.entries es
  pub entries : after.entries ≡ before.entries + length es
  pub used : after.used ≡ before.used + readings
