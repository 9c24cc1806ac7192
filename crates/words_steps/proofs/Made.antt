-- A step that was made, and one that was not.
use Prim.Native.Nat.{ℕ, ◌-◌, ◌<◌, ◌≤◌}
use mathlib.Core.Path.{◌≡◌, refl}
use mathlib.Core.Bool.{Bool, false}
use mathlib.Core.List.{List}
use native.Mathlib.Nat.{mod-eq_of_lt}
use native.Mathlib.Omega.{arith}
use borrow.Author.Tests.{le-ltb, ne_eqb}
use lib.Dec.{eqb, ltb}
use lib.ListN.{get_or}
use Rattle.regs.specs.Fields.{level}
use Rattle.words_points.specs.Held.{Live, advanced_held}
use Rattle.words.specs.Inner.Words.{half_of, transfer_in, held_at}
use Rattle.words_steps.specs.Inner.InPlace.{Made, group_at, row_at}
use Rattle.words_steps.specs.declared.Reached.{Reached}

-- words e stand for where an access that read v leads from words s
abbrev pub Leads : List ℕ → ℕ → List ℕ → Type 0
Leads s v e = (coded : Bool) (kinds lengths : List ℕ) → held_at e ≡ advanced_held coded kinds lengths (held_at s) v

live_at : (s : List ℕ) (g : ℕ) → get_or s 0 0 ≡ g → ltb 7 g ≡ false → held_at s ≡ Live (transfer_in s)
unfolding held_at
live_at s g h k = rw (h, k) refl

pub made : {s : List ℕ} {v : ℕ} {reached : Reached} {e : List ℕ}
    → ltb 7 (group_at reached) ≡ false
    → Leads s v e × (get_or e 0 0 ≡ group_at reached) × (get_or e 1 0 ≡ row_at reached)
    → Made s v reached e
made {s} {v} {reached} {e} group l =
    record { moved = l.0; live = live_at e (group_at reached) l.1 group; at = (l.1, l.2) }

-- from a point, where H holds, the step that is made by f leads to another
abbrev pub Law : Reached → Reached → ℕ → (List ℕ → Type 0) → (List ℕ → List ℕ) → List ℕ → Type 0
Law from to v H f s = get_or s 0 0 ≡ group_at from → get_or s 1 0 ≡ row_at from → H s → Made s v to (f s)

-- a number of 16 bits is kept by a word
pub small : (n m : ℕ) → n ≤ half_of m → half_of n ≡ n
small n m h = mod-eq_of_lt (omega arith)

-- the level leaves a place in the FIFO
module _ (v : ℕ) (h : level v < 16) where
  pub not_over : ltb 16 (level v) ≡ false
  not_over = le-ltb 16 (level v) (omega arith)

  pub some_free : eqb (16 - level v) 0 ≡ false
  some_free = ne_eqb (16 - level v) 0 (λ (e : 16 - level v ≡ 0). omega arith)
