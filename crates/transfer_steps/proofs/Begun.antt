-- The next operation: where `listed_at` has one, it is the one that `begun` opens.
use Prim.Native.Nat.{ℕ, ◌+◌, ◌<◌}
use mathlib.Core.Bool.{Bool}
use mathlib.Core.List.{List}
use mathlib.Core.Path.{◌≡◌, refl, ap}
use lib.Dec.{eqb, ltb}
use lib.ListN.{length}
use Rattle.std.specs.Prelude.{Some, slice_index}
use Rattle.std.proofs.lemmas.Option.{none-some, same_Some}
use Rattle.std.proofs.lemmas.Bool.{ltb-true}
use Rattle.regs.proofs.Tests.{by_test}
use Rattle.transfer.specs.Inner.Machine.{opened, length_for, begun}
use Rattle.transfer.specs.Inner.Operations.{direction_of, listed_at, number}
use Rattle.transfer.specs.declared.operations.Direction.{Direction}
use Rattle.transfer.specs.declared.Transfer.{Transfer}

-- a kind and its direction open the same operation
same_opened : (coded : Bool) (t : Transfer) (n kind len : ℕ) (last : Bool)
    → opened coded t n (number (direction_of kind)) len last ≡ opened coded t n kind len last
unfolding opened
same_opened coded t n kind len last = by_test (eqb kind 1) (λ q. rw q refl) (λ q. rw q refl)

-- what is listed at the next place, and that there is one
pub next_listed : (coded : Bool) (kinds lengths : List ℕ) (t : Transfer) {d : Direction} {len : ℕ}
    → listed_at kinds lengths t.begun ≡ Some (d, len)
    → (t.begun < length kinds)
    × (opened coded t (t.begun + 1) (number d) (length_for coded (eqb (t.begun + 1) (length kinds)) len) (eqb (t.begun + 1) (length kinds))
    ≡ begun coded kinds lengths t)
unfolding listed_at begun
next_listed coded kinds lengths t {d} {len} e = by_test (ltb t.begun (length kinds))
    (λ q. let both = same_Some _ _ (rw q at e) in (
      ltb-true _ _ q,
      rw (q, ← ap (λ (z : Direction × ℕ). z.0) both, ← ap (λ (z : Direction × ℕ). z.1) both)
          (same_opened coded t (t.begun + 1) (slice_index kinds t.begun) _ _),
    ))
    (λ q. absurd (none-some _ (rw q at e)))
