-- Bytes are stored in reads alone, so that the group need not be looked at to find an end.
use Prim.Native.Nat.{ℕ, ◌<◌}
use mathlib.Core.Path.{◌≡◌, refl}
use mathlib.Core.Bool.{Bool, true, false}
use mathlib.Core.List.{List}
use native.Mathlib.Omega.{arith}
use borrow.Author.Tests.{ltb-true, ne_eqb}
use lib.Dec.{eqb, ltb}
use lib.ListN.{get_or}
use Rattle.std.specs.Prelude.{if◌then◌else◌, None}
use Rattle.transfer.specs.Inner.Machine.{store_at, store_of}
use Rattle.transfer.specs.declared.Point.{Point}
use Rattle.transfer.specs.declared.Transfer.{Transfer}
use Rattle.words_points.specs.Held.{Live, Over, store_held}
use Rattle.words_points.specs.Inner.Numbers.{point_at}
use Rattle.words_points.specs.declared.Place.{Place}
use Rattle.words.specs.Inner.Words.{place_in, transfer_in, held_at}

module _ (t : Transfer) (v : ℕ) where
  either : (b : Bool) (p q : Point) → store_at t p v ≡ None → store_at t q v ≡ None → store_at t (if b then p else q) v ≡ None
  either true p q h k = h
  either false p q h k = k

  pub none_stored : (p : Place) → eqb p.group 2 ≡ false → eqb p.group 4 ≡ false → store_at t (point_at p) v ≡ None
  unfolding point_at store_at
  none_stored p h k =
      simp (h, k)
      (either (eqb p.group 0) _ _ refl
      (either (eqb p.group 1) _ _ refl
      (either (eqb p.group 3) _ _ refl
      (either (eqb p.group 5) _ _ refl (either (eqb p.group 6) _ _ refl (either (eqb p.group 7) _ _ refl refl))))))

-- either way of `held_at`
by_end : (b : Bool) (n d : ℕ) (t : Transfer) (v : ℕ)
    → (b ≡ true → store_of t v ≡ None)
    → store_of t v ≡ store_held (if b then Over n d else Live t) v
by_end true n d t v h = h refl
by_end false n d t v h = refl

pub stored_at : (s : List ℕ) (v : ℕ) → store_of (transfer_in s) v ≡ store_held (held_at s) v
unfolding transfer_in place_in held_at
stored_at s v =
    by_end (ltb 7 (get_or s 0 0)) _ _ (transfer_in s) v
    (λ h.
    let over : 7 < get_or s 0 0 = ltb-true 7 (get_or s 0 0) h in
    none_stored (transfer_in s) v (place_in s) (ne_eqb (get_or s 0 0) 2 (λ (e : get_or s 0 0 ≡ 2). omega arith))
    (ne_eqb (get_or s 0 0) 4 (λ (e : get_or s 0 0 ≡ 4). omega arith)))
