-- The laws of the causes. None and the low bits go by what code computes (`as_coded`); the lowest goes by induction on the
-- definition, and the reasons by the three or four lowest bits.
use mathlib.Core.Path.{◌≡◌, refl, sym, ap, ap₂, subst, ◌∙◌}
use mathlib.Core.Bool.{Bool, true, false, not}
use mathlib.Core.Logic.{⊎_elim}
use Prim.Native.Nat.{ℕ, zero, suc, ◌+◌, ◌*◌, ◌/◌, ◌%◌, ◌^◌, ◌≤◌, ◌<◌}
use native.Mathlib.Nat.{div-one, eq-or-lt_of_le, le_antisymm, le_of_suc-le-suc, lt_of_not-le, mod-mod}
use native.Mathlib.Omega.{arith}
use borrow.Author.Tests.{eqb-false, eqb-true, eq-eqb, ne_eqb}
use lib.Dec.{eqb}
use lib.Pow.{field, mod-mod-pow, mod-pow-add}
use Rattle.regs.specs.Fields.{b2n, bit}
use Rattle.std.specs.Prelude.{Some, None}
use Rattle.regs_causes.specs.Causes.{set_from, lowest_from, CAUSES, causes_of}
use Rattle.regs_causes.specs.Laws.{NoneIfClear, Lowest, SetOtherwise, OnlyLowBits, AddressNotAcknowledged, DataNotAcknowledged, Rows}
use Rattle.regs_causes.specs.declared.Counted.{Counted}
use Rattle.regs_causes.proofs.Coded.{as_coded, coded}

pub only_low_bits : OnlyLowBits
only_low_bits w = as_coded w ∙ ap coded (sym (mod-mod w (2 ^ 17))) ∙ sym (as_coded (w % 2 ^ 17))

clear→none : (w : ℕ) → w % 2 ^ 17 ≡ 0 → causes_of w ≡ None
clear→none w h = as_coded w ∙ ap coded h

none→clear : (w : ℕ) → causes_of w ≡ None → w % 2 ^ 17 ≡ 0
none→clear w h = go (eqb (w % 2 ^ 17) 0) refl
  where
    go : (b : Bool) → eqb (w % 2 ^ 17) 0 ≡ b → w % 2 ^ 17 ≡ 0
    go true e = eqb-true _ _ e
    go false e =
        let set = rw (e) at (as_coded w) in
        let z : ◌≡◌ {A = ℕ} 0 1 = cc in omega arith

pub none_if_clear : NoneIfClear
none_if_clear w = (none→clear w, clear→none w)

-- ---- the count and the lowest, by the definition

b2n_le : (b : Bool) → b2n b ≤ 1
b2n_le true = omega arith
b2n_le false = omega arith

at_most : (n k w : ℕ) → set_from k n w ≤ n
unfolding set_from
at_most zero k w = omega arith
at_most (suc n) k w = omega (arith, b2n_le (bit k w), at_most n (suc k) w)

-- what is claimed of l as the lowest of the n bits of w from bit k on
record Is (k n w l : ℕ) : Type 0 where
  within : l < k + n
  set : bit l w ≡ true
  none_below : (j : ℕ) → k ≤ j → j < l → bit j w ≡ false

-- the lowest is bit k or, where that is clear, the lowest of the others
lowest_is : (n k w : ℕ) → (set_from k n w ≡ 0 → ⊥) → Is k n w (lowest_from k n w)
unfolding set_from lowest_from
lowest_is zero k w some = absurd (some refl)
lowest_is (suc n) k w some = go (bit k w) refl (λ h. lowest_is n (suc k) w h)
  where
    go : (b : Bool) → bit k w ≡ b → ((set_from (suc k) n w ≡ 0 → ⊥) → Is (suc k) n w (lowest_from (suc k) n w))
        → Is k (suc n) w (lowest_from k (suc n) w)
    go true e rest = rw e (record { within = omega arith; set = e; none_below = λ j low high. absurd (omega arith) })
    go false e rest =
        let r = rest (λ h. some (rw e (omega arith))) in
        rw e
        (record {
          within = omega (arith, r.within);
          set = r.set;
          none_below = λ j low high. ⊎_elim (λ same. rw (← same) e) (λ above. r.none_below j above high) (eq-or-lt_of_le low);
        })

nothing_set : (w : ℕ) → set_from 0 CAUSES w ≡ 0 → causes_of w ≡ None
unfolding causes_of
nothing_set w z = rw (eq-eqb _ _ z)

something_set : (w : ℕ) → (set_from 0 CAUSES w ≡ 0 → ⊥)
    → causes_of w ≡ Some (record { count = set_from 0 CAUSES w; lowest = lowest_from 0 CAUSES w })
unfolding causes_of
something_set w some = rw (ne_eqb _ _ some)

pub set_otherwise : SetOtherwise
set_otherwise w h =
    let some : set_from 0 CAUSES w ≡ 0 → ⊥ = λ z. h (none→clear w (nothing_set w z)) in
    let l = lowest_is 17 0 w some in (
      record { count = set_from 0 CAUSES w; lowest = lowest_from 0 CAUSES w },
      something_set w some,
      record {
        some = lt_of_not-le (λ z. some (omega arith));
        at_most_17 = at_most 17 0 w;
        a_cause = omega (arith, l.within);
        set = l.set;
        none_below = λ j low. l.none_below j (omega arith) low;
      },
    )

-- ---- the reasons

not_below : {a b : ℕ} → (a < b → ⊥) → b ≤ a
not_below h = le_of_suc-le-suc (lt_of_not-le h)

is_set : (k w : ℕ) → bit k w ≡ true → w / 2 ^ k % 2 ≡ 1
is_set k w e = eqb-true (w / 2 ^ k % 2) 1 e

is_clear : (k w : ℕ) → bit k w ≡ false → w / 2 ^ k % 2 ≡ 0
is_clear k w e = let ne = eqb-false (w / 2 ^ k % 2) 1 e in omega arith

-- one of the bits 0 to 2 is set: the low three bits are not all clear
low_three : (l w : ℕ) → l < 3 → bit l w ≡ true → w % 8 ≡ 0 → ⊥
low_three zero w h e z = omega (arith, is_set 0 w e)
low_three (suc zero) w h e z = omega (arith, is_set 1 w e)
low_three (suc (suc zero)) w h e z = omega (arith, is_set 2 w e)
low_three (suc (suc (suc l))) w h e z = omega arith

-- the bits below l are clear, and l is not below 3: the low three bits are clear
three_clear : (l w : ℕ) → 3 ≤ l → ((j : ℕ) → j < l → bit j w ≡ false) → w % 8 ≡ 0
three_clear l w h clear =
    let a : w % 2 ≡ 0 = ap (λ (x : ℕ). x % 2) (sym (div-one w)) ∙ is_clear 0 w (clear 0 (omega arith)) in
    let b : w / 2 % 2 ≡ 0 = is_clear 1 w (clear 1 (omega arith)) in
    let c : w / 4 % 2 ≡ 0 = is_clear 2 w (clear 2 (omega arith)) in
    let low : w % 4 ≡ 0 = mod-pow-add w 1 1 ∙ ap₂ (λ (x y : ℕ). x * 2 + y) b a in
    mod-pow-add w 1 2 ∙ ap₂ (λ (x y : ℕ). x * 4 + y) c low

-- the same of any count and lowest that a word is said to have
pub told : (w : ℕ) (c : Counted) → causes_of w ≡ Some c → Lowest w c
told w c e =
    let some : w % 2 ^ 17 ≡ 0 → ⊥ = λ z. none≢some (sym (clear→none w z) ∙ e) in
    let t = set_otherwise w some in
    let same : t.0 ≡ c = some_injective (sym t.1 ∙ e) in
    subst (λ (x : Counted). Lowest w x) same t.2
  where
    none≢some : None ≡ Some c → ⊥
    none≢some p = let z : ◌≡◌ {A = ℕ} 0 1 = cc in omega arith

    some_injective : {a : Counted} → Some a ≡ Some c → a ≡ c
    some_injective p = cc

not_true : (b : Bool) → not b ≡ true → b ≡ false
not_true true h = sym h
not_true false h = refl

not_false : (b : Bool) → not b ≡ false → b ≡ true
not_false true h = refl
not_false false h = sym h

-- without a cause bit 3 is clear
three_of_none : (w : ℕ) → w % 2 ^ 17 ≡ 0 → w / 8 % 2 ≡ 0
three_of_none w z =
    sym (mod-mod-pow (w / 8) 13 1) ∙ ap (λ (x : ℕ). x % 2) (sym (field w 14 3)) ∙ ap (λ (x : ℕ). x / 8 % 2) z

pub address_not_acknowledged : AddressNotAcknowledged
address_not_acknowledged w = (
  (λ h.
      let odd : w % 8 ≡ 0 → ⊥ = eqb-false _ _ (not_true _ h) in
      let t = set_otherwise w (λ z. odd (omega arith)) in
      (t.0, t.1, lt_of_not-le (λ high. odd (three_clear t.0.lowest w high t.2.none_below)))),
  (λ s.
      let t = told w s.0 s.1 in
      ap not (ne_eqb _ _ (low_three s.0.lowest w s.2 t.set))),
)

pub data_not_acknowledged : DataNotAcknowledged
data_not_acknowledged w = (
  (λ h.
      let even : w % 8 ≡ 0 = eqb-true _ _ (not_false _ h.0) in
      let at_3 : w / 8 % 2 ≡ 1 = is_set 3 w h.1 in
      let t = set_otherwise w (λ z. omega (arith, three_of_none w z)) in
      let least : 3 ≤ t.0.lowest = not_below (λ low. low_three t.0.lowest w low t.2.set even) in
      let most : t.0.lowest ≤ 3 = not_below (λ high. omega (arith, is_clear 3 w (t.2.none_below 3 high))) in
      (t.0, t.1, le_antisymm most least)),
  (λ s.
      let t = told w s.0 s.1 in (
        ap not (eq-eqb _ _ (three_clear s.0.lowest w (omega (arith, s.2)) t.none_below)),
        rw s.2 at t.set,
      )),
)

pub rows : Rows
unfolding causes_of set_from lowest_from
rows = record {
  nothing = refl;
  flush_count_only = refl;
  bit_17_only = refl;
  data_byte = refl;
  data_byte_and_arbitration = refl;
  all_causes = refl;
  bit_16_only = refl;
  all_bits = refl;
}
