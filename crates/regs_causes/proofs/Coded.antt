-- The counts that code takes of the low bits, `ones` and `count_trailing_zeros` (lib.Count), are those of the definition, bit by
-- bit. By induction on how many bits are looked at: halving a part of a word drops its lowest bit.
use mathlib.Core.Path.{◌≡◌, refl, sym, ap, ap₂, ◌∙◌}
use mathlib.Core.Bool.{Bool, true, false}
use Prim.Native.Nat.{ℕ, zero, suc, ◌+◌, ◌/◌, ◌%◌, ◌^◌, ◌≤◌, ◌<◌}
use native.Mathlib.Nat.{add-zero, div-one, mod-lt, mod-one, zero-add}
use native.Mathlib.Numerals.{add-one}
use native.Mathlib.Omega.{arith}
use borrow.Author.Tests.{eqb-false, eqb-true, eq-eqb, ne_eqb}
use lib.Count.{ones, ones_step, count_trailing_zeros, under}
use lib.Dec.{eqb, lit<, lit≤}
use lib.Pow.{field, mod-mod-pow, shr-shr}
use Rattle.regs.specs.Fields.{b2n, bit}
use Rattle.std.specs.Prelude.{if◌then◌else◌, Option, Some, None}
use Rattle.regs_causes.specs.Causes.{set_from, lowest_from, CAUSES, causes_of}
use Rattle.regs_causes.specs.declared.Counted.{Counted}

-- the n bits of w from bit k on
abbrev part : ℕ → ℕ → ℕ → ℕ
part k n w = w / 2 ^ k % 2 ^ n

part_half : (k n w : ℕ) → part k (suc n) w / 2 ≡ part (suc k) n w
part_half k n w =
    ap (λ (x : ℕ). w / 2 ^ k % 2 ^ x / 2) (sym (add-one n)) ∙ field (w / 2 ^ k) n 1
    ∙ ap (λ (x : ℕ). x % 2 ^ n) (shr-shr w k 1 ∙ ap (λ (x : ℕ). w / 2 ^ x) (add-one k))

part_odd : (k n w : ℕ) → part k (suc n) w % 2 ≡ w / 2 ^ k % 2
part_odd k n w = ap (λ (x : ℕ). w / 2 ^ k % 2 ^ x % 2) (sym (add-one n)) ∙ mod-mod-pow (w / 2 ^ k) n 1

digit_lt : (k w : ℕ) → w / 2 ^ k % 2 < 2
digit_lt k w = mod-lt (w / 2 ^ k) (lit< tt)

digit : (d : ℕ) → d < 2 → b2n (eqb d 1) ≡ d
digit zero h = refl
digit (suc zero) h = refl
digit (suc (suc d)) h = absurd (omega arith)

-- a part whose lowest bit and whose others are clear is 0
part_zero : (k n w : ℕ) → w / 2 ^ k % 2 ≡ 0 → part (suc k) n w ≡ 0 → part k (suc n) w ≡ 0
part_zero k n w d r = omega (arith, part_odd k n w, part_half k n w)

ones_from : (n k w : ℕ) → ones (part k n w) ≡ set_from k n w
unfolding ones set_from
ones_from zero k w = ap ones (mod-one (w / 2 ^ k))
ones_from (suc n) k w =
    ones_step (part k (suc n) w)
    ∙ ap₂ (λ (x y : ℕ). x + ones y) (part_odd k n w ∙ sym (digit (w / 2 ^ k % 2) (digit_lt k w))) (part_half k n w)
    ∙ ap (λ (x : ℕ). b2n (bit k w) + x) (ones_from n (suc k) w)

none_from : (n k w : ℕ) → set_from k n w ≡ 0 → part k n w ≡ 0
unfolding set_from
none_from zero k w h = mod-one (w / 2 ^ k)
none_from (suc n) k w h =
    part_zero k n w (omega (arith, digit (w / 2 ^ k % 2) (digit_lt k w))) (none_from n (suc k) w (omega arith))

-- a digit that is set ends the zeros below it, and one that is clear adds one
under_digit : (d k t r : ℕ) → d < 2 → (d ≡ 0 → suc k + t ≡ r) → k + under d t ≡ (if eqb d 1 then k else r)
under_digit zero k t r h e = omega (arith, e refl)
under_digit (suc zero) k t r h e = add-zero k
under_digit (suc (suc d)) k t r h e = absurd (omega arith)

zeros_from : (n m k w : ℕ) → n ≤ m → (part k n w ≡ 0 → ⊥) → k + count_trailing_zeros m (part k n w) ≡ lowest_from k n w
unfolding count_trailing_zeros lowest_from
zeros_from zero m k w h some = absurd (some (mod-one (w / 2 ^ k)))
zeros_from (suc n) zero k w h some = absurd (omega arith)
zeros_from (suc n) (suc m) k w h some =
    ap₂ (λ (x y : ℕ). k + under x (count_trailing_zeros m y)) (part_odd k n w) (part_half k n w)
    ∙ under_digit (w / 2 ^ k % 2) k (count_trailing_zeros m (part (suc k) n w)) (lowest_from (suc k) n w) (digit_lt k w)
    (λ clear. zeros_from n m (suc k) w (omega arith) (λ rest. some (part_zero k n w clear rest)))

ones_zero : ones 0 ≡ 0
unfolding ones
ones_zero = refl

-- what code computes of the masked word
abbrev pub coded : ℕ → Option Counted
coded m = if eqb m 0 then None else Some (record { count = ones m; lowest = count_trailing_zeros 32 m })

-- the low bits of a word, as a part of it
whole : (w : ℕ) → part 0 17 w ≡ w % 2 ^ 17
whole w = ap (λ (x : ℕ). x % 2 ^ 17) (div-one w)

pub as_coded : (w : ℕ) → causes_of w ≡ coded (w % 2 ^ 17)
unfolding causes_of
as_coded w = go (eqb (w % 2 ^ 17) 0) refl
  where
    counted : ones (w % 2 ^ 17) ≡ set_from 0 CAUSES w
    counted = ap ones (sym (whole w)) ∙ ones_from 17 0 w

    go : (b : Bool) → eqb (w % 2 ^ 17) 0 ≡ b → causes_of w ≡ coded (w % 2 ^ 17)
    go true e =
        let none : set_from 0 CAUSES w ≡ 0 = sym counted ∙ ap ones (eqb-true _ _ e) ∙ ones_zero in
        rw (eq-eqb _ _ none, e)
    go false e =
        let some : part 0 17 w ≡ 0 → ⊥ = λ h. eqb-false _ _ e (sym (whole w) ∙ h) in
        let lowest : count_trailing_zeros 32 (w % 2 ^ 17) ≡ lowest_from 0 CAUSES w =
        ap (count_trailing_zeros 32) (sym (whole w)) ∙ sym (zero-add _) ∙ zeros_from 17 32 0 w (lit≤ tt) some
        in
        rw (ne_eqb _ _ (λ h. some (none_from 17 0 w h)), e, counted, lowest)
