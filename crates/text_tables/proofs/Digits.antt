-- The digits of a number, by cases as the code goes through them.
use Prim.Native.Nat.{ℕ, zero, suc, ◌+◌, ◌-◌, ◌/◌, ◌%◌, ◌<◌, ◌≤◌}
use native.Mathlib.Numerals.{sub-one}
use mathlib.Core.List.{[], ◌∷◌, ◌++◌}
use mathlib.Core.Path.{◌≡◌, refl}
use borrow.Author.Tests.{lt-ltb, le-ltb}
use Rattle.text_tables.specs.Decimal.{digits}

pub no_digits : (k n : ℕ) → k ≡ 0 → digits k n ≡ []
unfolding digits
no_digits k n e = rw e

pub one_digit : (k n : ℕ) → (k ≡ 0 → ⊥) → n < 10 → digits k n ≡ (n + 48) ∷ []
unfolding digits
one_digit zero n f h = absurd (f refl)
one_digit (suc k) n f h = rw (lt-ltb n 10 h)

pub more_digits : (k n : ℕ) → (k ≡ 0 → ⊥) → 10 ≤ n → digits k n ≡ digits (k - 1) (n / 10) ++ ((n % 10 + 48) ∷ [])
unfolding digits
more_digits zero n f h = absurd (f refl)
more_digits (suc k) n f h = rw (le-ltb n 10 h, sub-one (suc k))
