-- The rule of the table of registers, at every row by one test that antt
-- computes: offsets are multiples of 4 and ascend, so no two are equal.
use mathlib.Core.Path.{◌≡◌, refl, subst, sym}
use mathlib.Core.Bool.{Bool, true, false, ◌&&◌}
use mathlib.Core.List.{List, [], ◌∷◌}
use mathlib.Core.Logic.{⊎_elim}
use Prim.Native.Nat.{ℕ, zero, suc, ◌%◌, ◌<◌}
use native.Mathlib.Nat.{le_of_suc-le-suc, not-suc-le-zero, eq-or-lt_of_le}
use native.Mathlib.Omega.{arith}
use lib.Dec.{T, eqb, ltb, eqb→eq}
use lib.ListN.{length, get_or}
use borrow.Author.Tests.{ltb-true}
use Rattle.regs.specs.Registers.{row}

pub both_left : (a b : Bool) → T (a && b) → T a
both_left true b t = tt
both_left false b t = t

pub both_right : (a b : Bool) → T (a && b) → T b
both_right true b t = t
both_right false b t = absurd t

-- the test f passes at each number below n
abbrev pub all_below : (ℕ → Bool) → ℕ → Bool
all_below f zero = true
all_below f (suc n) = f n && all_below f n

pub under : (f : ℕ → Bool) (n : ℕ) → T (all_below f n) → (k : ℕ) → k < n → T (f k)
under f zero t k h = absurd (not-suc-le-zero h)
under f (suc n) t k h =
    ⊎_elim (λ e. subst (λ (m : ℕ). T (f m)) (sym e) (both_left (f n) (all_below f n) t))
    (λ l. under f n (both_right (f n) (all_below f n) t) k l) (eq-or-lt_of_le (le_of_suc-le-suc h))

pub test_true : (b : Bool) → T b → b ≡ true
test_true true t = refl
test_true false t = absurd t

pub aligned : (n : ℕ) → n < 25 → row n % 4 ≡ 0
aligned n h = eqb→eq (row n % 4) 0 (under (λ k. eqb (row k % 4) 0) 25 tt n h)

next_larger : (n : ℕ) → n < 24 → row n < row (suc n)
next_larger n h = ltb-true (row n) (row (suc n)) (test_true _ (under (λ k. ltb (row k) (row (suc k))) 24 tt n h))

-- a later row has a larger offset
pub ascending : (m n : ℕ) → m < n → n < 25 → row m < row n
ascending m zero h l = absurd (not-suc-le-zero h)
ascending m (suc n) h l =
    ⊎_elim (λ e. subst (λ (k : ℕ). row k < row (suc n)) (sym e) (next_larger n (omega arith)))
    (λ k. omega (arith, ascending m n k (omega arith), next_larger n (omega arith))) (eq-or-lt_of_le (le_of_suc-le-suc h))

-- what a list has at an index does not depend on what stands past its end
pub getD_inside : (l : List ℕ) (n d e : ℕ) → n < length l → get_or l n d ≡ get_or l n e
getD_inside [] n d e h = absurd (not-suc-le-zero h)
getD_inside (x ∷ l) zero d e h = refl
getD_inside (x ∷ l) (suc n) d e h = getD_inside l n d e (le_of_suc-le-suc h)
