-- Digits read back are the number.
use Prim.Native.Nat.{ℕ, zero, suc, ◌+◌, ◌*◌, ◌-◌, ◌/◌, ◌%◌, ◌<◌}
use native.Mathlib.Omega.{arith}
use mathlib.Core.Bool.{Bool, true, false}
use mathlib.Core.List.{List, [], ◌∷◌, ◌++◌}
use mathlib.Core.Path.{◌≡◌, refl}
use lib.Dec.{ltb}
use Rattle.std.specs.Prelude.{if◌then◌else◌}
use Rattle.text_tables.specs.Decimal.{digits}

-- the number that digits write, behind those that write `high`
abbrev pub number_of : ℕ → List ℕ → ℕ
number_of high [] = high
number_of high (c ∷ cs) = number_of (high * 10 + (c - 48)) cs

-- ten to the k
abbrev pub numbers : ℕ → ℕ
numbers zero = 1
numbers (suc k) = 10 * numbers k

and_last : (high : ℕ) (cs : List ℕ) (c : ℕ) → number_of high (cs ++ (c ∷ [])) ≡ number_of high cs * 10 + (c - 48)
and_last high [] c = refl
and_last high (d ∷ cs) c = and_last (high * 10 + (d - 48)) cs c

pub read_back : (k n : ℕ) → n < numbers k → number_of 0 (digits k n) ≡ n
unfolding digits
read_back zero n h = omega arith
read_back (suc k) n h = go (ltb n 10) refl (read_back k (n / 10) (omega arith))
  where
    go : (q : Bool)
        → ltb n 10 ≡ q
        → number_of 0 (digits k (n / 10)) ≡ n / 10
        → number_of 0 (if q then (n + 48) ∷ [] else digits k (n / 10) ++ ((n % 10 + 48) ∷ [])) ≡ n
    go true e ih = omega arith
    go false e ih = rw (and_last 0 (digits k (n / 10)) (n % 10 + 48), ih) (omega arith)
