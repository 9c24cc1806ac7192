-- A rule of a table, proved at all of its entries by one test that antt computes, one entry after the other; and
-- the table of the digits of every byte.
-- The test goes along the list: rows looked up by their number, as in regs, would cost a walk for each of 512 entries.
use Prim.Native.Nat.{ℕ, zero, suc, ◌+◌, ◌*◌, ◌/◌, ◌%◌, ◌<◌}
use native.Mathlib.Omega.{arith}
use native.Mathlib.Nat.{zero-add, add-zero, add-suc, suc-add}
use mathlib.Core.Bool.{Bool, true, ◌&&◌}
use mathlib.Core.List.{List, [], ◌∷◌}
use mathlib.Core.Path.{◌≡◌, ◌∙◌}
use lib.Dec.{eqb}
use lib.ListN.{length, get_or}
use borrow.Author.Tests.{eqb-true}
use Rattle.regs.proofs.Tests.{both_of}
use Rattle.std.specs.Prelude.{if◌then◌else◌}
use Rattle.text_hex.specs.Text.{char_of}
use Rattle.text_hex.specs.Pairs.{DigitPairs}

-- each entry is what f says of its place, counted from i
unfoldable pub every : (ℕ → ℕ) → ℕ → List ℕ → Bool
every f i [] = true
every f i (x ∷ xs) = eqb x (f i) && every f (suc i) xs

from : (f : ℕ → ℕ) (xs : List ℕ) (i : ℕ) → every f i xs ≡ true → (k : ℕ) → k < length xs → get_or xs k 0 ≡ f (i + k)
unfolding every
from f [] i t k h = absurd (omega arith)
from f (x ∷ xs) i t zero h = rw add-zero (eqb-true x (f i) (both_of (eqb x (f i)) _ t).0)
from f (x ∷ xs) i t (suc k) h = rw (add-suc, ← suc-add) (from f xs (suc i) (both_of (eqb x (f i)) _ t).1 k (omega arith))

pub at : (f : ℕ → ℕ) (xs : List ℕ) → every f 0 xs ≡ true → (k : ℕ) → k < length xs → get_or xs k 0 ≡ f k
at f xs t k h = from f xs 0 t k h ∙ rw zero-add

unfoldable pub digit_at : ℕ → ℕ
digit_at k = if eqb (k % 2) 0 then char_of (k / 2 / 16 % 16) else char_of (k / 2 % 16)

pub digit_pairs : (xs : List ℕ) → length xs ≡ 512 → every digit_at 0 xs ≡ true → DigitPairs xs
unfolding digit_at
digit_pairs xs z t =
    record {
      size = z;
      high = λ b h.
          let e : b * 2 % 2 ≡ 0 = omega arith in
          let d : b * 2 / 2 ≡ b = omega arith in
          at digit_at xs t (b * 2) (omega arith) ∙ rw (e, d);
      low = λ b h.
          let e : (b * 2 + 1) % 2 ≡ 1 = omega arith in
          let d : (b * 2 + 1) / 2 ≡ b = omega arith in
          at digit_at xs t (b * 2 + 1) (omega arith) ∙ rw (e, d);
    }
