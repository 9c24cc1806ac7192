-- `causes`: the mask keeps the low 17 bits (`and_mask`), and of those the two counts are what `causes_of` says (`as_coded`).
-- A count of 32 digits is at most 32, so it fits a byte.
use mathlib.Core.Path.{◌≡◌, ap, sym, ◌∙◌}
use Prim.Native.Nat.{ℕ, ◌%◌, ◌^◌, ◌<◌}
use native.Mathlib.Omega.{arith}
use borrow.Author.Tests.{ne_eqb}
use lib.Bits.{and_mask}
use lib.Count.{ones, ones-le, trailing_le, count_trailing_zeros}
use Rattle.regs_causes.specs.Causes.{causes_of}
use Rattle.std.specs.Prelude.{Some, None}
use Rattle.regs_causes.proofs.Coded.{as_coded, coded}
use Rattle.regs_causes.proofs.causes.Goals as goal

of_clear : (w : ℕ) → w % 2 ^ 17 ≡ 0 → causes_of w ≡ None
of_clear w h = as_coded w ∙ ap coded h

of_set : (w : ℕ) → (w % 2 ^ 17 ≡ 0 → ⊥)
    → causes_of w ≡ Some (record { count = ones (w % 2 ^ 17); lowest = count_trailing_zeros 32 (w % 2 ^ 17) })
of_set w h = rw (as_coded w, ne_eqb _ _ h)

ones_fit : (n : ℕ) → n < 2 ^ 32 → ones n < 2 ^ 8
ones_fit n h = omega (arith, ones-le 32 n h)

zeros_fit : (n : ℕ) → count_trailing_zeros 32 n < 2 ^ 8
zeros_fit n = omega (arith, trailing_le 32 n)

pub returns-then-masked-eq0 : goal.returns-then-masked-eq0
returns-then-masked-eq0 c = let w = c.args.word in
    sym (of_clear w (omega (arith, and_mask w 17)))

pub returns : goal.returns
returns c = let w = c.args.word in
    rw (of_set w (λ z. c.if-masked-eq0.false (omega (arith, and_mask w 17))), ← and_mask w 17)
