-- The first places of a buffer, cleared, are the zeros that a call starts with.
use Prim.Native.Nat.{ℕ, ◌≤◌}
use native.Mathlib.Omega.{arith}
use mathlib.Core.List.{List}
use mathlib.Core.Path.{◌≡◌, ap, ◌∙◌}
use lib.ListN.{length, take, replicate, length-replicate}
use lib.Seq.{length-take-le}

module _ (n : ℕ) (buffer room : List ℕ) (fits : n ≤ length buffer) (z : room ≡ replicate (length (take n buffer)) 0) where
  places : length (take n buffer) ≡ n
  places = length-take-le n buffer fits

  pub zeros : room ≡ replicate n 0
  zeros = z ∙ ap (λ (k : ℕ). replicate k 0) places

  pub few_zeros : n ≤ 4096 → length room ≤ 4096
  few_zeros few = omega (arith, ap length zeros, length-replicate {A = ℕ} n 0, few)
