-- What tests say.
use Prim.Native.Nat.{ℕ}
use native.Mathlib.Omega.{arith}
use mathlib.Core.Bool.{Bool, true, false, ◌&&◌}
use mathlib.Core.Path.{◌≡◌, refl, ap}
use Rattle.std.specs.Prelude.{if◌then◌else◌}

pub false_true : false ≡ true → ⊥
false_true z = let y : ◌≡◌ {A = ℕ} 0 1 = ap (λ (t : Bool). if t then 1 else 0) z in omega arith

-- both of two tests
pub both_of : (a b : Bool) → a && b ≡ true → (a ≡ true) × (b ≡ true)
both_of true b e = (refl, e)
both_of false b e = absurd (false_true e)

-- by cases of a test, with what it said
pub by_test : {P : Type 0} (q : Bool) → (q ≡ true → P) → (q ≡ false → P) → P
by_test true f g = f refl
by_test false f g = g refl
