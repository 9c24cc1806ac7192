-- Spaces up to a column, one after the other, and how long a text is that was put.
use Prim.Native.Nat.{ℕ, suc, ◌+◌, ◌-◌, ◌<◌, ◌≤◌}
use native.Mathlib.Omega.{arith}
use mathlib.Core.List.{List, [], ◌∷◌, ◌++◌}
use mathlib.Core.Path.{◌≡◌, ap, ◌∙◌}
use lib.ListN.{length, take, replicate, length-append}
use lib.Seq.{length-take-le}
use Rattle.text_hex.specs.Appended.{Appended}

pub space_next : (column i : ℕ) → i < column → replicate {A = ℕ} (column - i) 32 ≡ (32 ∷ []) ++ replicate (column - (i + 1)) 32
space_next column i h = let n : column - i ≡ suc (column - (i + 1)) = omega arith in rw n

pub spaces_end : (column i : ℕ) → column ≤ i → replicate {A = ℕ} (column - i) 32 ≡ []
spaces_end column i h = let n : column - i ≡ 0 = omega arith in rw n

-- a text ends its length behind where it begins
pub long : {before after text : List ℕ} {at most end : ℕ}
    → Appended before at text most after end
    → at ≤ length before
    → end ≤ length after
    → end ≡ at + length text
long {before = before} {after = after} {text = text} {at = at} {end = end} a g h =
    let e : length (take end after) ≡ length (take at before) + length text = ap length a.same ∙ length-append (take at before) text in
    omega (arith, e, length-take-le end after h, length-take-le at before g)
