-- A number in decimal digits (`0` is 48), without zeros in front.
use Rattle.std.specs.Prelude.{ℕ, zero, suc, ◌+◌, ◌/◌, ◌%◌, List, [], ◌∷◌, ◌++◌, ltb, if◌then◌else◌}

-- its last k digits at most: those of its tenth, then the one that is left over
unfoldable pub digits : ℕ → ℕ → List ℕ
digits zero n = []
digits (suc k) n = if ltb n 10 then (n + 48) ∷ [] else digits k (n / 10) ++ ((n % 10 + 48) ∷ [])
