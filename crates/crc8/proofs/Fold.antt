-- A message taken byte by byte is a fold.
use Prim.Native.Nat.{ℕ}
use mathlib.Core.List.{List, [], ◌∷◌}
use mathlib.Core.Path.{◌≡◌, refl}
use Rattle.std.specs.Prelude.{fold}
use Rattle.crc8.specs.Crc8.{after_byte, crc8_from}

pub crc8_from_fold : (start : ℕ) (bytes : List ℕ) → crc8_from start bytes ≡ fold after_byte start bytes
unfolding crc8_from
crc8_from_fold start [] = refl
crc8_from_fold start (x ∷ xs) = crc8_from_fold (after_byte start x) xs
