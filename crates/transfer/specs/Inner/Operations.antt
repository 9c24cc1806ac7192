-- The operations that a caller lists by number.
use Rattle.std.specs.Prelude.{ℕ, List, length, eqb, nat_lt, slice_index, if◌then◌else◌, Option, None, Some}
use Rattle.master.specs.Operations.{READ, WRITE}
use Rattle.transfer.specs.declared.operations.Direction.{Direction}
use Rattle.transfer.specs.declared.operations.Direction.TheVariants.{Read, Write}

-- the number of a direction, and the direction of a number: any but a write's is a read's
abbrev pub number : Direction → ℕ
number Read = READ
number Write = WRITE

abbrev pub direction_of : ℕ → Direction
direction_of kind = if eqb kind WRITE then Write else Read

-- direction and length of operation k, where there is one
unfoldable pub listed_at : List ℕ → List ℕ → ℕ → Option (Direction × ℕ)
listed_at kinds lengths k =
    if nat_lt k (length kinds) then Some (direction_of (slice_index kinds k), slice_index lengths k) else None
