-- A step that leads to one of two points.
use Prim.Native.Nat.{ℕ}
use mathlib.Core.Bool.{Bool, true, false}
use mathlib.Core.List.{List}
use mathlib.Core.Path.{◌≡◌, refl}
use Rattle.std.specs.Prelude.{if◌then◌else◌}
use Rattle.transfer.specs.Inner.Points.{with_point}
use Rattle.transfer.specs.Inner.Machine.{moved_to}
use Rattle.transfer.specs.declared.Transfer.{Transfer}
use Rattle.transfer.specs.declared.Point.{Point}
use Rattle.transfer.specs.Inner.Machine.{go}

pub chosen : (coded : Bool) (kinds lengths : List ℕ) (t : Transfer) (z : Bool) (p q : Point)
    → moved_to coded kinds lengths t (if z then go p else go q) ≡ with_point t (if z then p else q)
chosen coded kinds lengths t true p q = refl
chosen coded kinds lengths t false p q = refl
