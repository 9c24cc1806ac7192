-- The sequence tells the address and the operations: `told` gives them back.
use Prim.Native.Nat.{ℕ, zero, suc, ◌+◌, ◌*◌, ◌/◌, ◌%◌}
use native.Mathlib.Omega.{arith}
use native.Mathlib.Nat.{add-zero, zero-add, add-suc}
use mathlib.Core.Path.{◌≡◌, refl}
use mathlib.Core.Logic.{◌≢◌}
use mathlib.Core.List.{List, [], ◌∷◌, ◌++◌, map, append-nil}
use lib.ListN.{replicate}
use Rattle.bus.specs.declared.Direction.{Direction}
use Rattle.bus.specs.declared.Direction.TheVariants.{Writing, Reading}
use Rattle.bus.specs.declared.Sign.{Sign}
use Rattle.bus.specs.declared.Sign.TheVariants.{Restart, Written, ReadSlot}
use Rattle.bus.specs.Bus.{direction_bit}
use Rattle.master.specs.Operations.{Operation, writes, reads}
use Rattle.master.specs.Sequence.{direction, sequence_from, sequence, told}

told_bytes : (bs : List ℕ) (ss : List Sign)
    → told (map Written bs ++ ss) ≡ record {
      bytes = bs ++ (told ss).bytes;
      slots = (told ss).slots;
      operations = (told ss).operations;
      address = (told ss).address;
    }
unfolding told
told_bytes [] ss = refl
told_bytes (b ∷ bs) ss = rw (told_bytes bs ss)

told_slots : (n : ℕ) (ss : List Sign)
    → told (replicate n ReadSlot ++ ss) ≡ record {
      bytes = (told ss).bytes;
      slots = (told ss).slots + n;
      operations = (told ss).operations;
      address = (told ss).address;
    }
unfolding told
told_slots zero ss = rw add-zero
told_slots (suc n) ss = rw (told_slots n ss, add-suc)

-- what follows an operation begins with RESTART or STOP
ended : (a : ℕ) (os : List (Operation ℕ)) → ((told (sequence_from Restart a os)).bytes ≡ []) × ((told (sequence_from Restart a os)).slots ≡ 0)
unfolding told sequence_from
ended a [] = (refl, refl)
ended a (o ∷ os) = (refl, refl)

told_back : (a : ℕ) (os : List (Operation ℕ)) → (told (sequence_from Restart a os)).operations ≡ os
unfolding told sequence_from
told_back a [] = refl
told_back a (writes bs ∷ os) =
    let even : (a * 2 + 0) % 2 ≡ 0 = omega arith in
    rw (even, told_bytes bs (sequence_from Restart a os), (ended a os).0, append-nil, told_back a os)
told_back a (reads n ∷ os) =
    let odd : (a * 2 + 1) % 2 ≡ 1 = omega arith in
    rw (odd, told_slots n (sequence_from Restart a os), (ended a os).1, zero-add, told_back a os)

halved : (a : ℕ) (d : Direction) → (a * 2 + direction_bit d) / 2 ≡ a
halved a Writing = omega arith
halved a Reading = omega arith

-- a sequence of at least one operation tells both
pub all_told : (a : ℕ) (os : List (Operation ℕ)) → os ≢ [] → ((told (sequence a os)).address ≡ a) × ((told (sequence a os)).operations ≡ os)
unfolding told sequence_from
all_told a [] some = absurd (some refl)
all_told a (o ∷ os) some = (halved a (direction o), told_back a (o ∷ os))
