-- A call as a transfer on what is lent within number 20's test, and the bytes of its operations, by cases of what is lent.
use Prim.Native.Nat.{ℕ, zero, suc}
use mathlib.Core.Path.{◌≡◌, refl}
use mathlib.Core.Bool.{Bool, true, false}
use mathlib.Core.List.{List, [], ◌∷◌}
use lib.Dec.{eqb}
use lib.ListN.{take, drop}
use Rattle.regs.specs.declared.answers.Answer.{Answer}
use Rattle.std.specs.Prelude.{if◌then◌else◌}
use Rattle.regs.specs.Log.{Each}
use Rattle.master.specs.Driver.{Driver, reason_of}
use Rattle.master.specs.Operations.{writes, reads, Transfer}
use Rattle.master.specs.Operations.{Mode, WRITE, listed}
use Rattle.master.specs.Transfer.{transfer, within}
use Rattle.master.specs.Coded.{coded}
use Rattle.master.specs.Calls.{Lent, reads_into, writes_from, writes_then_reads, transacts}
use Rattle.master.specs.Calls.{SameArguments, program_by, within_limits, arguments, bytes_in, operations_in}
use Rattle.master.proofs.Sequence.{Bytes, OfBytes}

-- each call is a transfer within limits, plain or with a packet error code

pub same_arguments : SameArguments
same_arguments mode address (reads_into buffer) = refl
same_arguments mode address (writes_from bytes) = refl
same_arguments mode address (writes_then_reads bytes buffer) = refl
same_arguments mode address (transacts kinds lengths bytes buffer) = refl

abbrev pub transfer_by : Bool → Mode → ℕ → Transfer ℕ → Driver Answer
transfer_by false mode address t = transfer reason_of mode address t
transfer_by true mode address t = coded reason_of mode address t

pub program_within : (pec : Bool) (mode : Mode) (address : ℕ) (lent : Lent)
    → program_by pec mode address lent ≡ within (within_limits lent) (transfer_by pec mode address (arguments lent))
program_within false mode address lent = same_arguments mode address lent
program_within true mode address lent = refl

-- the bytes that operations write are of those that are lent

small_take : (n : ℕ) (bytes : List ℕ) → Bytes bytes → Bytes (take n bytes)
small_take zero bytes small = tt
small_take (suc n) [] small = tt
small_take (suc n) (b ∷ bytes) small = (small.0, small_take n bytes small.1)

small_drop : (n : ℕ) (bytes : List ℕ) → Bytes bytes → Bytes (drop n bytes)
small_drop zero bytes small = small
small_drop (suc n) [] small = tt
small_drop (suc n) (b ∷ bytes) small = small_drop n bytes small.1

small_listed : (kinds lengths bytes : List ℕ) → Bytes bytes → Each OfBytes (listed kinds lengths bytes)
unfolding listed
small_listed [] lengths bytes small = tt
small_listed (kind ∷ kinds) [] bytes small = tt
small_listed (kind ∷ kinds) (n ∷ lengths) bytes small =
    by (eqb kind WRITE) (small_listed kinds lengths (drop n bytes) (small_drop n bytes small)) (small_listed kinds lengths bytes small)
  where
    by : (c : Bool) → Each OfBytes (listed kinds lengths (drop n bytes)) → Each OfBytes (listed kinds lengths bytes)
        → Each OfBytes (if c then writes (take n bytes) ∷ listed kinds lengths (drop n bytes) else reads n ∷ listed kinds lengths bytes)
    by true w r = (small_take n bytes small, w)
    by false w r = (tt, r)

pub small_operations : (lent : Lent) → Bytes (bytes_in lent) → Each OfBytes (operations_in lent)
small_operations (reads_into buffer) small = (tt, tt)
small_operations (writes_from bytes) small = (small, tt)
small_operations (writes_then_reads bytes buffer) small = (small, (tt, tt))
small_operations (transacts kinds lengths bytes buffer) small = small_listed kinds lengths bytes small
