-- The bus sequence that an address and joined operations make alone, and the way back from a sequence to both.
use Rattle.std.specs.Prelude.{ℕ, suc, ◌+◌, ◌/◌, ◌%◌, List, [], ◌∷◌, ◌++◌, map, eqb, replicate, if◌then◌else◌}
use Rattle.bus.specs.declared.Direction.{Direction}
use Rattle.bus.specs.declared.Direction.TheVariants.{Writing, Reading}
use Rattle.bus.specs.declared.Sign.{Sign}
use Rattle.bus.specs.declared.Sign.TheVariants.{Start, Restart, Stop, Address, Written, ReadSlot}
use Rattle.bus.specs.Bus.{addressed}
use Rattle.master.specs.Operations.{Operation, writes, reads}

-- neighbouring writes become one, their bytes end to end; neighbouring reads become one, their lengths added
abbrev pub joined_to : Operation ℕ → List (Operation ℕ) → List (Operation ℕ)
joined_to o [] = o ∷ []
joined_to (writes a) (writes b ∷ os) = writes (a ++ b) ∷ os
joined_to (writes a) (reads n ∷ os) = writes a ∷ reads n ∷ os
joined_to (reads m) (writes b ∷ os) = reads m ∷ writes b ∷ os
joined_to (reads m) (reads n ∷ os) = reads (m + n) ∷ os

unfoldable pub joined : List (Operation ℕ) → List (Operation ℕ)
joined [] = []
joined (o ∷ os) = joined_to o (joined os)

abbrev pub direction : Operation ℕ → Direction
direction (writes bytes) = Writing
direction (reads len) = Reading

-- an operation's written bytes or read slots
abbrev pub payload : Operation ℕ → List Sign
payload (writes bytes) = map Written bytes
payload (reads len) = replicate len ReadSlot

-- each operation gives START if it is the first, else RESTART, then the address byte, then its written bytes or read slots; STOP comes last
unfoldable pub sequence_from : Sign → ℕ → List (Operation ℕ) → List Sign
sequence_from sign address [] = Stop ∷ []
sequence_from sign address (o ∷ os) = addressed sign address (direction o) ++ (payload o ++ sequence_from Restart address os)

abbrev pub sequence : ℕ → List (Operation ℕ) → List Sign
sequence address os = sequence_from Start address os

-- what a sequence tells: the bytes and slots before its next START, RESTART
-- or STOP, the operations from its next address byte on, and the address
pub record Told : Type 0 where
  pub bytes : List ℕ
  pub slots : ℕ
  pub operations : List (Operation ℕ)
  pub address : ℕ

abbrev pub ending : Told → Told
ending t = record { bytes = []; slots = 0; operations = t.operations; address = t.address }

-- an address byte starts an operation with what comes after it, by its direction bit
abbrev pub starting : ℕ → Told → Told
starting a t = record {
  bytes = [];
  slots = 0;
  operations = (if eqb (a % 2) 1 then reads t.slots else writes t.bytes) ∷ t.operations;
  address = a / 2;
}

unfoldable pub told : List Sign → Told
told [] = record { bytes = []; slots = 0; operations = []; address = 0 }
told (Start ∷ ss) = ending (told ss)
told (Restart ∷ ss) = ending (told ss)
told (Stop ∷ ss) = ending (told ss)
told (Address a ∷ ss) = starting a (told ss)
told (Written b ∷ ss) = record {
  bytes = b ∷ (told ss).bytes;
  slots = (told ss).slots;
  operations = (told ss).operations;
  address = (told ss).address;
}
told (ReadSlot ∷ ss) = record {
  bytes = (told ss).bytes;
  slots = suc (told ss).slots;
  operations = (told ss).operations;
  address = (told ss).address;
}
