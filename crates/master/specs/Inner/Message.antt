-- The message of a transfer operation by operation, as code goes through it; that it is the message of the bus
-- sequence is `message_is` (proofs/MessageFrom.antt).
use Rattle.std.specs.Prelude.{ℕ, ◌+◌, ◌*◌, List, [], ◌∷◌, ◌++◌, eqb, take, drop, if◌then◌else◌}
use Rattle.master.specs.Operations.{Operation, writes, reads, READ, WRITE}

-- no operation has this kind: before the first one
abbrev pub NO_KIND : ℕ
NO_KIND = 2

-- the address byte before an operation of this kind, behind one of another kind
abbrev pub opened : ℕ → ℕ → ℕ → List ℕ
opened address last kind = if eqb last kind then [] else (address * 2 + (if eqb kind WRITE then 0 else 1)) ∷ []

unfoldable pub message_from : ℕ → ℕ → List (Operation ℕ) → List ℕ → List ℕ
message_from address last [] came = []
message_from address last (writes bs ∷ os) came = opened address last WRITE ++ (bs ++ message_from address WRITE os came)
message_from address last (reads n ∷ os) came = opened address last READ ++ (take n came ++ message_from address READ os (drop n came))
