-- `code`: the loop's invariant `Going` (proofs/Coding.antt): from the register reached, the message of the
-- operations that are left makes the code of the whole. Its `room` puts the operation's bytes in range.
use lib.ListN.{length}
use Rattle.transfer_code.proofs.Coding.{Going}
use Rattle.transfer_code.proofs.code.Message.code.Given as goal

abbrev pub invariant-loop-kind : goal.invariant-loop-kind
invariant-loop-kind l =
    Going l.self.address l.self.operations.kinds.now l.self.operations.lengths.now l.self.write.now l.self.read.now l.coding
    (length l.yielded)
