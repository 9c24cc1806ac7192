-- `add_all`: the loop's invariant `Adding` (proofs/Sums.antt): adding the operations from here on to the sums so
-- far gives the sums of all, and the sums so far are sums of so many lengths of 16 bits.
use Rattle.i2c.proofs.Sums.{Adding}
use lib.ListN.{length}
use Rattle.i2c.proofs.limits.add_all.Given as goal

abbrev pub invariant-loop-kind : goal.invariant-loop-kind
invariant-loop-kind l = Adding l.operations.kinds.now l.operations.lengths.now l.sums (length l.yielded)
