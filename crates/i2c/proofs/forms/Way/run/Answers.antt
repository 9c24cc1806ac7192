-- `run`: `drive`'s run of the machine, with 0 for the code where there is one, then `settle`. `coded_leaves` of
-- proofs/WithCode.antt turns both into the outcome of the transfer with its code; the bytes to write are below 256 by
-- their type.
use Rattle.i2c.proofs.WithCode.{entries_fit, coded_leaves}
use native.Mathlib.Omega.{arith}
use Rattle.i2c.proofs.forms.Way.run.Goals as goal

pub invariant_of-message : goal.invariant_of-message
invariant_of-message c = record { listed = rw c.drive-ran.auto.buffer c.requires }

pub settle-requires : goal.settle-requires
settle-requires c = let args = c.args in let way = args.self in
    entries_fit way.mode args.restart way.address args.operations.now.kinds.now args.operations.now.lengths.now
    args.write.now args.readings.now args.log.now _ args.read.now _ c.requires
    c.start-t.ensures (rw c.if-self.true at c.drive-ran.ensures)

pub returns-then-self-clause-coded : goal.returns-then-self-clause-coded
returns-then-self-clause-coded c = λ is. let args = c.args in let way = args.self in
    coded_leaves way.mode args.restart way.address args.operations.now.kinds.now args.operations.now.lengths.now
    args.write.now args.readings.now args.log.now _ args.read.now _ c.requires
    c.start-t.ensures (rw c.if-self.true at c.drive-ran.ensures)
    (λ i. omega (arith, c.type_inv.write i)) c.settle.ensures
