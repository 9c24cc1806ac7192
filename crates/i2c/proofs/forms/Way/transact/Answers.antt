-- `transact`: the test `is_listed` decides; where it holds, `transaction_done` of proofs/FormsLeave.antt turns what
-- `run` leaves into the outcome of the call. Else `over_limits`.
use Rattle.i2c.proofs.FormsLeave.{over_limits, transaction_done}
use Rattle.master.specs.Calls.{transacts}
use mathlib.Core.Path.{sym, ◌∙◌}
use Rattle.i2c.proofs.forms.Way.transact.Goals as goal

pub returns-then-is_listed : goal.returns-then-is_listed
returns-then-is_listed c = let way = c.args.self in
    transaction_done way.coded way.mode way.address c.args.operations.now.kinds.now c.args.operations.now.lengths.now c.args.readings.now
    c.args.log.now c.args.write.now c.args.read.now _ _ (sym c.is_listed.ensures ∙ c.if-is_listed.true)
    c.run.ensures.plain c.run.ensures.coded

pub returns-else-is_listed : goal.returns-else-is_listed
returns-else-is_listed c = let way = c.args.self in
    over_limits way.coded way.mode way.address
    (transacts c.args.operations.now.kinds.now c.args.operations.now.lengths.now c.args.write.now c.args.read.now) c.args.readings.now c.args.log.now
    c.args.read.now (sym c.is_listed.ensures ∙ c.if-is_listed.false) c.refuse.ensures
