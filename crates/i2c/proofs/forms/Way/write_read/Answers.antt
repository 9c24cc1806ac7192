-- `write_read`: the test `are_fitting` decides; with both lengths at most 4096 the casts to u16 keep them, and
-- `write_read_done` of proofs/FormsLeave.antt turns what `run` leaves into the outcome of the call. Else `over_limits`.
use Rattle.i2c.proofs.WithCode.{both_lists}
use Rattle.i2c.proofs.FormsLeave.{over_limits, write_read_done}
use Rattle.master.specs.Calls.{writes_then_reads}
use lib.ListN.{length}
use mathlib.Core.Path.{sym, ◌∙◌}
use Rattle.i2c.proofs.forms.Way.write_read.Goals as goal

pub run-requires : goal.run-requires
run-requires c = both_lists (length c.args.write.now) (length c.args.read.now)
    (sym c.are_fitting.ensures ∙ c.if-are_fitting.true)

pub returns-then-are_fitting : goal.returns-then-are_fitting
returns-then-are_fitting c = let way = c.args.self in
    write_read_done way.coded way.mode way.address c.args.readings.now c.args.log.now c.args.write.now
    c.args.read.now _ _ (sym c.are_fitting.ensures ∙ c.if-are_fitting.true) c.run.ensures.plain c.run.ensures.coded

pub returns-else-are_fitting : goal.returns-else-are_fitting
returns-else-are_fitting c = let way = c.args.self in
    over_limits way.coded way.mode way.address (writes_then_reads c.args.write.now c.args.read.now)
    c.args.readings.now c.args.log.now c.args.read.now
    (sym c.are_fitting.ensures ∙ c.if-are_fitting.false) c.refuse.ensures
