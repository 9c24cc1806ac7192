-- `write`: the test `is_fitting` decides; with n at most 4096 the cast to u16 keeps the length, and `write_done`
-- of proofs/FormsLeave.antt turns what `run` leaves, with an empty read buffer, into the outcome of the call. Else
-- `over_limits`.
use Rattle.i2c.proofs.WithCode.{write_lists}
use Rattle.i2c.proofs.FormsLeave.{over_limits, write_done}
use Rattle.master.specs.Calls.{writes_from}
use mathlib.Core.List.{[]}
use lib.ListN.{length}
use mathlib.Core.Path.{sym, ◌∙◌}
use Rattle.i2c.proofs.forms.Way.write.Goals as goal

pub run-requires : goal.run-requires
run-requires c = write_lists (length c.args.write.now) (sym c.is_fitting.ensures ∙ c.if-is_fitting.true)

pub returns-then-is_fitting : goal.returns-then-is_fitting
returns-then-is_fitting c = let way = c.args.self in
    write_done way.coded way.mode way.address c.args.readings.now c.args.log.now c.args.write.now _ _
    (sym c.is_fitting.ensures ∙ c.if-is_fitting.true) c.run.ensures.plain c.run.ensures.coded

pub returns-else-is_fitting : goal.returns-else-is_fitting
returns-else-is_fitting c = let way = c.args.self in
    (over_limits way.coded way.mode way.address (writes_from c.args.write.now) c.args.readings.now c.args.log.now
    [] (sym c.is_fitting.ensures ∙ c.if-is_fitting.false) c.refuse.ensures).ran
