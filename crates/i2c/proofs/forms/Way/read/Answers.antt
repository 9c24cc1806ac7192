-- `read`: the test `is_fitting` decides; with n at most 4096 the cast to u16 keeps the length, and `read_done`
-- of proofs/FormsLeave.antt turns what `run` leaves into the outcome of the call. Else `over_limits`.
use Rattle.i2c.proofs.WithCode.{read_lists}
use Rattle.i2c.proofs.FormsLeave.{over_limits, read_done}
use Rattle.master.specs.Calls.{reads_into}
use lib.ListN.{length}
use mathlib.Core.Path.{sym, ◌∙◌}
use Rattle.i2c.proofs.forms.Way.read.Goals as goal

pub run-requires : goal.run-requires
run-requires c = read_lists (length c.args.read.now) (sym c.is_fitting.ensures ∙ c.if-is_fitting.true)

pub returns-then-is_fitting : goal.returns-then-is_fitting
returns-then-is_fitting c = let way = c.args.self in
    read_done way.coded way.mode way.address c.args.readings.now c.args.log.now c.args.read.now _ _
    (sym c.is_fitting.ensures ∙ c.if-is_fitting.true) c.run.ensures.plain c.run.ensures.coded

pub returns-else-is_fitting : goal.returns-else-is_fitting
returns-else-is_fitting c = let way = c.args.self in
    over_limits way.coded way.mode way.address (reads_into c.args.read.now) c.args.readings.now c.args.log.now
    c.args.read.now (sym c.is_fitting.ensures ∙ c.if-is_fitting.false) c.refuse.ensures
