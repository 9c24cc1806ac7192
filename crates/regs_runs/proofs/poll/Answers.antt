-- `poll`: `one_put` of proofs/Polling.antt puts an entry more.
use Rattle.std.proofs.Common.{add-one, drop-cons}
use Rattle.regs_runs.proofs.Polling.{one_put}
use Rattle.regs_runs.proofs.poll.Goals as goal

pub loop-entry-preserved : goal.loop-entry-preserved
loop-entry-preserved c = one_put _ c.loop-entry.invariant
    (rw add-one (drop-cons c.args.entries.now c.loop-entry.entry-index _ c.loop-entry-test.true)) c.put.ensures
