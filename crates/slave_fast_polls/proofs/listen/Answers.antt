-- `listen`: `one_waited` of proofs/Awaiting.antt adds a poll to those before it. The count leaves two readings and room
-- for it.
use Rattle.std.proofs.Common.{arith, rules, ◌+◌, ◌≤◌, ◌<◌, ◌/◌, ◌^◌, length}
use Rattle.regs_runs.proofs.Putting.{first_put, next_put}
use Rattle.slave_fast_polls.proofs.Awaiting.{one_waited}
use Rattle.slave_fast_polls.proofs.listen.Goals as goal

pub loop-preserved : goal.loop-preserved
loop-preserved c =
    let r = c.loop.recording in
    let left : r.used + 2 ≤ length r.readings.now = search rules in
    let room : r.entries + 4 ≤ length r.log.now / 2 = search rules in
    let fits : length r.log.now < 2 ^ 64 = omega arith in
    one_waited c.loop.invariant
    (next_put (next_put (next_put (first_put c.put_read.ensures) c.put_read-in-loop.ensures) c.put_write.ensures)
    c.put_mark.ensures)
    fits left room (search rules)
