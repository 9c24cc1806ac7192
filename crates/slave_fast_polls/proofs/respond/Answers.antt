-- `respond`: `one_idled` of proofs/Idling.antt adds a poll to those before it. The count leaves a reading and room for it.
use Rattle.std.proofs.Common.{arith, rules, ◌+◌, ◌≤◌, ◌<◌, ◌/◌, ◌^◌, length}
use Rattle.regs_runs.proofs.Putting.{first_put, next_put}
use Rattle.slave_fast_polls.proofs.Idling.{one_idled}
use Rattle.slave_fast_polls.proofs.respond.Goals as goal

pub loop-preserved : goal.loop-preserved
loop-preserved c =
    let r = c.loop.recording in
    let left : r.used < length r.readings.now = search rules in
    let room : r.entries + 3 ≤ length r.log.now / 2 = search rules in
    let fits : length r.log.now < 2 ^ 64 = omega arith in
    one_idled c.loop.invariant
    (next_put (next_put (first_put c.put_read.ensures) c.put_write.ensures) c.put_mark.ensures)
    fits left room (search rules)
