-- `bytes`: `byte_stored` of proofs/Draining.antt is the run of the machine from a place to the next one, over the two
-- entries put, and `one_drained` adds it to those before it. The count leaves a place, readings and room for it.
use Rattle.std.proofs.Common.{arith, rules, refl, ◌+◌, ◌≤◌, ◌<◌, ◌/◌, ◌^◌, ◌-◌, length}
use Rattle.regs_runs.proofs.Putting.{first_put, next_put}
use Rattle.slave_fast_bytes.proofs.Draining.{byte_stored, one_drained}
use Rattle.slave_fast_bytes.proofs.listen.Message.bytes.Goals as goal

pub loop-preserved : goal.loop-preserved
loop-preserved c =
    let d = c.loop.invariant in
    let r = c.loop.recording in
    let put = next_put (first_put c.put_read.ensures) c.put_read-in-loop.ensures in
    let left : r.used + 2 ≤ length r.readings.now = search rules in
    let room : r.entries + 2 ≤ length r.log.now / 2 = search rules in
    let fits : length r.log.now < 2 ^ 64 = omega arith in
    let more : 1 < c.loop.self.places - c.loop.self.index = search rules in
    one_drained d (byte_stored put left room fits more (search rules) (rw (c.from.ensures, c.byte_of.ensures)))
    refl (omega (arith, put.used)) (omega (arith, put.entries))
