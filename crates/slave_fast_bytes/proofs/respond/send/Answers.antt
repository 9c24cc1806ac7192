-- `send`: `one_sent` of proofs/Sending.antt adds a byte to those before it, and `all_sent` ends the chunk.
use Rattle.std.proofs.Common.{arith}
use Rattle.regs_runs.proofs.Putting.{first_put, next_put}
use Rattle.slave_fast_bytes.proofs.Sending.{one_sent, all_sent}
use Rattle.slave_fast_bytes.proofs.respond.send.Goals as goal

pub loop-i-preserved : goal.loop-i-preserved
loop-i-preserved c =
    let write = rw (c.from-in-loop-i.ensures, c.from.ensures) at c.put_write.ensures in
    let keeps = c.loop-i.invariant.keeps in
    one_sent c.loop-i.invariant c.loop-i-test.true (omega (arith, keeps.size)) (rw keeps.readings (omega arith))
    (next_put (first_put c.put_read.ensures) write)

pub returns-clause-sent : goal.returns-clause-sent
returns-clause-sent c = all_sent c.loop-i.invariant c.loop-i-test.false
