-- `burst`: `drains_on` of proofs/Polling.antt adds the bytes and a poll to those before them.
use Rattle.std.proofs.Common.{arith}
use Rattle.slave_fast_bytes.proofs.Polling.{drains_on}
use Rattle.slave_fast_bytes.proofs.listen.Message.burst.Goals as goal

pub loop-smaller : goal.loop-smaller
loop-smaller c =
    let all = drains_on (drains_on c.loop.invariant c.bytes.ensures) (c.poll.ensures.drains c.bytes.new.buffer) in
    let grew = c.poll.ensures.made c.if-not-poll.false in
    omega (arith, grew.0, grew.1, all.keeps.size, c.bytes.ensures.up)

pub loop-preserved : goal.loop-preserved
loop-preserved c = drains_on (drains_on c.loop.invariant c.bytes.ensures) (c.poll.ensures.drains _)

pub returns-then-not-poll : goal.returns-then-not-poll
returns-then-not-poll c = drains_on (drains_on c.loop.invariant c.bytes.ensures) (c.poll.ensures.drains _)
