-- `burst`: `burst_after` of proofs/Bursting.antt adds a byte to the burst so far, or the byte that is left. Each byte takes
-- its readings and entries from those that `ahead` counted.
use Rattle.std.proofs.Common.{arith, ◌≡◌, []}
use Rattle.transfer_fast_blocking.proofs.Bursting.{burst_after}
use Rattle.transfer_fast_blocking.proofs.write_blocking.burst.Goals as goal

pub returns-then-not-byte : goal.returns-then-not-byte
returns-then-not-byte c = λ buffer. burst_after (c.loop-i.invariant.came buffer) (c.byte.ensures.left c.if-not-byte.true buffer)

pub loop-i-preserved : goal.loop-i-preserved
loop-i-preserved c =
    let g = c.loop-i.invariant in
    let b = c.byte.ensures.sent c.if-not-byte.false [] in
    let n = c.byte.ensures.counted c.if-not-byte.false in
    record {
      came = λ buffer. burst_after (g.came buffer) (c.byte.ensures.sent c.if-not-byte.false buffer);
      left = rw b.keeps.readings (omega (arith, g.left, n.0));
      room = rw b.keeps.size (omega (arith, g.room, n.1));
    }

pub returns : goal.returns
returns c = λ buffer.
    let all : c.loop-i.i ≡ c.ahead-end.result = omega (arith, c.loop-i-test.false, c.loop-i.auto.i-end, c.ahead-end.ensures.0) in
    rw (← all) (c.loop-i.invariant.came buffer)
