-- `burst`: `burst_after` adds a round to the burst so far.
use Rattle.std.proofs.Common.{arith, ap, []}
use Rattle.transfer.specs.declared.Round.{Round}
use Rattle.transfer_fast_blocking.proofs.Bursting.{burst_after}
use Rattle.transfer_fast_read_async.proofs.burst.Goals as goal

pub loop-plan-preserved : goal.loop-plan-preserved
loop-plan-preserved c = record {
  came = λ bytes. burst_after (c.loop-plan.invariant.came bytes) (c.one_round-round.ensures.bursts bytes);
  within = omega (arith, ap (λ (x : Round). x.remaining) c.one_round-round.ensures.is, c.loop-plan.invariant.within);
  held = rw (c.one_round-round.ensures.bursts []).size c.loop-plan.invariant.held;
}

pub loop-plan-smaller : goal.loop-plan-smaller
loop-plan-smaller c =
    let g = c.one_round-round.ensures.bursts [] in
    let h = c.loop-plan.invariant.came [] in
    let grew = c.one_round-round.ensures.more in
    omega (arith, grew.0, grew.1, g.keeps.size, h.keeps.size)

pub returns : goal.returns
returns c = c.loop-plan.invariant.came
