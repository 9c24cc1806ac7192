-- `run`: in the inner loop a place more is filled (`one_filled` of proofs/Filling.antt), since the test for the end tells
-- that it has a byte. At the break no byte is left and a place is, which ends the operation (`last_round` of
-- proofs/Fills.antt); where all places are filled, the poll that `planned` looked at leads to the next round
-- (`one_round`). `lead_after` adds a round to those before it.
use Rattle.std.proofs.Common.{arith, refl, sym, ◌∙◌, ◌≡◌, ◌<◌, ◌+◌, ◌-◌, leb-false}
use Rattle.transfer_fast_write_async.proofs.Filling.{one_filled, lead_after}
use Rattle.transfer_fast_write_async.proofs.Fills.{place_room, one_round, last_round}
use Rattle.transfer_fast_write_async.proofs.run.Goals.{else-last-via-then-last+else-i-n, else-last-via-else-last}
use Rattle.transfer_fast_write_async.proofs.run.Goals as goal

pub loop-n-preserved : goal.loop-n-preserved
loop-n-preserved c =
    let g = c.loop-n.invariant in
    let before : c.xmit.i + c.loop-n.n < c.args.t.operation.len =
    elim c.else-last.branch [
      | else-last-via-then-last+else-i-n w ↦ omega (arith, g.within, w.if-i-n.false)
      | else-last-via-else-last w ↦
          omega (
            arith,
            c.loop-n-test.true,
            leb-false (c.args.t.operation.len - c.xmit.i) c.in-Some.space (sym c.is_last-last.ensures ∙ w.if-last.false),
          )
    ] in
    record {
      filled = one_filled g.filled before (place_room c.in-Some.ensures c.read-free.ensures c.loop-n-test.true before)
          (omega arith) refl c.fill.ensures;
      within = omega (arith, before);
    }

pub xmit-preserved : goal.xmit-preserved
xmit-preserved c =
    let g = c.xmit.invariant in
    let f = c.loop-n.invariant in
    let all : c.in-Some.space ≡ c.loop-n.n = omega (arith, c.loop-n-test.false, c.loop-n.auto.n-end) in
    record {
      came = lead_after g.came (rw all (one_round c.in-Some.ensures (omega arith) c.read-free.ensures g.within
          (omega (arith, all)) f.filled (omega (arith, all)) f.within c.read-source.ensures c.read-again.ensures));
      within = rw all f.within;
    }

pub returns : goal.returns
returns c =
    let g = c.xmit.invariant in
    lead_after g.came (last_round c.in-Some.ensures (omega arith) c.read-free.ensures g.within
    (omega (arith, c.loop-n-test.true)) c.loop-n.invariant.filled c.loop-n-test.true
    c.if-i-n.true c.wait_for_stop.ensures)
