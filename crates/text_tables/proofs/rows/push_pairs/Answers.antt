-- `push_pairs`: `both` of text_hex's proofs/Adding.antt joins the three bytes of a pair, and `pair_next` of
-- proofs/Printing.antt moves it over.
use Rattle.std.proofs.Common.{arith}
use Rattle.text_hex.proofs.Adding.{all_to_come, both, one_more, all_added}
use Rattle.text_tables.proofs.Printing.{pair_next, pairs_end}
use Rattle.text_tables.proofs.rows.push_pairs.Goals as goal

pub loop-i-init : goal.loop-i-init
loop-i-init c = record { adding = all_to_come _ _; inside = omega arith }

pub loop-i-preserved : goal.loop-i-preserved
loop-i-preserved c = record {
  adding = one_more c.loop-i.invariant.adding _ (pair_next c.args.line.now c.loop-i.i (omega (arith, c.loop-i-test.true)))
      (both c.push.ensures (both c.push-in-loop-i.ensures c.push-in-loop-i-2.ensures)) (omega (arith, c.loop-i.auto.i));
  inside = omega (arith, c.loop-i-test.true);
}

pub returns : goal.returns
returns c =
    all_added c.loop-i.invariant.adding _ (pairs_end c.args.line.now c.loop-i.i c.loop-i-test.false)
    (omega (arith, c.loop-i.auto.i, c.loop-i.invariant.inside))
