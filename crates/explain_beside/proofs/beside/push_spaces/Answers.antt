-- `push_spaces`: `space_next` of proofs/Spaces.antt puts one more, and `spaces_end` ends them.
use Rattle.std.proofs.Common.{refl, arith}
use Rattle.text_hex.proofs.Adding.{no_text, all_to_come, one_more, all_added}
use Rattle.explain_beside.proofs.Spaces.{space_next, spaces_end}
use Rattle.explain_beside.proofs.beside.push_spaces.Goals as goal

pub loop-init : goal.loop-init
loop-init c = record {
  adding = one_more (all_to_come c.args.text.now _) _ refl (no_text _ 0) (omega arith);
  near = omega arith;
}

pub loop-preserved : goal.loop-preserved
loop-preserved c = record {
  adding = one_more c.loop.invariant.adding _ (space_next c.args.column c.loop.counter c.loop-test.true) c.push.ensures
      (omega (arith, c.loop.auto.counter));
  near = omega (arith, c.loop-test.true, c.loop.auto.counter);
}

pub returns : goal.returns
returns c =
    all_added c.loop.invariant.adding _ (spaces_end c.args.column c.loop.counter c.loop-test.false) c.loop.invariant.near
