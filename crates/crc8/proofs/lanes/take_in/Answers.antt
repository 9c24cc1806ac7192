-- `crc8::lanes::take_in` meets its contract: the block's first j bytes are taken in.
use native.Mathlib.Omega.{arith}
use mathlib.Core.Path.{◌≡◌, ◌∙◌, refl}
use Rattle.crc8.proofs.Folding.{partly, partly_all, taken}
use Rattle.crc8.proofs.lanes.take_in.Goals as goal

pub loop-j-init : goal.loop-j-init
unfolding partly
loop-j-init c = refl

pub loop-j-preserved : goal.loop-j-preserved
loop-j-preserved c =
    taken c.loop-j.j c.args.lanes.now c.args.block.now c.loop-j.lanes c.after_four.result
    (omega (arith, c.told-lanes, c.loop-j-test.true)) (omega (arith, c.told-block, c.loop-j-test.true))
    c.loop-j.invariant c.after_four.ensures

pub returns : goal.returns
returns c =
    let end : c.loop-j.j ≡ 64 = omega (arith, c.loop-j-test.false, c.loop-j.auto.j-end) in
    c.loop-j.invariant ∙ rw end (partly_all 64 _ _ c.told-lanes c.told-block)
