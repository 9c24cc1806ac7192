-- `push_signs`: `sign_next` of proofs/Rows.antt moves one sign over.
use Rattle.std.proofs.Common.{arith}
use Rattle.text_hex.proofs.Adding.{one_more, all_added}
use Rattle.svg_picture.proofs.Rows.{sign_next, signs_end}
use Rattle.svg_picture.proofs.Drawn.push_signs.Goals as goal

pub loop-sign-preserved : goal.loop-sign-preserved
loop-sign-preserved c = let p = c.of_next-place.ensures in
    rw (c.behind-end.ensures.x, c.behind-end.ensures.y) (record {
      adding = one_more c.loop-sign.invariant.adding _
          (sign_next c.args.self.signs.now c.loop-sign.sign-index c.loop-sign.end.x c.loop-sign.end.y _
          c.loop-sign-test.true c.width_of-width.ensures.same p.column p.row)
          c.push_sign.ensures (omega arith);
      narrow = p.in_row;
      low = omega (arith, p.low, c.loop-sign.invariant.low);
    })

pub returns : goal.returns
returns c =
    all_added c.loop-sign.invariant.adding _
    (signs_end c.args.self.signs.now c.loop-sign.sign-index c.loop-sign.end.x c.loop-sign.end.y c.loop-sign-test.false)
    (omega arith)
