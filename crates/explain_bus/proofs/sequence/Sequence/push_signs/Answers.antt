-- `push_signs`: `slot_next` counts a read slot, `sign_next` moves another sign over, and behind the last one
-- the run that is open is put.
use Rattle.std.proofs.Common.{◌*◌, refl, arith, length}
use Rattle.text_hex.proofs.Adding.{both, no_text, one_more, all_added}
use Rattle.explain_bus.proofs.Signs.{slot_next, sign_next, run_left}
use Rattle.explain_bus.proofs.sequence.Sequence.push_signs.Goals.{in-ReadSlot, in_default}
use Rattle.explain_bus.proofs.sequence.Sequence.push_signs.Goals as goal

pub loop-sign-preserved : goal.loop-sign-preserved
loop-sign-preserved c = let i = c.loop-sign.invariant in
    elim c.match-sign.branch [
      | in-ReadSlot w ↦ rw (w.text-is, w.run-is) (record {
        adding = one_more i.adding _
            (slot_next c.args.self.signs.now c.loop-sign.sign-index c.loop-sign.run _ c.loop-sign-test.true w.in-ReadSlot.is)
            (no_text _ 0) (omega (arith, i.few));
        few = omega (arith, i.few);
      })
      | in_default w ↦ rw (w.text-is, w.run-is) (record {
        adding = one_more i.adding _
            (sign_next c.args.self.signs.now c.loop-sign.sign-index c.loop-sign.run _ c.loop-sign-test.true
            w.in_default.not-ReadSlot)
            (both w.push_run.ensures w.push_sign.ensures) (omega (arith, i.few));
        few = omega arith;
      })
    ]

pub returns : goal.returns
returns c = all_added
    (one_more c.loop-sign.invariant.adding (9 * length c.args.self.signs.now)
    (run_left c.args.self.signs.now c.loop-sign.sign-index c.loop-sign.run c.loop-sign-test.false)
    c.push_run-2.ensures (omega (arith, c.loop-sign.invariant.few))) _ refl (omega arith)
