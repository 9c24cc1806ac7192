-- `explain_frames::push_answer` meets its contract.
use native.Mathlib.Omega.{arith}
use Rattle.text_hex.proofs.Adding.{both, at_most}
use Rattle.explain_frames.specs.Texts.{answer_text}
use Rattle.explain_frames.proofs.push_answer.Goals as goal

pub returns : goal.returns
unfolding answer_text
returns c = at_most 512 (omega arith) (both c.push_begin.ensures
    (both c.push_number.ensures
    (both c.push_detail.ensures
    (both c.push_abort_of.ensures c.push.ensures))))
