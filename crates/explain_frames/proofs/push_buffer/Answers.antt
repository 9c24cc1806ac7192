-- `explain_frames::push_buffer` meets its contract.
use native.Mathlib.Omega.{arith}
use Rattle.text_hex.proofs.Adding.{both, at_most}
use Rattle.explain_frames.specs.Texts.{buffer_text}
use Rattle.explain_frames.proofs.push_buffer.Goals as goal

pub returns : goal.returns
unfolding buffer_text
returns c = at_most _ (omega arith) (both c.push_begin.ensures
    (both c.push_pairs.ensures c.push.ensures))
