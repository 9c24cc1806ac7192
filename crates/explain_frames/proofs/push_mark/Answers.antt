-- `explain_frames::push_mark` meets its contract.
use native.Mathlib.Omega.{arith}
use Rattle.text_hex.proofs.Adding.{both, at_most}
use Rattle.explain_frames.specs.Texts.{mark_text}
use Rattle.explain_frames.proofs.push_mark.Goals as goal

pub returns : goal.returns
unfolding mark_text
returns c = at_most 512 (omega arith) (both c.push_begin.ensures c.push.ensures)
