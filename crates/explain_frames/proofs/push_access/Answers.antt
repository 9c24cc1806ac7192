-- `explain_frames::push_access` meets its contract.
use native.Mathlib.Omega.{arith}
use Rattle.text_hex.proofs.Adding.{both, at_most}
use Rattle.explain_frames.specs.Texts.{access_text}
use Rattle.explain_frames.proofs.push_access.Goals as goal

pub returns : goal.returns
unfolding access_text
returns c = at_most 512 (omega arith) (both c.push_words.ensures c.push.ensures)
