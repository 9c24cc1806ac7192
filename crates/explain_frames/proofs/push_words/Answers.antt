-- `push_words`: `both` joins the six callees' texts in the order of `access_words`; their bounds 12 + 17 + 2
-- + 1 + 8 + 469 are at_most 510, which also leaves each push its room in the 512 bytes required.
use native.Mathlib.Omega.{arith}
use Rattle.text_hex.proofs.Adding.{both, at_most}
use Rattle.explain_frames.specs.Texts.{access_words}
use Rattle.explain_frames.proofs.push_words.Goals as goal

pub returns : goal.returns
unfolding access_words
returns c = at_most 510 (omega arith) (both c.push_begin.ensures
    (both c.push_name.ensures
    (both c.push_hex2.ensures
    (both c.push.ensures
    (both c.push_hex8.ensures c.push_fields.ensures)))))
