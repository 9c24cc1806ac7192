-- `warn`: `both` joins the two texts and the number in the order of `warning`.
use Rattle.std.proofs.Common.{arith}
use Rattle.text_hex.proofs.Adding.{both, at_most}
use Rattle.answer_lines.specs.Lines.{warning}
use Rattle.answer_lines.proofs.warn.Goals as goal

pub returns : goal.returns
unfolding warning
returns c = at_most 47 (omega arith) (both c.push_text.ensures
    (both c.push_digits.ensures c.push_text-2.ensures))
