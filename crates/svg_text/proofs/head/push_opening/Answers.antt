-- `push_opening`: `both` joins the three texts and two numbers in the order of `opening_text`; `at_most`
-- widens their lengths, six bytes for each number, to 200.
use native.Mathlib.Omega.{arith}
use Rattle.text_hex.proofs.Adding.{both, at_most}
use Rattle.svg_text.specs.Picture.{opening_text}
use Rattle.svg_text.proofs.head.push_opening.Goals as goal

pub returns : goal.returns
unfolding opening_text
returns c = at_most 200 (omega arith) (both c.push_text.ensures
    (both c.push_number.ensures
    (both c.push_text-2.ensures
    (both c.push_number-2.ensures c.push_text-3.ensures))))
