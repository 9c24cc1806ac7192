-- `push`: `both` joins head, signs, note and end in the order of `svg_text`, with y from `last_row`;
-- with at most 256 signs the four bounds add up to less than 53000, to which `at_most` widens them.
use native.Mathlib.Omega.{arith}
use Rattle.text_hex.proofs.Adding.{both, at_most}
use Rattle.svg_text.specs.Picture.{svg_text}
use Rattle.svg_picture.proofs.Drawn.push.Goals as goal

pub returns : goal.returns
unfolding svg_text
returns c = rw (← c.last_row-y.ensures.same)
    (at_most 53000 (omega (arith, c.args.self.few))
    (both c.push_head.ensures
    (both c.push_signs.ensures
    (both c.push_note.ensures c.push_text.ensures))))
