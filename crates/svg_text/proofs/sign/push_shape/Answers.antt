-- `push_shape`: `both` joins seven pushes in the order of `shape_text`: four texts, the letter and two
-- numbers of at most six bytes; their bounds add up to exactly 39.
use Rattle.text_hex.proofs.Adding.{both}
use Rattle.svg_text.specs.Picture.{shape_text}
use Rattle.svg_text.proofs.sign.push_shape.Goals as goal

pub returns : goal.returns
unfolding shape_text
returns c = both c.push_text.ensures
    (both c.push.ensures
    (both c.push_text-2.ensures
    (both c.push_number.ensures
    (both c.push_text-3.ensures
    (both c.push_number-2.ensures c.push_text-4.ensures)))))
