-- `push_written`: `both` joins five pushes in the order of `byte_text`; their bounds add up to 155, which
-- `at_most` widens to the 157 of an address byte.
use native.Mathlib.Omega.{arith}
use Rattle.text_hex.proofs.Adding.{both, at_most}
use Rattle.svg_text.specs.Picture.{byte_text}
use Rattle.svg_text.proofs.sign.push_written.Goals as goal

pub returns : goal.returns
unfolding byte_text
returns c = at_most 157 (omega arith) (both c.push_open.ensures
    (both c.push_bits.ensures
    (both c.push_text.ensures
    (both c.push_hex2.ensures c.push_text-2.ensures))))
