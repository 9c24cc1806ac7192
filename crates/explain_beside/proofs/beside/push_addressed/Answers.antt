-- `push_addressed`: the name, and the address byte by its digits and its letter (`address_is`).
use Rattle.text_hex.proofs.Adding.{both}
use Rattle.explain_beside.specs.Inner.Parts.{addressed_text}
use Rattle.explain_beside.proofs.Texts.{address_is}
use Rattle.explain_beside.proofs.beside.push_addressed.Goals as goal

pub returns : goal.returns
unfolding addressed_text
returns c = rw (address_is, ← c.letter.ensures, ← c.from.ensures)
    (both c.push_sign.ensures
    (both c.push.ensures (both c.push_hex2.ensures c.push-2.ensures)))
