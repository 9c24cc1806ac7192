-- `push_word_by`: the four pieces one behind the other, by `both` of proofs/Adding.antt.
use Rattle.text_hex.proofs.Adding.{both}
use Rattle.text_hex.proofs.text.Text.push_word_by.Goals as goal

pub returns : goal.returns
returns g c = both c.push_hex2_by.ensures
    (both c.push_hex2_by-2.ensures (both c.push_hex8_by.ensures c.push.ensures))
