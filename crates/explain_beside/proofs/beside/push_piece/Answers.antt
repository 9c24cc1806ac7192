-- `push_piece`: `both` joins opening, data and closing, at most 13 + 9 + 9 bytes; `piece_is` of
-- proofs/Texts.antt says that the three texts, one after the other, are the text of the word's signs.
use Rattle.text_hex.proofs.Adding.{both}
use Rattle.explain_beside.proofs.Texts.{piece_is}
use Rattle.explain_beside.proofs.beside.push_piece.Goals as goal

pub returns : goal.returns
returns c = rw
    (← piece_is, ← c.is_read-read.ensures, ← c.applied-applied.ensures.0, ← c.has_stop.ensures)
    (both c.push_opening.ensures
    (both c.push_data.ensures c.push_closing.ensures))
