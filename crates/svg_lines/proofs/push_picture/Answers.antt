-- `push_picture`: `svg_picture::picture`'s contract, with `picture_as` (proofs/Turns.antt) for larger buffers.
use lib.ListN.{length}
use Rattle.svg_lines.proofs.Turns.{picture_as}
use Rattle.svg_lines.proofs.push_picture.Goals as goal

pub returns : goal.returns
returns c = rw (← c.words.ensures.same) (picture_as c.words.result.now (length c.args.places.now) c.words.ensures.few
    c.requires.signs c.requires.room c.picture.ensures)
