-- `last_row`: the last row of the signs from here on, begun where the one before them ended, is that of all.
use Rattle.svg_picture.proofs.Rows.{InRows}
use Rattle.svg_picture.proofs.Drawn.last_row.Given as goal

abbrev pub invariant-loop-sign : goal.invariant-loop-sign
invariant-loop-sign l = InRows l.self.signs.now l.end.x l.end.y l.sign-index
