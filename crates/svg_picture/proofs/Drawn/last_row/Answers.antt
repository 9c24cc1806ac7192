-- `last_row`: `rows_next` of proofs/Rows.antt moves one sign over.
use Rattle.svg_picture.proofs.Rows.{rows_next, rows_end}
use Rattle.svg_picture.proofs.Drawn.last_row.Goals as goal

pub loop-sign-preserved : goal.loop-sign-preserved
loop-sign-preserved c = rw (c.behind-end.ensures.x, c.behind-end.ensures.y)
    (rows_next c.loop-sign.invariant _ c.loop-sign-test.true c.width_of-width.ensures.same
    c.of_next.ensures.column c.of_next.ensures.row c.of_next.ensures.in_row c.of_next.ensures.low)

pub returns-clause-same : goal.returns-clause-same
returns-clause-same c = rows_end c.loop-sign.invariant c.loop-sign-test.false
