-- `explain_frames::push_begin` meets its contract.
use Rattle.explain_frames.specs.Tables.{words}
use Rattle.explain_frames.proofs.push_begin.Goals as goal

pub returns : goal.returns
unfolding words
returns c = rw (← c.begin_row-row.ensures.row) c.push_cell.ensures
