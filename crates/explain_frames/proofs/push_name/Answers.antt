-- `explain_frames::push_name` meets its contract.
use Rattle.explain_frames.specs.Tables.{names}
use Rattle.explain_frames.proofs.push_name.Goals as goal

pub returns : goal.returns
unfolding names
returns c = rw (← c.name_row-row.ensures.row) c.push_cell.ensures
