-- `push_row`: the letters of the row are what `cell` takes of the table.
use Rattle.std.proofs.Common.{◌≡◌, ◌+◌, ◌-◌, ◌*◌, ◌≤◌, arith, length, drop, length-drop}
use lib.Seq.{length-take-le}
use Rattle.text_tables.specs.Rows.{cell}
use Rattle.text_tables.proofs.rows.push_row.Goals as goal

pub returns : goal.returns
unfolding cell
returns c =
    let a = c.args in
    let w : a.row * a.width + a.width - a.row * a.width ≡ a.width = omega arith in
    let fits : a.width ≤ length (drop (a.row * a.width) a.table.now) = rw length-drop (omega (arith, c.requires.in_table)) in
    rw (length-take-le a.width (drop (a.row * a.width) a.table.now) fits) at (rw w at c.push_until_dot.ensures)
