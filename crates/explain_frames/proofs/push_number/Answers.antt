-- `explain_frames::push_number` meets its contract.
use native.Mathlib.Omega.{arith}
use Rattle.text_hex.proofs.Adding.{no_text}
use Rattle.explain_frames.specs.Tables.{answers}
use Rattle.text_tables.proofs.Printing.{no_row}
use Rattle.explain_frames.proofs.push_number.Goals as goal

pub returns-then-n-lt24 : goal.returns-then-n-lt24
unfolding answers
returns-then-n-lt24 c = c.push_cell.ensures

pub returns-else-n-lt24 : goal.returns-else-n-lt24
unfolding answers
returns-else-n-lt24 c = rw (no_row answers 40 c.args.n (omega (arith, c.if-n-lt24.false))) (no_text _ _)
