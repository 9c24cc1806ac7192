-- `push_counted`: `both` joins the two texts, the number and the name in the order of `counted_text`. The
-- table that is lent is `aborts_flags`, and by what is required the lowest is one of its 17 rows.
use Rattle.std.proofs.Common.{arith, ap, length}
use Rattle.text_hex.proofs.Adding.{both, at_most}
use Rattle.explain_frames.specs.Tables.{aborts_flags}
use Rattle.explain_frames.specs.Texts.{counted_text}
use Rattle.explain_frames.proofs.aborts.Names.push_counted.Goals as goal

pub push_cell-requires-clause-in_table : goal.push_cell-requires-clause-in_table
unfolding aborts_flags
push_cell-requires-clause-in_table c = omega (arith, ap length c.args.self.now.of_causes, c.requires.a_cause)

pub returns : goal.returns
unfolding counted_text
returns c = rw (← c.args.self.now.of_causes, ← c.from-count.ensures)
    (at_most 44 (omega arith) (both c.push_text.ensures
    (both c.push_digits.ensures
    (both c.push_text-2.ensures c.push_cell.ensures))))
