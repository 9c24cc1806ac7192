-- `push_flags`: the flags of the first i bits are put, and those of `rest` from row i on are to come.
use Rattle.std.specs.Prelude.{◌-◌, ◌*◌}
use Rattle.text_hex.proofs.Adding.{Adding}
use Rattle.text_tables.specs.Rows.{flags}
use Rattle.text_tables.proofs.rows.push_flags.Given as goal

abbrev pub invariant-loop-i : goal.invariant-loop-i
invariant-loop-i l = Adding l.initial.text (flags l.table l.n 0 l.w) (flags l.table (l.n - l.i) l.i l.rest) (25 * l.i) l.text
