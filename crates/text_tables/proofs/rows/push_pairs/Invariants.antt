-- `push_pairs`: the pairs before pair i are put, and those from it on are to come.
use Rattle.std.specs.Prelude.{◌+◌, ◌*◌, ◌-◌, ◌≤◌, drop, length}
use Rattle.text_hex.proofs.Adding.{Adding}
use Rattle.text_tables.specs.Rows.{spaced}
use Rattle.text_tables.proofs.rows.push_pairs.Given as goal

abbrev pub invariant-loop-i : goal.invariant-loop-i
invariant-loop-i l = record {
  adding : Adding l.initial.text (spaced (drop 2 l.line)) (spaced (drop (2 * l.i) l.line)) (3 * (l.i - 1)) l.text;
  inside : 2 * l.i ≤ length l.line + 2;
}
