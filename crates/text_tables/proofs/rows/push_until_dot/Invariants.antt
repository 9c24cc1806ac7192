-- `push_until_dot`: the letters so far are put, and those up to the dot are to come (`Adding` of text_hex's
-- proofs/Adding.antt).
use Rattle.std.specs.Prelude.{drop}
use Rattle.text_hex.proofs.Adding.{Adding}
use Rattle.text_tables.specs.Rows.{until_dot}
use Rattle.text_tables.proofs.rows.push_until_dot.Given as goal

abbrev pub invariant-loop-c : goal.invariant-loop-c
invariant-loop-c l = Adding l.initial.text (until_dot l.letters) (until_dot (drop l.c-index l.letters)) l.c-index l.text
