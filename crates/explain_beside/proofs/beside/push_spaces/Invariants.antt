-- `push_spaces`: the spaces before the column that is counted are put, and those up to the last are to come.
use Rattle.std.specs.Prelude.{◌-◌, ◌≤◌, replicate}
use Rattle.text_hex.proofs.Adding.{Adding}
use Rattle.explain_beside.proofs.beside.push_spaces.Given as goal

abbrev pub invariant-loop : goal.invariant-loop
invariant-loop l = record {
  adding : Adding l.initial.text (replicate (l.column - l.initial.text.at) 32) (replicate (l.column - l.counter) 32)
      (l.counter - l.initial.text.at) l.text;
  near : l.counter - l.initial.text.at ≤ l.column - l.initial.text.at;
}
