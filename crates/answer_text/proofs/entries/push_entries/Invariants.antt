-- `push_entries`: the entries before entry i are put, and those from it on are to come.
use Rattle.std.specs.Prelude.{◌*◌, take}
use Rattle.text_hex.proofs.Adding.{Adding}
use Rattle.answer_text.proofs.Steps.{to_come}
use Rattle.answer_text.proofs.entries.push_entries.Given as goal

abbrev pub invariant-loop-i : goal.invariant-loop-i
invariant-loop-i l =
    Adding l.initial.text (to_come (take (l.n * 2) l.log) 0) (to_come (take (l.n * 2) l.log) l.i) (13 * l.i) l.text
