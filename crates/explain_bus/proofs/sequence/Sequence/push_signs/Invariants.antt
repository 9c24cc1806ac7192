-- `push_signs`: the text put so far and that of the signs to come, after `run` open read slots, are together
-- the whole. `slot_next` and `sign_next` of proofs/Signs.antt carry it by the test for a read slot.
use Rattle.std.specs.Prelude.{◌-◌, ◌*◌, ◌≤◌, drop}
use Rattle.text_hex.proofs.Adding.{Adding}
use Rattle.explain_bus.specs.Line.{signs_text}
use Rattle.explain_bus.proofs.sequence.Sequence.push_signs.Given as goal

abbrev pub invariant-loop-sign : goal.invariant-loop-sign
invariant-loop-sign l = record {
  adding : Adding l.initial.text (signs_text 0 l.self.signs.now) (signs_text l.run (drop l.sign-index l.self.signs.now))
      (9 * l.sign-index - 8 * l.run) l.text;
  few : l.run ≤ l.sign-index;
}
