-- `push_signs`: the signs so far are put, and the others, begun where the last of them ended, are to come.
use Rattle.std.specs.Prelude.{◌+◌, ◌*◌, ◌≤◌, drop}
use Rattle.text_hex.proofs.Adding.{Adding}
use Rattle.svg_text.specs.Picture.{signs_text}
use Rattle.svg_picture.proofs.Drawn.push_signs.Given as goal

abbrev pub invariant-loop-sign : goal.invariant-loop-sign
invariant-loop-sign l = record {
  adding : Adding l.initial.text (signs_text 60 70 l.self.signs.now)
      (signs_text l.end.x l.end.y (drop l.sign-index l.self.signs.now)) (196 * l.sign-index) l.text;
  narrow : l.end.x ≤ 800;
  low : l.end.y ≤ 70 + 120 * l.sign-index;
}
