-- `draw_line`: at an answer, `of_answer` (proofs/Turns.antt) over the contracts of the functions that draw.
use mathlib.Core.Path.{sym, ap, ◌∙◌}
use Rattle.answer_frames.specs.Frames.{is_answer}
use Rattle.svg_lines.proofs.Turns.{of_answer}
use Rattle.svg_lines.proofs.draw_line.Goals as goal

pub returns-then-is_answer : goal.returns-then-is_answer
returns-then-is_answer c = of_answer c.number_after-lines.ensures c.if-kept.false
    (sym (c.is_answer.ensures ∙ ap is_answer c.frame_in.ensures)
    ∙ c.if-is_answer.true)
    c.push_picture-made.ensures c.push_picture-made.auto.out
    c.clear.ensures
