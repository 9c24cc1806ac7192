-- `push_own`: `no_frame` decides between the warning and `tell`'s text; `own_none` and `own_told` (proofs/Rooms.antt) say that
-- each is `own_text`.
use mathlib.Core.Path.{sym, ◌∙◌}
use Rattle.answer_lines.specs.Lines.{number_after}
use Rattle.explain_lines.proofs.Rooms.{own_told}
use Rattle.explain_lines.proofs.Call.push_own.Goals as goal

pub returns : goal.returns
returns c = let a = c.args in
    own_told (number_after a.self.lines) a.self.transfer a.line.now (sym c.no_frame.ensures ∙ c.if-no_frame.false)
    c.requires c.tell.ensures
