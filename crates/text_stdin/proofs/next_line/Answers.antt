-- `next_line`: `reading_more` adds a read, since one follows only where no LF was found yet (`joined`) and the input is open.
use Rattle.std.proofs.Common.{sym, ◌∙◌}
use Rattle.text_stdin.proofs.Reading.{open_only, reading_none, reading_more}
use Rattle.text_stdin.proofs.next_line.Goals as goal

pub loop-init : goal.loop-init
loop-init c = reading_none c.take-part.ensures

pub loop-preserved : goal.loop-preserved
loop-preserved c =
    reading_more c.loop.invariant c.if-part.false (open_only _ (sym c.ne.ensures ∙ c.if-ne.false)) c.read_some-got.ensures
    c.take-part-in-loop.auto.line c.take-part-in-loop.ensures
