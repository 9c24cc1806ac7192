-- `export_steps::by_points` meets its contract.
use mathlib.Core.Path.{sym, ◌∙◌}
use Rattle.words.specs.Inner.Words.{held_at}
use Rattle.export_steps.proofs.by_points.Goals as goal

pub returns-then-ended : goal.returns-then-ended
unfolding held_at
returns-then-ended c = simp (sym c.ended.ensures ∙ c.if-ended.true)

pub returns : goal.returns
unfolding held_at
returns c = c.put.ensures
    ∙ simp (
      sym c.ended.ensures ∙ c.if-ended.false,
      c.advance.ensures,
      c.transfer_from-t.ensures,
    )
