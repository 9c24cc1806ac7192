-- `celadonsaw_start`: the test `is_accepted` is the condition of `first_of`; both branches put what `mode` and
-- `start` give, the second after `refuse`, and `put`'s contract says that the words then hold that transfer.
use mathlib.Core.Path.{sym, ◌∙◌}
use Rattle.export_steps.specs.Inner.Steps.{first_of, before_first, restart_of_form}
use Rattle.export_steps.proofs.celadonsaw_start.Goals as goal

pub returns-then-is_accepted : goal.returns-then-is_accepted
unfolding first_of before_first restart_of_form
returns-then-is_accepted c = c.put.ensures
    ∙ simp (
      c.mode-mode.ensures,
      c.start-t.ensures,
      sym c.is_accepted.ensures ∙ c.if-is_accepted.true,
    )

pub returns-else-is_accepted : goal.returns-else-is_accepted
unfolding first_of before_first restart_of_form
returns-else-is_accepted c = c.put-else-is_accepted.ensures
    ∙ simp (
      c.refuse.ensures,
      c.mode-mode.ensures,
      c.start-t.ensures,
      sym c.is_accepted.ensures ∙ c.if-is_accepted.false,
    )
