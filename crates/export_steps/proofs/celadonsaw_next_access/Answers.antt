-- `celadonsaw_next_access`: the test `ended`, a group above 7, selects the case of `held_at`. For an ended
-- transfer `byte` and `full` read number and detail from `words[ROW]` and `words[WORD]`; else the contracts
-- of `transfer_from`, `next_access` and `into` compose.
use mathlib.Core.Path.{sym, ◌∙◌}
use Rattle.words.specs.Inner.Words.{held_at}
use Rattle.export_steps.specs.Inner.Steps.{ended, access_held}
use Rattle.export_steps.proofs.celadonsaw_next_access.Goals as goal

pub returns-then-ended : goal.returns-then-ended
unfolding held_at access_held ended
returns-then-ended c = simp (sym c.ended.ensures ∙ c.if-ended.true, c.end.ensures, c.byte.ensures, c.full.ensures)

pub returns : goal.returns
unfolding held_at access_held
returns c = simp (
  sym c.ended.ensures ∙ c.if-ended.false,
  c.transfer_from.ensures,
  c.next_access.ensures,
  c.into.ensures,
)
