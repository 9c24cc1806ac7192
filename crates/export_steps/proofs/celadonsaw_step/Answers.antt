-- `celadonsaw_step`: where the step was made on the words, `into` tells the access of a live point.
use Rattle.std.proofs.Common.{◌∙◌}
use Rattle.export_steps.specs.Inner.Steps.{access_held}
use Rattle.export_steps.proofs.celadonsaw_step.Goals as goal

pub returns-in-Some-clause-tells : goal.returns-in-Some-clause-tells
unfolding access_held
returns-in-Some-clause-tells c = c.into.ensures ∙ simp (c.access_at.ensures, c.in-Some.ensures.live)
