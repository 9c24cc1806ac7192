-- `export_steps::refuse` meets its contract.
use Rattle.export_steps.specs.Inner.Steps.{over_limits}
use Rattle.export_steps.proofs.refuse.Goals as goal

pub returns : goal.returns
unfolding over_limits
returns c = c.at_point.ensures
