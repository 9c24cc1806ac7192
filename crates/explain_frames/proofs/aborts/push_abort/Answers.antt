-- `push_abort`: the literal table is `aborts_flags` by unfolding.
use mathlib.Core.Path.{refl}
use Rattle.explain_frames.specs.Tables.{aborts_flags}
use Rattle.explain_frames.proofs.aborts.push_abort.Goals as goal

pub invariant_of-names : goal.invariant_of-names
unfolding aborts_flags
invariant_of-names c = record { of_causes = refl }
