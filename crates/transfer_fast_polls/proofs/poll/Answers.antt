-- `poll`: the match on the point picks the poll, and its contract holds at that point.
use mathlib.Core.Path.{◌≡◌, refl, ap, ◌∙◌}
use Rattle.transfer.specs.declared.AbortPoint.{AbortPoint}
use Rattle.transfer.specs.declared.AbortPoint.TheVariants.{Source}
use Rattle.transfer.specs.declared.Caller.TheVariants.{Space}
use Rattle.transfer.specs.declared.Point.TheVariants.{Abort, ReadAsync}
use Rattle.transfer.specs.declared.RoundPoint.TheVariants as RoundPoint
use Rattle.transfer_fast_polls.proofs.poll.Goals as goal

pub returns-in-ReadAsync-Level-clause-stays : goal.returns-in-ReadAsync-Level-clause-stays
returns-in-ReadAsync-Level-clause-stays c =
    let arm = c.in-ReadAsync-Level in
    let at : c.args.p ≡ ReadAsync (RoundPoint.Level arm.round) = arm.is ∙ ap ReadAsync (rw arm.is at arm.field-0-is) in
    rw at (c.batch.ensures.stays _ refl)

pub returns-in-Abort-Source-Space-clause-stays : goal.returns-in-Abort-Source-Space-clause-stays
returns-in-Abort-Source-Space-clause-stays c =
    let arm = c.in-Abort-Source-Space in
    let at : c.args.p ≡ Abort Source (Space arm.field-1-0) =
    arm.is ∙ ap (λ (a : AbortPoint). Abort a arm.field-1) (rw arm.is at arm.field-0-is)
    ∙ ap (Abort Source) (rw arm.is at arm.field-1-is) in
    rw at (c.space.ensures.stays _)
