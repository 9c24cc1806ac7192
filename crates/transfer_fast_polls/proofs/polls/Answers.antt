-- `polls`: the match on the point picks the polls, and their contract holds at that point; `empty_awaits` and
-- `stop_awaits` (proofs/AtFlag.antt) say that these two points wait for the flag.
use mathlib.Core.Path.{◌≡◌, ap, ◌∙◌}
use Rattle.transfer.specs.declared.Point.TheVariants.{ReadBlocking, WriteBlocking}
use Rattle.transfer.specs.declared.ReadPoint.TheVariants as ReadPoint
use Rattle.transfer.specs.declared.WritePoint.TheVariants.{Empty, StopDet}
use Rattle.transfer_fast_polls.proofs.AtFlag.{empty_awaits, stop_awaits}
use Rattle.transfer_fast_polls.proofs.polls.Goals as goal

pub returns-in-WriteBlocking-Empty : goal.returns-in-WriteBlocking-Empty
returns-in-WriteBlocking-Empty c =
    let arm = c.in-WriteBlocking-Empty in
    let at : c.args.p ≡ WriteBlocking (Empty arm.field-0-0) = arm.is ∙ ap WriteBlocking (rw arm.is at arm.field-0-is) in
    rw at (c.polls.ensures _ (empty_awaits _))

pub returns-in-WriteBlocking-StopDet : goal.returns-in-WriteBlocking-StopDet
returns-in-WriteBlocking-StopDet c =
    let arm = c.in-WriteBlocking-StopDet in
    let at : c.args.p ≡ WriteBlocking (StopDet arm.field-0-0) = arm.is ∙ ap WriteBlocking (rw arm.is at arm.field-0-is) in
    rw at (c.polls-in-WriteBlocking-StopDet.ensures _ (stop_awaits _))

pub returns-in-ReadBlocking-Level : goal.returns-in-ReadBlocking-Level
returns-in-ReadBlocking-Level c =
    let arm = c.in-ReadBlocking-Level in
    let at : c.args.p ≡ ReadBlocking (ReadPoint.Level arm.field-0-0) = arm.is ∙ ap ReadBlocking (rw arm.is at arm.field-0-is) in
    rw at (c.polls-in-ReadBlocking-Level.ensures _)
