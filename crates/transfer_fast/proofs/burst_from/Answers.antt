-- `burst_from`: the burst that begins at the point holds of this transfer (`burst_ahead`, `fills_ahead`).
use mathlib.Core.Path.{◌≡◌, refl, ap, ◌∙◌}
use Rattle.transfer.specs.declared.Point.TheVariants.{ReadBlocking, WriteBlocking, ReadAsync, WriteAsync}
use Rattle.transfer.specs.declared.ReadPoint.TheVariants.{Room}
use Rattle.transfer.specs.declared.WritePoint.TheVariants.{Send}
use Rattle.transfer.specs.declared.RoundPoint.TheVariants.{Capacity}
use Rattle.transfer.specs.declared.FillPoint.TheVariants.{Free}
use Rattle.transfer_fast.proofs.Coming.{burst_ahead, fills_ahead}
use Rattle.transfer_fast.proofs.burst_from.Goals as goal

pub returns-in-ReadBlocking-Room : goal.returns-in-ReadBlocking-Room
returns-in-ReadBlocking-Room c =
    let arm = c.in-ReadBlocking-Room in
    let at : c.args.t.point ≡ ReadBlocking (Room arm.i) = arm.is ∙ ap ReadBlocking (rw arm.is at arm.field-0-is) in
    burst_ahead at (record { len = refl; at = refl; restart = refl }) (c.burst-next.ensures c.args.bytes.now)

pub returns-in-WriteBlocking-Send : goal.returns-in-WriteBlocking-Send
returns-in-WriteBlocking-Send c =
    let arm = c.in-WriteBlocking-Send in
    let at : c.args.t.point ≡ WriteBlocking (Send arm.i) = arm.is ∙ ap WriteBlocking (rw arm.is at arm.field-0-is) in
    burst_ahead at (record { len = refl; at = refl })
    (c.burst-next-in-WriteBlocking-Send.ensures c.args.buffer.now)

pub returns-in-ReadAsync-Capacity : goal.returns-in-ReadAsync-Capacity
returns-in-ReadAsync-Capacity c =
    let arm = c.in-ReadAsync-Capacity in
    let at : c.args.t.point ≡ ReadAsync (Capacity arm.round) = arm.is ∙ ap ReadAsync (rw arm.is at arm.field-0-is) in
    burst_ahead at (record { len = refl; at = refl; restart = refl; send_stop = refl })
    (c.burst-next-in-ReadAsync-Capacity.ensures c.args.bytes.now)

pub returns-in-WriteAsync-Free : goal.returns-in-WriteAsync-Free
returns-in-WriteAsync-Free c =
    let arm = c.in-WriteAsync-Free in
    let at : c.args.t.point ≡ WriteAsync (Free arm.i) = arm.is ∙ ap WriteAsync (rw arm.is at arm.field-0-is) in
    fills_ahead at c.burst.ensures
