-- `drive`: the loop's invariant `Reaches`: the machine's run from here is the rest of its run from `from`.
-- `recording_goes` extends it by an access that was performed, `recording_halts` and `whole` close it where the run
-- stops.
use Rattle.std.proofs.Common.{rules}
use mathlib.Core.Path.{refl}
use Rattle.regs_runs.proofs.Reach.{keeps_on, recording_halts, recording_goes, whole}
use Rattle.clock.proofs.drive.Goals as goal

pub loop-v-preserved : goal.loop-v-preserved
loop-v-preserved c = (
  keeps_on c.loop-v.invariant.0 c.perform.ensures.keeps,
  recording_goes c.loop-v.invariant.1 c.next_access.ensures c.perform.ensures c.in-Ok.is refl refl c.advance-p.ensures,
)

pub returns-in-Err : goal.returns-in-Err
returns-in-Err c =
    let g = c.loop-v.invariant.1 in
    let k = c.loop-v.invariant.0 in
    let h = whole g (recording_halts g c.next_access.ensures c.perform.ensures c.in-Err.is) in
    search rules
