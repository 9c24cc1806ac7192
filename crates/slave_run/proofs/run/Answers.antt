-- `run`: the loop's invariant is `Reaches`, a run of the machine from the start to the present point; `then` adds the
-- burst of `burst_from`, `recording_goes` the access performed, and `recording_halts` with `whole` ends it.
use Rattle.std.proofs.Common.{rules}
use mathlib.Core.Path.{ap}
use Rattle.slave_steps.specs.declared.Moved.{Moved}
use Rattle.regs_runs.proofs.Reach.{then, keeps_on, recording_halts, recording_goes, whole}
use Rattle.slave_run.proofs.run.Goals as goal

pub loop-v-preserved : goal.loop-v-preserved
loop-v-preserved c =
    let ahead = c.burst_from-point.ensures in
    let g = rw (← ahead.keeps.readings, ← c.at_point-p.ensures) at ((then) c.loop-v.invariant.1 ahead.reaches) in (
      keeps_on (keeps_on c.loop-v.invariant.0 ahead.keeps) c.perform.ensures.keeps,
      recording_goes g c.next_access.ensures c.perform.ensures c.in-Ok.is (ap (λ (x : Moved). x.store) c.advance-moved.ensures)
          c.keep.ensures (ap (λ (x : Moved). x.slave) c.advance-moved.ensures),
    )

pub returns-in-Err : goal.returns-in-Err
returns-in-Err c =
    let ahead = c.burst_from-point.ensures in
    let g = rw (← ahead.keeps.readings, ← c.at_point-p.ensures) at ((then) c.loop-v.invariant.1 ahead.reaches) in
    let k = keeps_on c.loop-v.invariant.0 ahead.keeps in
    let h = whole g (recording_halts g c.next_access.ensures c.perform.ensures c.in-Err.is) in
    search rules
