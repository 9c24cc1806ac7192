-- `run`: the loop's invariant is `Reaches`, a run of the machine from the start to the present point; `then` adds the
-- burst of `burst_from`, `recording_goes` the access performed, and `recording_halts` with `whole` ends it. The free
-- log entries decrease: an access that is done takes one (`recording_has_more`), a burst frees none (`up`).
use Prim.Native.Nat.{◌/◌, ◌-◌}
use lib.ListN.{length}
use Rattle.regs.specs.Inner.Recording.{Keeps}
use Rattle.slave_steps.specs.Inner.Machine.{machine}
use Rattle.regs_runs.specs.Inner.Reaches.{Reaches}
use Rattle.slave_run.proofs.run.Given as goal

abbrev pub invariant-loop-v : goal.invariant-loop-v
invariant-loop-v l =
    Keeps l.initial.recording l.recording
    × Reaches (machine l.bytes) l.recording.readings.now l.initial.p 0 0 l.initial.recording.log.now l.initial.buffer
    l.p l.recording.entries l.recording.used l.recording.log.now l.buffer

abbrev pub decreases-loop-v : goal.decreases-loop-v
decreases-loop-v l = length l.initial.recording.log.now / 2 - l.recording.entries
