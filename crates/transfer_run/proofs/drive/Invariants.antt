-- `drive`: the loop's invariant `Reaches` says that the run came from its start to here. Each step leads on
-- (`then`) or ends the run (`whole`); the free log entries decrease, because a step that leads on makes an
-- entry.
use Prim.Native.Nat.{◌-◌}
use Rattle.regs.specs.Inner.Recording.{Keeps, room_of}
use Rattle.transfer.specs.Inner.Machine.{machine}
use Rattle.regs_runs.specs.Inner.Reaches.{Reaches}
use Rattle.transfer_run.proofs.drive.Given as goal

abbrev pub invariant-loop-next : goal.invariant-loop-next
invariant-loop-next l =
    Keeps l.initial.recording l.recording
    × Reaches (machine l.plan.coded l.plan.operations.kinds.now l.plan.operations.lengths.now l.bytes) l.recording.readings.now l.initial.t 0 0 l.initial.recording.log.now
    l.initial.buffer l.t l.recording.entries l.recording.used l.recording.log.now l.buffer

abbrev pub decreases-loop-next : goal.decreases-loop-next
decreases-loop-next l = room_of l.initial.recording - l.recording.entries
