-- `drive`: the loop's invariant `Reaches`: the machine's run from here is the rest of its run from `from`.
-- `recording_goes` extends it by an access that was performed, `recording_halts` and `whole` close it where the run
-- stops; the free log entries decrease, since an access is only done where one is free (`recording_has_more`).
use Rattle.clock.specs.Inner.Machine.{machine}
use Rattle.regs.specs.Inner.Recording.{Keeps}
use Rattle.regs_runs.specs.Inner.Reaches.{Reaches}
use lib.ListN.{length}
use mathlib.Core.List.{[]}
use Prim.Native.Nat.{◌/◌, ◌-◌}
use Rattle.clock.proofs.drive.Given as goal

abbrev pub invariant-loop-v : goal.invariant-loop-v
invariant-loop-v l =
    Keeps l.initial.recording l.recording
    × Reaches machine l.recording.readings.now l.initial.p 0 0 l.initial.recording.log.now [] l.p l.recording.entries
    l.recording.used l.recording.log.now []

abbrev pub decreases-loop-v : goal.decreases-loop-v
decreases-loop-v l = length l.initial.recording.log.now / 2 - l.recording.entries
