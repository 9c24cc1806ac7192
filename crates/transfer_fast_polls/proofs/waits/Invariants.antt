-- `waits`: the polls so far stay at the point, and each puts an entry, so the room in the log decreases.
use Prim.Native.Nat.{◌-◌}
use Rattle.regs.specs.Inner.Recording.{room_of}
use Rattle.transfer_fast_polls.specs.Inner.Stays.{Stays}
use Rattle.transfer_fast_polls.proofs.waits.Given as goal

abbrev pub invariant-loop-p : goal.invariant-loop-p
invariant-loop-p l = Stays l.p l.initial.recording l.recording

abbrev pub decreases-loop-p : goal.decreases-loop-p
decreases-loop-p l = room_of l.initial.recording - l.recording.entries
