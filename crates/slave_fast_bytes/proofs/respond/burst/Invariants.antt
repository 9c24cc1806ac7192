-- `burst`: the chunks so far are a run of the response to a poll at byte i, and each puts entries, so the room in the
-- log decreases.
use Prim.Native.Nat.{◌-◌}
use Rattle.regs.specs.Inner.Recording.{room_of}
use Rattle.slave_respond.specs.declared.RespondPoint.TheVariants.{RawIntrStat}
use Rattle.slave_fast_bytes.specs.Inner.Bursts.{Responds}
use Rattle.slave_fast_bytes.proofs.respond.burst.Given as goal

abbrev pub invariant-loop-end : goal.invariant-loop-end
invariant-loop-end l = Responds l.count l.bytes (RawIntrStat l.from) l.initial.recording (RawIntrStat l.i) l.recording

abbrev pub decreases-loop-end : goal.decreases-loop-end
decreases-loop-end l = room_of l.initial.recording - l.recording.entries
