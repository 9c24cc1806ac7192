-- `burst`: the bytes and polls so far are a run of the machine, and a poll puts entries, so the room in the log decreases.
use Prim.Native.Nat.{◌-◌}
use Rattle.regs.specs.Inner.Recording.{room_of}
use Rattle.slave_fast_bytes.specs.Inner.Bursts.{Drains}
use Rattle.slave_fast_bytes.proofs.listen.Message.burst.Given as goal

abbrev pub invariant-loop : goal.invariant-loop
invariant-loop l = Drains l.initial.self l.initial.recording l.initial.buffer l.self l.recording l.buffer

abbrev pub decreases-loop : goal.decreases-loop
decreases-loop l = room_of l.initial.recording - l.recording.entries
