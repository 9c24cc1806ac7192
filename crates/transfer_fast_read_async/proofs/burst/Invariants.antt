-- `burst`: the loop's invariant is the burst up to a round, whose bytes are within the operation
-- and have their places; each round puts
-- entries, so the room in the log decreases.
use Prim.Native.Nat.{ℕ, ◌+◌, ◌-◌, ◌≤◌}
use lib.ListN.{length}
use mathlib.Core.List.{List}
use Rattle.regs.specs.Inner.Recording.{room_of}
use Rattle.transfer.specs.declared.Point.TheVariants.{ReadAsync}
use Rattle.transfer.specs.declared.RoundPoint.TheVariants.{Capacity}
use Rattle.transfer_fast_blocking.specs.Inner.Bursts.{Bursts, ForAny}
use Rattle.transfer_fast_read_async.specs.Inner.Rounds.{SameRounds}
use Rattle.transfer_fast_read_async.proofs.burst.Given as goal

abbrev pub invariant-loop-plan : goal.invariant-loop-plan
invariant-loop-plan l =
    record {
      came : ForAny (λ (bytes : List ℕ). Bursts (SameRounds l.t) bytes l.initial.recording l.initial.buffer
          (ReadAsync (Capacity l.fn.from)) l.recording l.buffer (ReadAsync (Capacity l.round)));
      within : l.round.remaining ≤ l.t.operation.len;
      held : l.t.operation.at + l.t.operation.len ≤ length l.buffer + 1;
    }

abbrev pub decreases-loop-plan : goal.decreases-loop-plan
decreases-loop-plan l = room_of l.initial.recording - l.recording.entries
