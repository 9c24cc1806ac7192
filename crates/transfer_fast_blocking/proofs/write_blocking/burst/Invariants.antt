-- `burst`: the loop's invariant is the burst up to byte i, with 2 readings and 3 entries for each byte to go.
use mathlib.Core.List.{List}
use lib.ListN.{length}
use Prim.Native.Nat.{ℕ, ◌*◌, ◌-◌, ◌≤◌}
use Rattle.regs.specs.Inner.Recording.{room_of}
use Rattle.transfer.specs.declared.Point.TheVariants.{WriteBlocking}
use Rattle.transfer.specs.declared.WritePoint.TheVariants.{Send}
use Rattle.transfer_fast_blocking.specs.Inner.Bursts.{Bursts, ForAny, SameWrite}
use Rattle.transfer_fast_blocking.proofs.write_blocking.burst.Given as goal

abbrev pub invariant-loop-i : goal.invariant-loop-i
invariant-loop-i l =
    record {
      came : ForAny (λ (buffer : List ℕ). Bursts (SameWrite l.t) l.bytes l.initial.recording buffer
          (WriteBlocking (Send l.from)) l.recording buffer (WriteBlocking (Send l.i)));
      left : 2 * (l.end - l.i) ≤ length l.recording.readings.now - l.recording.used;
      room : 3 * (l.end - l.i) ≤ room_of l.recording - l.recording.entries;
    }
