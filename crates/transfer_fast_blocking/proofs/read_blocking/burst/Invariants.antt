-- `burst`: the loop's invariant is the burst up to byte i, with 3 readings and 4 entries for each byte to go.
use mathlib.Core.List.{List}
use mathlib.Core.Path.{◌≡◌}
use lib.ListN.{length}
use Prim.Native.Nat.{ℕ, ◌*◌, ◌-◌, ◌≤◌}
use Rattle.regs.specs.Inner.Recording.{room_of}
use Rattle.transfer.specs.declared.Point.TheVariants.{ReadBlocking}
use Rattle.transfer.specs.declared.ReadPoint.TheVariants.{Room}
use Rattle.transfer_fast_blocking.specs.Inner.Bursts.{Bursts, ForAny, SameRead}
use Rattle.transfer_fast_blocking.proofs.read_blocking.burst.Given as goal

abbrev pub invariant-loop-i : goal.invariant-loop-i
invariant-loop-i l =
    record {
      came : ForAny (λ (bytes : List ℕ). Bursts (SameRead l.t) bytes l.initial.recording l.initial.buffer
          (ReadBlocking (Room l.from)) l.recording l.buffer (ReadBlocking (Room l.i)));
      left : 3 * (l.end - l.i) ≤ length l.recording.readings.now - l.recording.used;
      room : 4 * (l.end - l.i) ≤ room_of l.recording - l.recording.entries;
      wide : length l.buffer ≡ length l.initial.buffer;
    }
