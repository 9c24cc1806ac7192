-- `run`: at the outer loop's head the rounds so far lead to byte i; each puts entries, so the room in the log
-- decreases. At the inner one's, n places of the round are filled.
use Prim.Native.Nat.{◌+◌, ◌-◌, ◌≤◌}
use Rattle.regs.specs.Inner.Recording.{room_of}
use Rattle.transfer.specs.Inner.Machine.{go}
use Rattle.transfer.specs.declared.Point.TheVariants.{WriteAsync}
use Rattle.transfer.specs.declared.FillPoint.TheVariants.{Free}
use Rattle.transfer_fast_write_async.specs.Inner.Fills.{Leads, Filled}
use Rattle.transfer_fast_write_async.proofs.run.Given as goal

abbrev pub invariant-xmit : goal.invariant-xmit
invariant-xmit l =
    record {
      came : Leads l.t l.bytes l.initial.recording (go (WriteAsync (Free l.fn.from))) l.recording (go (WriteAsync (Free l.i)));
      within : l.i ≤ l.t.operation.len;
    }

abbrev pub decreases-xmit : goal.decreases-xmit
decreases-xmit l = room_of l.initial.recording - l.recording.entries

abbrev pub invariant-loop-n : goal.invariant-loop-n
invariant-loop-n l =
    record {
      filled : Filled l.t l.bytes l.i l.n l.initial.recording l.recording;
      within : l.i + l.n ≤ l.t.operation.len;
    }
