-- `Digits::run`: the loop's invariant is the contract's `Run` for the readings so far; `run_more`
-- (proofs/Runs.antt) extends it by the one that `reading` found.
use Prim.Native.Nat.{◌*◌}
use native.Mathlib.Omega.{arith}
use Rattle.std.proofs.lemmas.List.{take_rest}
use Rattle.replay_scan_readings.proofs.Runs.{run_more}
use Rattle.replay_scan_readings.proofs.Digits.run.Goals as goal

pub loop-n-preserved : goal.loop-n-preserved
loop-n-preserved c = run_more c.loop-n.invariant _ (rw (c.in-Some.is, take_rest c.args.chunk.now (c.loop-n.n * 11)) at c.reading.ensures)
    (omega (arith, c.loop-n-test.true, c.loop-n.invariant.size))
