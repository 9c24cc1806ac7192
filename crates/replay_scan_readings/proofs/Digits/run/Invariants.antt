-- `Digits::run`: the loop's invariant is the contract's `Run` for the readings so far; `run_more`
-- (proofs/Runs.antt) extends it by the one that `reading` found.
use Rattle.replay_scan_readings.specs.Inner.Run.{Run}
use Rattle.replay_scan_readings.proofs.Digits.run.Given as goal

abbrev pub invariant-loop-n : goal.invariant-loop-n
invariant-loop-n l = Run l.chunk l.initial.readings l.n l.readings
