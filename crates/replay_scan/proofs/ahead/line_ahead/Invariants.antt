-- `line_ahead`: the invariant `Scanned`: no LF is among the first n bytes.
use Rattle.replay_scan_readings.proofs.Scans.{Scanned}
use Rattle.replay_scan.proofs.ahead.line_ahead.Given as goal

abbrev pub invariant-loop-n : goal.invariant-loop-n
invariant-loop-n l = Scanned l.chunk l.n
