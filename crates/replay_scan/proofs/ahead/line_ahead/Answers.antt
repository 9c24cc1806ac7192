-- `line_ahead`: the invariant `Scanned`: no LF is among the first n bytes. `scan_more` adds a byte that is no
-- LF, `scan_found` ends at one.
use native.Mathlib.Omega.{arith}
use Rattle.replay_scan_readings.proofs.Scans.{scan_found, scan_more}
use Rattle.replay_scan.proofs.ahead.line_ahead.Goals as goal

pub returns-then-chunk-n-eq10 : goal.returns-then-chunk-n-eq10
returns-then-chunk-n-eq10 c = (
  scan_found c.loop-n.invariant (omega (arith, c.loop-n-test.true, c.min-n-end.ensures)) c.if-chunk-n-eq10.true,
  omega (arith, c.loop-n-test.true, c.min-n-end.ensures),
)

pub loop-n-preserved : goal.loop-n-preserved
loop-n-preserved c =
    scan_more c.loop-n.invariant (omega (arith, c.loop-n-test.true, c.min-n-end.ensures)) c.if-chunk-n-eq10.false
