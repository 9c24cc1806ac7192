-- `run_readings`: `ran` on what `run` did with the places behind the readings that the call has.
use mathlib.Core.Path.{sym, ◌∙◌}
use borrow.Author.Rules.{rules}
use native.Mathlib.Omega.{arith}
use Rattle.std.proofs.lemmas.List.{take_rest}
use Rattle.replay_scan_readings.proofs.Runs.{ran, lent_rest}
use Rattle.replay_scan_readings.proofs.run_readings.Goals as goal

pub returns-then-n-gt0 : goal.returns-then-n-gt0
returns-then-n-gt0 c =
    let a = c.args in
    rw (
      c.after_run.ensures.after,
      lent_rest c.min-first.result a.readings.now c.run-n.new.readings (omega (arith, c.min-first.ensures)),
      c.min-first.ensures,
      c.counts_of.ensures,
    )
    (ran a.s.now a.chunk.now a.readings.now c.run-n.new.readings c.run-n.result (search rules) c.after_run.ensures.in_range
    (rw (take_rest a.readings.now c.min-first.result, c.min-first.ensures, c.counts_of.ensures) at c.run-n.ensures) c.if-n-gt0.true)
