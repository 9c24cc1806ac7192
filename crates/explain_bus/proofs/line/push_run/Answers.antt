-- `push_run`: a run of 0 pushes nothing; else `both` joins space, bracket, digits and bracket, at most 8
-- bytes with the 5 digits, which is at most 8 * run since run is not 0.
use Rattle.std.proofs.Common.{arith}
use borrow.Author.Tests.{ne_eqb}
use Rattle.text_hex.proofs.Adding.{both, at_most}
use Rattle.explain_bus.specs.Line.{run_text}
use Rattle.explain_bus.proofs.line.push_run.Goals as goal

pub returns : goal.returns
unfolding run_text
returns c = rw (ne_eqb _ _ c.if-run-eq0.false, ← c.from.ensures)
    (at_most _ (omega (arith, c.if-run-eq0.false))
    (both c.push.ensures
    (both c.push-2.ensures
    (both c.push_digits.ensures c.push-3.ensures))))
