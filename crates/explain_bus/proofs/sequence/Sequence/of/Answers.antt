-- `of`: the tests are those of `whole`, and where both fail the places hold the whole sequence (`held` of
-- proofs/Signs.antt).
use Rattle.std.proofs.Common.{arith}
use borrow.Author.Tests.{le-ltb}
use Rattle.explain_bus.proofs.Signs.{held}
use Rattle.explain_bus.proofs.sequence.Sequence.of.Goals as goal

pub returns : goal.returns
returns c = rw (
  ← c.bus_sequence-count.ensures.0,
  le-ltb _ _ c.if-count-gt-MOST.false,
  ← c.bus_sequence-count.auto.out,
  le-ltb _ _ c.if-places-lt-MOST.false,
  ← held _ _ c.bus_sequence-count.ensures
      (omega (arith, c.if-count-gt-MOST.false, c.if-places-lt-MOST.false)) c.bus_sequence-count.auto.out,
)
