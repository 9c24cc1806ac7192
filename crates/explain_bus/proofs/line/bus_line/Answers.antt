-- `bus_line`: by `line_is` (proofs/Whole.antt) the line is that of the sequence that `of` found, or none.
use Rattle.std.proofs.Common.{arith, ap, sym, ◌∙◌, length}
use borrow.Author.Tests.{le-ltb, lt-ltb}
use Rattle.text_hex.proofs.Appends.{within, nothing}
use Rattle.explain_bus.specs.Inner.Whole.{signs_in}
use Rattle.explain_bus.proofs.Whole.{line_is}
use Rattle.explain_bus.proofs.line.bus_line.Goals as goal

pub returns-in_default : goal.returns-in_default
returns-in_default c = let a = c.args in
    rw (line_is a.log.now (length a.places.now) (length a.out.now) (ap signs_in (sym c.in_default.is) ∙ c.of.ensures))
    (nothing _ _ _)

pub returns-then-out-lt-ROOM : goal.returns-then-out-lt-ROOM
returns-then-out-lt-ROOM c = let a = c.args in
    rw (
      line_is a.log.now (length a.places.now) (length a.out.now) (ap signs_in (sym c.in-Some.is) ∙ c.of.ensures),
      lt-ltb _ _ c.if-out-lt-ROOM.true,
    ) (nothing _ _ _)

pub returns : goal.returns
returns c = let a = c.args in
    rw (
      line_is a.log.now (length a.places.now) (length a.out.now) (ap signs_in (sym c.in-Some.is) ∙ c.of.ensures),
      le-ltb _ _ c.if-out-lt-ROOM.false,
    ) (within _ (omega (arith, c.if-out-lt-ROOM.false)) c.put.ensures)
