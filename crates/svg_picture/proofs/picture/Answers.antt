-- `picture`: by `picture_is` the picture is that of the sequence that `of` found, or none; what is drawn of it are
-- its first 256 signs (`first_drawn`, proofs/Rows.antt).
use Rattle.std.proofs.Common.{ap, sym, ◌∙◌, length}
use borrow.Author.Tests.{le-ltb, ne_eqb}
use Rattle.text_hex.proofs.Appends.{within, nothing}
use Rattle.explain_bus.specs.Inner.Whole.{signs_in}
use Rattle.svg_picture.proofs.Rows.{first_drawn, picture_is}
use Rattle.svg_picture.proofs.picture.Goals as goal

pub returns-in_default : goal.returns-in_default
returns-in_default c = let a = c.args in
    rw (picture_is a.log.now (length a.places.now) (length a.out.now) (ap signs_in (sym c.in_default.is) ∙ c.of.ensures))
    (nothing _ _ _)

pub returns : goal.returns
returns c = let a = c.args in
    rw (
      picture_is a.log.now (length a.places.now) (length a.out.now) (ap signs_in (sym c.in-Some.is) ∙ c.of.ensures),
      le-ltb _ _ c.if-out-lt-ROOM.false,
      ne_eqb _ _ c.if-count-eq0.false,
      ← first_drawn c.in-Some.sequence.signs.now c.min.ensures,
    ) (within _ c.if-out-lt-ROOM.false c.put.ensures)
