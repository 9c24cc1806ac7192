-- `push_causes`: a word that is 0 adds nothing (`no_text`); else the contract of `causes` gives the case of
-- `counted_text`. That the lowest is below 17 is a law of the causes (`told`).
use native.Mathlib.Omega.{arith}
use mathlib.Core.Path.{◌∙◌, sym}
use borrow.Author.Tests.{eq-eqb, ne_eqb}
use Rattle.text_hex.proofs.Adding.{no_text, at_most}
use Rattle.regs_causes.proofs.Laws.{told}
use Rattle.explain_frames.specs.Texts.{causes_text, counted_text}
use Rattle.explain_frames.proofs.aborts.Names.push_causes.Goals as goal

pub returns-then-w-eq0 : goal.returns-then-w-eq0
unfolding causes_text
returns-then-w-eq0 c = rw (eq-eqb c.args.w 0 (omega (arith, c.if-w-eq0.true))) (no_text _ _)

pub push_counted-requires-clause-a_cause : goal.push_counted-requires-clause-a_cause
push_counted-requires-clause-a_cause c = (told _ _ (sym c.causes.ensures ∙ c.in-Some.is)).a_cause

pub returns-in-None : goal.returns-in-None
unfolding causes_text counted_text
returns-in-None c = rw (ne_eqb _ _ c.if-w-eq0.false, ← c.causes.ensures, c.in-None.is)
    (at_most 44 (omega arith) c.push_text.ensures)

pub returns-in-Some : goal.returns-in-Some
unfolding causes_text
returns-in-Some c = rw (ne_eqb _ _ c.if-w-eq0.false, ← c.causes.ensures, c.in-Some.is)
    c.push_counted.ensures
