-- `address_in`: the loop's invariant is that the first value written to TAR from an entry on is that of the
-- whole log. `first_here` ends it at a write, `first_later` passes an entry that writes none, `first_none`
-- gives 0 at the end; `same_entry` reads the entry from its pair of words (proofs/Sequence.antt).
use Rattle.bus.proofs.Sequence.{first_here, first_later, first_none, same_entry}
use Rattle.bus.specs.Placed.{written_by}
use Rattle.regs.specs.Fields.{address_field}
use Rattle.regs.specs.Registers.{TAR}
use mathlib.Core.Path.{sym, ap, ◌∙◌}
use Rattle.bus.proofs.address_in.Goals as goal

pub returns-in-Some : goal.returns-in-Some
returns-in-Some c = let l = c.args.log.now in
    let h = rw c.as_chunks.ensures.front_len at c.loop-words-test.true in
    let e = c.written_in.ensures ∙ ap (written_by TAR) (same_entry l c.loop-words.words-index _ c.as_chunks.ensures.front h) in
    c.address_of.ensures
    ∙ ap address_field (sym (first_here TAR l c.loop-words.words-index h e c.in-Some.is) ∙ c.loop-words.invariant)

pub loop-words-preserved : goal.loop-words-preserved
loop-words-preserved c = let l = c.args.log.now in
    let h = rw c.as_chunks.ensures.front_len at c.loop-words-test.true in
    let e = c.written_in.ensures ∙ ap (written_by TAR) (same_entry l c.loop-words.words-index _ c.as_chunks.ensures.front h) in
    sym (first_later TAR l c.loop-words.words-index h e c.in_default.is) ∙ c.loop-words.invariant

pub returns : goal.returns
returns c = let h = rw c.as_chunks.ensures.front_len at c.loop-words-test.false in
    ap address_field (sym (first_none TAR c.args.log.now c.loop-words.words-index h) ∙ c.loop-words.invariant)
