-- `bus_sequence`: the loop's invariant `Putting` (proofs/Sequence.antt): what is stored and what the entries
-- to come still make are together the whole sequence. `put_on` and `passed` carry it over an entry, at most 4
-- places each, `all_put` closes it at the last; `same_entry` reads the entry from its pair of words.
use Rattle.bus.proofs.Sequence.{put_on, passed, all_put, same_entry}
use Rattle.bus.specs.Placed.{written_by}
use Rattle.regs.specs.Registers.{DATA_CMD}
use mathlib.Core.Path.{ap, ◌∙◌}
use borrow.Author.Rules.{rules}
use Rattle.bus.proofs.bus_sequence.Goals.{in-Some, in_default}
use Rattle.bus.proofs.bus_sequence.Goals as goal

pub loop-words-preserved : goal.loop-words-preserved
loop-words-preserved c = let i = c.loop-words.invariant in
    let h = rw c.as_chunks.ensures.front_len at c.loop-words-test.true in
    let e = c.written_in.ensures
    ∙ ap (written_by DATA_CMD) (same_entry c.args.log.now c.loop-words.words-index _ c.as_chunks.ensures.front h) in
    elim c.match-written_in.branch [
      | in-Some w ↦ rw (w.sequence-is, w.bus-is) (
        i.0,
        w.put_word-bus.ensures.same_reference ∙ i.1,
        put_on i.2 h e w.in-Some.is w.put_word-bus.ensures.bus w.put_word-bus.ensures.put,
      )
      | in_default w ↦ rw (w.sequence-is, w.bus-is) (i.0, i.1, passed i.2 h e w.in_default.is)
    ]

pub returns : goal.returns
returns c = let i = c.loop-words.invariant in
    let p = all_put i.2 (rw c.as_chunks.ensures.front_len at c.loop-words-test.false) in
    (rw (← c.address_in-address.ensures) p.0, rw (← c.address_in-address.ensures) (search rules))
