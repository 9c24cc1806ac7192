-- `push_entries`: `entry_next` of proofs/Steps.antt moves one entry over.
use Rattle.std.proofs.Common.{arith}
use Rattle.text_hex.proofs.Adding.{one_more, all_added}
use Rattle.answer_text.proofs.Steps.{entry_next, entries_end}
use Rattle.answer_text.proofs.entries.push_entries.Goals as goal

pub loop-i-preserved : goal.loop-i-preserved
loop-i-preserved c =
    one_more c.loop-i.invariant _ (entry_next c.args.log.now c.args.n c.loop-i.i c.requires.entries c.loop-i-test.true)
    (rw c.entry_of-e.ensures at c.push_entry.ensures) (omega arith)

pub returns : goal.returns
returns c =
    all_added c.loop-i.invariant _ (entries_end c.args.log.now c.args.n c.loop-i.i c.requires.entries c.loop-i-test.false)
    (omega arith)
