-- `feed_all`: `fed_more` adds what a call of `feed` did; `fed_cut` closes the exit at a write that failed.
use borrow.Author.Rules.{rules}
use Rattle.replay.proofs.Moving.{fed_none, fed_more, fed_cut}
use Rattle.replay.proofs.input.feed_all.Goals as goal

pub loop-left-init : goal.loop-left-init
loop-left-init c = (fed_none _ _ c.requires.sound, search rules)

pub returns-then-fails_to_write-clause-fed : goal.returns-then-fails_to_write-clause-fed
returns-then-fails_to_write-clause-fed c = fed_cut (fed_more c.loop-left.invariant.0 c.feed-used.ensures.fed)

pub loop-left-preserved : goal.loop-left-preserved
loop-left-preserved c = (fed_more c.loop-left.invariant.0 c.feed-used.ensures.fed, search rules)
