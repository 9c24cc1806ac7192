-- `read_all`: `feed_on` takes the bytes of one read that were fed; `read_last` closes the exit at a read that brought
-- nothing, `left_off` that at a failed write.
use borrow.Author.Rules.{rules}
use Rattle.replay.proofs.Moving.{starts, read_last, feed_on, left_off}
use Rattle.replay.proofs.input.read_all.Goals as goal

pub loop-turn-init : goal.loop-turn-init
loop-turn-init c = (
  starts _ _ c.start-reader.ensures c.requires.text c.requires.lent c.requires.buffer c.requires.log c.requires.room,
  search rules,
)

pub returns-then-got-eq0-clause-read : goal.returns-then-got-eq0-clause-read
returns-then-got-eq0-clause-read c =
    read_last c.loop-turn.invariant.0 c.read_some-got.ensures c.if-got-eq0.true

pub returns-then-not-feed_all-clause-read : goal.returns-then-not-feed_all-clause-read
returns-then-not-feed_all-clause-read c =
    left_off c.loop-turn.invariant.0 c.read_some-got.ensures c.if-got-eq0.false _ c.if-not-feed_all.ensures.fed

pub loop-turn-preserved : goal.loop-turn-preserved
loop-turn-preserved c = (
  feed_on c.loop-turn.invariant.0 c.read_some-got.ensures c.if-got-eq0.false c.if-not-feed_all.ensures.fed
      c.feed_all.ensures.same.work.out_length,
  search rules,
)
