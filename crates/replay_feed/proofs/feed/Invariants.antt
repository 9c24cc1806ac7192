-- `feed`: the loop's invariant `Feeding`: the text so far and what is to be printed from byte `used` on are
-- together the whole. `fed_more` adds a step; `fed_all`, `fed_stopped`, `fed_some` close the exits. The test
-- for MOST_TEXT free bytes is `step`'s room; `length chunk - used` decreases.
-- What is lent stays the same (`SameReader`).
use Prim.Native.Nat.{◌-◌}
use lib.ListN.{length}
use Rattle.replay_state.specs.Inner.Rest.{reader_of, SameReader}
use Rattle.replay_state.proofs.Feeds.{Feeding, at_begin}
use Rattle.replay_feed.proofs.feed.Given as goal

abbrev pub invariant-loop-used : goal.invariant-loop-used
invariant-loop-used l =
    Feeding (reader_of l.initial.reader) l.chunk (at_begin l.initial.reader.work.text) (reader_of l.reader)
    l.reader.work.text l.used
    × SameReader l.initial.reader l.reader

abbrev pub decreases-loop-used : goal.decreases-loop-used
decreases-loop-used l =
    length l.chunk - l.used
