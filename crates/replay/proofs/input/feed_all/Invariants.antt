-- `feed_all`: the loop's invariant is `FedSome` (proofs/Moving.antt), and what is lent stays the same; each call of
-- `feed` leaves less.
use lib.ListN.{length}
use Rattle.replay_state.specs.Inner.Rest.{reader_of, SameReader}
use Rattle.replay.proofs.Moving.{FedSome}
use Rattle.replay.proofs.input.feed_all.Given as goal

abbrev pub invariant-loop-left : goal.invariant-loop-left
invariant-loop-left l =
    FedSome (reader_of l.initial.reader) l.bytes (reader_of l.reader) l.left
    × SameReader l.initial.reader l.reader

abbrev pub decreases-loop-left : goal.decreases-loop-left
decreases-loop-left l = length l.left
