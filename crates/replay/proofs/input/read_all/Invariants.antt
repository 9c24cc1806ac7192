-- `read_all`: the loop's invariant is `Moving` (proofs/Moving.antt), and what is lent stays the same.
use Rattle.replay_state.specs.Inner.Rest.{reader_of, SameReader}
use Rattle.replay.proofs.Moving.{Moving}
use Rattle.replay.proofs.input.read_all.Given as goal

abbrev pub invariant-loop-turn : goal.invariant-loop-turn
invariant-loop-turn l =
    Moving (reader_of l.reader) l.reader.work.text l.turn
    × SameReader l.initial.reader l.reader
