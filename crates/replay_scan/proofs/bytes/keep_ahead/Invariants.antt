-- `keep_ahead`: the invariant is the contract's `KeptAhead` for the k bytes kept so far.
use Rattle.replay_scan.specs.Inner.Bytes.{KeptAhead}
use Rattle.replay_scan.proofs.bytes.keep_ahead.Given as goal

abbrev pub invariant-loop-k : goal.invariant-loop-k
invariant-loop-k l = KeptAhead l.chunk l.initial.room l.room l.k
