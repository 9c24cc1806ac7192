-- `digits_ahead`: the invariant is the contract's `DigitsAhead` for the k bytes passed so far.
use Rattle.replay_scan.specs.Inner.Bytes.{DigitsAhead}
use Rattle.replay_scan.proofs.bytes.digits_ahead.Given as goal

abbrev pub invariant-loop-k : goal.invariant-loop-k
invariant-loop-k l = DigitsAhead l.chunk l.k
