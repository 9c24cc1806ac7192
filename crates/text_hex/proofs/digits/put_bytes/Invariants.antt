-- `put_bytes`: the test for room decides: without it nothing is stored (`not_put`). Else the loop's invariant
-- `Putting` (proofs/Pairs.antt) holds after i pairs, `one_put` adds the byte of `pair`, `all_put` closes it.
use Rattle.text_hex.proofs.Pairs.{Putting}
use Rattle.text_hex.proofs.digits.put_bytes.Given as goal

abbrev pub invariant-loop-i : goal.invariant-loop-i
invariant-loop-i l = Putting l.ds l.at l.initial.bytes l.bytes l.i
