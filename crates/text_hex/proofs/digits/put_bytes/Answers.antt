-- `put_bytes`: the test for room decides: without it nothing is stored (`not_put`). Else the loop's invariant
-- `Putting` (proofs/Pairs.antt) holds after i pairs, `one_put` adds the byte of `pair`, `all_put` closes it.
use Rattle.text_hex.proofs.Pairs.{one_put, all_put}
use Rattle.text_hex.proofs.digits.put_bytes.Goals as goal

pub loop-i-preserved : goal.loop-i-preserved
loop-i-preserved c = one_put c.loop-i.invariant _ c.loop-i-test.true c.pair.ensures

pub returns : goal.returns
returns c = all_put c.loop-i.invariant c.loop-i-test.false
