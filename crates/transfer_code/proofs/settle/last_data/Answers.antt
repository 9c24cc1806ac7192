-- `last_data`: the access that is looked for is among the first k entries (proofs/LastAt.antt).
use Rattle.transfer_code.proofs.LastAt.{got, put, back, nowhere}
use Rattle.transfer_code.proofs.settle.last_data.Goals as goal

pub returns-then-head-eq-GOT-clause-last : goal.returns-then-head-eq-GOT-clause-last
returns-then-head-eq-GOT-clause-last c = got _ _ _ c.loop-k.invariant c.loop-k-test.true c.if-head-eq-GOT.true

pub returns-then-head-eq-PUT-clause-last : goal.returns-then-head-eq-PUT-clause-last
returns-then-head-eq-PUT-clause-last c = put _ _ _ c.loop-k.invariant c.loop-k-test.true c.if-head-eq-GOT.false c.if-head-eq-PUT.true

pub loop-k-preserved : goal.loop-k-preserved
loop-k-preserved c = back _ _ _ c.loop-k.invariant c.loop-k-test.true c.if-head-eq-GOT.false c.if-head-eq-PUT.false

pub returns-clause-last : goal.returns-clause-last
returns-clause-last c = nowhere _ _ _ c.loop-k.invariant c.loop-k-test.false
