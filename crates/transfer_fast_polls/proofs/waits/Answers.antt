-- `waits`: `poll_after` of proofs/Still.antt adds a poll to those before it.
use Rattle.transfer_fast_polls.proofs.Still.{poll_after}
use Rattle.transfer_fast_polls.proofs.waits.Goals as goal

pub loop-p-preserved : goal.loop-p-preserved
loop-p-preserved c = poll_after c.loop-p.invariant c.poll.ensures.stays

pub returns : goal.returns
returns c = poll_after c.loop-p.invariant c.poll.ensures.stays
