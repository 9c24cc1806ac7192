-- `queue_words`: `one_queued` (proofs/Queueing.antt) adds a word to those queued, and `all_queued` ends it.
use Rattle.std.proofs.Common.{arith}
use Rattle.transfer_fast_read_async.proofs.Queueing.{one_queued, all_queued}
use Rattle.transfer_fast_read_async.proofs.queue_words.Goals as goal

pub loop-n-preserved : goal.loop-n-preserved
loop-n-preserved c = one_queued c.loop-n.invariant c.loop-n-test.true c.requires.1 c.requires.2 (omega arith)
    c.word_of_queue-w.ensures c.put_write.ensures

pub returns : goal.returns
returns c = all_queued c.loop-n.invariant (omega (arith, c.loop-n-test.false, c.loop-n.auto.n-end))
