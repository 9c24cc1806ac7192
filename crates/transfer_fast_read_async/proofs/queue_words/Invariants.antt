-- `queue_words`: the loop's invariant `Queueing` (proofs/Queueing.antt): n words of the round are queued.
use Rattle.transfer_fast_read_async.proofs.Queueing.{Queueing}
use Rattle.transfer_fast_read_async.proofs.queue_words.Given as goal

abbrev pub invariant-loop-n : goal.invariant-loop-n
invariant-loop-n l = Queueing l.t l.queue l.words l.initial.recording l.n l.recording
