-- `fetch_bytes`: the loop's invariant `Fetching` (proofs/Fetching.antt): n bytes of the round are fetched.
use Rattle.transfer_fast_read_async.proofs.Fetching.{Fetching}
use Rattle.transfer_fast_read_async.proofs.fetch_bytes.Given as goal

abbrev pub invariant-loop-n : goal.invariant-loop-n
invariant-loop-n l = Fetching l.fn.t l.remaining l.count l.initial.recording l.initial.buffer l.n l.recording l.buffer
