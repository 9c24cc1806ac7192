-- `one_round`: `round_done` (proofs/Rounds.antt) joins the reads, the words of `queue_words` and the bytes of
-- `fetch_bytes`. `StraightRound` bounds every index and sum; count is above 0 as RXFLR has the words.
use Rattle.std.proofs.Common.{arith}
use Rattle.transfer_fast_read_async.proofs.Rounds.{round_done}
use Rattle.transfer_fast_read_async.proofs.one_round.Goals as goal

pub returns-clause-bursts : goal.returns-clause-bursts
returns-clause-bursts c = round_done c.requires.0 (omega arith) c.read-room.ensures c.queue_words.ensures
    c.read-filled.ensures c.read-source.ensures c.fetch_bytes.ensures
