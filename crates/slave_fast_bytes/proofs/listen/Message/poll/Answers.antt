-- `poll`: `poll_made` of proofs/Polling.antt is the run of the machine from the empty FIFO to the next status word, over
-- the six entries put, where `is_straight_poll` holds.
use Rattle.std.proofs.Common.{arith, rules}
use Rattle.regs_runs.proofs.Putting.{first_put, next_put}
use Rattle.slave_fast_bytes.proofs.Polling.{poll_made}
use Rattle.slave_fast_bytes.proofs.listen.Message.poll.Goals as goal

pub returns-then-is_straight_poll-clause-drains : goal.returns-then-is_straight_poll-clause-drains
returns-then-is_straight_poll-clause-drains c =
    let more = c.has.ensures c.if-has.true in
    poll_made
    (next_put (next_put (next_put (next_put (next_put (first_put c.put_read.ensures) c.put_write.ensures)
    c.put_write-then-is_straight_poll.ensures) c.put_mark.ensures) c.put_read-then-is_straight_poll.ensures)
    c.put_read-then-is_straight_poll-2.ensures)
    more.0 more.1 (omega arith) c.if-self.true (search rules)
