-- `respond_from`: `idle_ahead` and `respond_ahead` of proofs/Coming.antt make the polls that found nothing, or the chunks
-- that were sent, a run of the slave.
use Rattle.slave_fast.proofs.Coming.{idle_ahead, respond_ahead, sends_all}
use Rattle.slave_fast.proofs.respond_from.Goals as goal

pub returns-then-at-count : goal.returns-then-at-count
returns-then-at-count c = idle_ahead c.requires.at (rw c.count.ensures at c.if-at-count.true) c.respond.ensures c.args.bytes.now

pub returns-then-sends_bytes : goal.returns-then-sends_bytes
returns-then-sends_bytes c = respond_ahead c.requires.at (sends_all c.args.job (rw c.sends_bytes.ensures at c.if-sends_bytes.true)) c.burst.ensures
