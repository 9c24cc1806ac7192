-- `burst_from`: in `listen` the contract of `listen_from` holds for any bytes, so also for those lent here.
use Rattle.slave_fast.proofs.burst_from.Goals as goal

pub returns-in-Listening : goal.returns-in-Listening
returns-in-Listening c = c.listen_from.ensures c.args.bytes.now
