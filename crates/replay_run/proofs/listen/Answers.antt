-- `listen`: above the limit `listen_over` says that refusal 20 is the whole outcome.
use Rattle.replay_calls.proofs.Finds.{listen_over}
use Rattle.replay_run.proofs.listen.Goals as goal

pub returns-then-places-gt4096-clause-ran : goal.returns-then-places-gt4096-clause-ran
returns-then-places-gt4096-clause-ran c = let a = c.args in
    listen_over a.n a.readings.now a.s c.if-places-gt4096.true _ _ c.push_reply.ensures
