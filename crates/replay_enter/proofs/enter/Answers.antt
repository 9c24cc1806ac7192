-- `enter`: the match on the frame decides; `enters_call`, `enters_read` and `enters_reading`
-- say what the result of the function called does to the session, and the contract of `enter_run` says it
-- itself.
use Rattle.replay_session.proofs.Enters.{enters_call, enters_read, enters_reading}
use Rattle.replay_enter.proofs.enter.Goals as goal

pub returns-in-Opens-clause-entered : goal.returns-in-Opens-clause-entered
returns-in-Opens-clause-entered c = rw (c.in-Opens.is, c.enter_call.ensures)
    (enters_call _ _ _ _ c.requires.small c.requires.lent _)

pub returns-in-Read-clause-entered : goal.returns-in-Read-clause-entered
returns-in-Read-clause-entered c = rw (c.in-Read.is, c.enter_read.ensures.entered, c.enter_read.ensures.put)
    (enters_read _ _ _ _ c.requires.small c.requires.lent _)

pub returns-in-Reading-clause-entered : goal.returns-in-Reading-clause-entered
returns-in-Reading-clause-entered c = rw (c.in-Reading.is, c.enter_reading.ensures.entered, c.enter_reading.ensures.put)
    (enters_reading _ _ _ _ c.requires.small c.requires.lent _)
