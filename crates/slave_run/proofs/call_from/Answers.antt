-- `call_from`: `request_leaves` (proofs/Agree.antt) at the run from where `start` starts the machine.
use Rattle.slave_run.proofs.Agree.{request_leaves}
use Rattle.slave_run.proofs.call_from.Goals as goal

pub returns : goal.returns
returns c = let a = c.args in
    request_leaves a.bytes.now a.buffer.now a.readings.now a.log.now a.state
    c.run.result.ran a.request (rw c.start-s.ensures at c.run.ensures)
