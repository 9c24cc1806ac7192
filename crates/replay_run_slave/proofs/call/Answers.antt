-- `call`: `clear` makes zeros of the places, as the definitions start. `room` is what `push_outcome` needs, `prints` turns
-- what the call leaves into the printed text, and `state_left` gives the slave's state, both by `every_access_legal`.
use native.Mathlib.Omega.{arith}
use Rattle.slave.specs.Calls.{program}
use Rattle.slave.proofs.Accesses.{every_access_legal}
use Rattle.slave_run.specs.Requests.{call_of}
use Rattle.replay_calls.proofs.Cleared.{zeros, few_zeros}
use Rattle.replay_calls.proofs.Prints.{room, prints, state_left, size_then}
use Rattle.replay_run_slave.proofs.call.Goals as goal

pub push_outcome-requires : goal.push_outcome-requires
push_outcome-requires c = let l = c.call-ran in
    let few = few_zeros c.args.places c.args.work.now.buffer.now _ c.requires.fits c.clear.ensures c.requires.few in
    room l.ensures.ran c.requires.log l.auto.log c.then_some.result c.args.work.now.text
    (omega (arith, size_then _ _ c.then_some.ensures, l.auto.buffer, few)) c.requires.text

pub returns-clause-ran : goal.returns-clause-ran
returns-clause-ran c = let a = c.args in
    let l = c.call-ran in
    let b = c.clear.new.buffer in
    let few = few_zeros a.places a.work.now.buffer.now b c.requires.fits c.clear.ensures c.requires.few in
    let legal = every_access_legal (call_of a.request a.bytes.now b) in
    rw (← c.is_listen.ensures, ← zeros a.places a.work.now.buffer.now b c.requires.fits c.clear.ensures)
    (record {
      text = prints (program (call_of a.request a.bytes.now b)) legal a.work.now.log.now a.readings.now b a.s
          c.requires.log l.ensures.ran l.auto.log _ _ c.then_some.ensures l.ensures.buffer
          (omega (arith, l.auto.buffer, few)) c.push_outcome.ensures;
      slave = state_left (program (call_of a.request a.bytes.now b)) legal a.work.now.log.now a.readings.now b a.s
          c.requires.log l.ensures.ran l.auto.log l.ensures.state;
    })
