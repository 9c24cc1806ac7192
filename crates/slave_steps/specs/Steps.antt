-- Stepping the slave's calls by hand (`slave_steps`) leaves what the calls are to leave.
use Rattle.std.specs.Prelude.{ℕ, List, length}
use Rattle.regs.specs.Steps.{Machine, SteppedAs}
use Rattle.slave.specs.Calls.{Call, resets, listens, responds, fills, responds_and_fills, program}
use Rattle.slave.specs.declared.SlaveState.{SlaveState}
use Rattle.slave_respond.specs.declared.Job.TheVariants.{Respond, RespondThenFill}
use Rattle.slave_steps.specs.Inner.Machine.{start_reset, start_listen, start_respond, start_fill, next_at, advance_at}
use Rattle.slave_steps.specs.declared.Slave.{Slave}

-- `start_reset`, `start_listen`, `start_respond_to_read`, `start_respond_till_stop`, `start_respond_and_fill`
abbrev pub start : Call → SlaveState → Slave
start (resets address general_call) me = start_reset me address general_call
start (listens buffer) me = start_listen me (length buffer)
start (responds bytes) me = start_respond me Respond (length bytes)
start (fills fill) me = start_fill me fill
start (responds_and_fills bytes fill) me = start_respond me (RespondThenFill fill) (length bytes)

-- what `next_access` is lent: the bytes to respond with; any bytes where a call sends none
abbrev pub lent : Call → List ℕ → List ℕ
lent (resets address general_call) any = any
lent (listens buffer) any = any
lent (responds bytes) any = bytes
lent (fills fill) any = any
lent (responds_and_fills bytes fill) any = bytes

-- the functions of the contracts of `next_access` and `advance`, which also says what is stored
abbrev pub steps_of : List ℕ → Machine
steps_of bytes = record {
  S = Slave;
  K = SlaveState;
  next = λ s. next_at bytes s.state s.point;
  advance = λ s v. (advance_at s.point s.state s.length v).slave;
  store = λ s v. (advance_at s.point s.state s.length v).store;
  state = λ s. s.state;
}

abbrev pub SteppedCalls : Type 0
SteppedCalls = (c : Call) (any : List ℕ) → SteppedAs (steps_of (lent c any)) (start c) (program c)
