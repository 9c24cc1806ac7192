-- The five calls as they are made: what is given to each, and the program that it runs.
use Rattle.std.specs.Prelude.{ℕ, Bool, List, [], length}
use Rattle.regs.specs.Program.{Outcome}
use Rattle.regs.specs.Log.{expected}
use Rattle.regs.specs.declared.answers.Answer.{Answer}
use Rattle.regs.specs.declared.answers.Reply.{Reply}
use Rattle.slave.specs.I2cSlave.{Driver, reset_call, listen_call, respond_to_read_call, respond_till_stop_call}
use Rattle.slave.specs.I2cSlave.{respond_and_fill_call}
use Rattle.slave.specs.declared.SlaveState.{SlaveState}

-- the address and whether general calls are heard, the buffer to listen into, the bytes to respond with, the fill byte
pub data Call : Type 0 where
  resets : (address : ℕ) (general_call : Bool) → Call
  listens : (buffer : List ℕ) → Call
  responds : (bytes : List ℕ) → Call
  fills : (fill : ℕ) → Call
  responds_and_fills : (bytes : List ℕ) (fill : ℕ) → Call

abbrev pub program : Call → Driver Answer
program (resets address general_call) = reset_call address general_call
program (listens buffer) = listen_call (length buffer)
program (responds bytes) = respond_to_read_call bytes
program (fills fill) = respond_till_stop_call fill
program (responds_and_fills bytes fill) = respond_and_fill_call bytes fill

-- the buffer to listen into; the other calls have none
abbrev pub buffer_in : Call → List ℕ
buffer_in (resets address general_call) = []
buffer_in (listens buffer) = buffer
buffer_in (responds bytes) = []
buffer_in (fills fill) = []
buffer_in (responds_and_fills bytes fill) = []

-- what a call leaves, on a lent log, a list of readings and the state before it
abbrev pub left_by_call : Call → List ℕ → List ℕ → SlaveState → Outcome SlaveState Reply
left_by_call c log readings me = expected (program c) log readings (buffer_in c) me
