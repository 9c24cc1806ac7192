-- Every public call of the three drivers that is lent readings and a log, as one type: a clock setting, one of the master's
-- eight, plain or with a packet error code, one of the slave's five.
use Rattle.std.specs.Prelude.{ℕ, List, []}
use Rattle.regs.specs.Program.{Outcome}
use Rattle.regs.specs.Log.{expected}
use Rattle.regs.specs.declared.answers.Reply.{Reply}
use Rattle.clock_setting.specs.SetConfig.{set_config}
use Rattle.master.specs.Calls as Master
use Rattle.slave.specs.Calls as Slave
use Rattle.slave.specs.Counts as Counts
use Rattle.slave.specs.declared.SlaveState.{SlaveState}

pub data Call : Type 0 where
  clock : (frequency clk : ℕ) → Call
  master : Master.Call → Call
  slave : Slave.Call → Call

-- only the slave has a state
abbrev pub State : Call → Type 0
State (clock frequency clk) = Unit {0}
State (master c) = Unit {0}
State (slave c) = SlaveState

-- the lent buffer; a call without one has none of its bytes
abbrev pub buffer_in : Call → List ℕ
buffer_in (clock frequency clk) = []
buffer_in (master c) = Master.buffer_in c.lent
buffer_in (slave c) = Slave.buffer_in c

-- the bytes that the driver keeps from call to call
abbrev pub kept_in : (c : Call) → State c → List ℕ
kept_in (clock frequency clk) me = []
kept_in (master c) me = []
kept_in (slave c) me = Counts.kept me

-- what a call leaves, on a lent log, a list of readings and the state before it
abbrev pub left_by : (c : Call) → List ℕ → List ℕ → State c → Outcome (State c) Reply
left_by (clock frequency clk) log readings me = expected (set_config frequency clk) log readings [] me
left_by (master c) log readings me = Master.left_by_call c log readings
left_by (slave c) log readings me = Slave.left_by_call c log readings me
