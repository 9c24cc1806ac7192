-- Polls that find nothing to do: the slave's run comes from a poll to a later one at the same point.
use Rattle.std.specs.Prelude.{ℕ, ◌<◌, ◌≤◌, Bool, not, ◌&&◌, List, ◌≡◌, eqb, None}
use Rattle.regs.specs.Inner.Recording.{Keeps, room_of}
use Rattle.regs.specs.declared.access.Recording.{Recording}
use Rattle.regs.specs.Fields.{rd_req, stop_det, tx_abrt, tx_empty, rx_done, level}
use Rattle.slave.specs.declared.SlaveState.{SlaveState}
use Rattle.slave_listen.specs.declared.ListenPoint.TheVariants as Listen
use Rattle.slave_respond.specs.Inner.Machine.{response, count_of}
use Rattle.slave_respond.specs.declared.Job.{Job}
use Rattle.slave_respond.specs.declared.RespondPoint.TheVariants as Respond
use Rattle.slave_steps.specs.Inner.Machine.{machine, slave}
use Rattle.slave_steps.specs.declared.Point.TheVariants.{Listening, Responding}
use Rattle.regs_runs.specs.Inner.Reaches.{Reaches}

-- a response whose bytes are all sent: nothing was aborted, and neither the end nor more bytes are told
abbrev pub idle_poll : ℕ → Bool
idle_poll stat = not (tx_abrt stat) && (not (rx_done stat) && not (rd_req stat && tx_empty stat))

pub record Idles (before after : Recording) : Type 0 where
  pub keeps : Keeps before after
  pub room : before.entries ≤ room_of before → after.entries ≤ room_of after
  pub reaches : (bytes : List ℕ) (me : SlaveState) (job : Job) (count i : ℕ) (b : List ℕ) → count_of job count ≤ i
      → Reaches (machine bytes) before.readings.now (slave me count (Responding (response job (Respond.RawIntrStat i))))
      before.entries before.used before.log.now b
      (slave me count (Responding (response job (Respond.RawIntrStat i)))) after.entries after.used after.log.now b

-- `listen`: the FIFO is empty, and neither a read nor a STOP is told
abbrev pub idle_listen : ℕ → ℕ → Bool
idle_listen stat filled = not (rd_req stat) && (not (stop_det stat) && eqb (level filled) 0)

pub record Awaits (before after : Recording) : Type 0 where
  pub keeps : Keeps before after
  pub room : before.entries ≤ room_of before → after.entries ≤ room_of after
  pub reaches : (bytes : List ℕ) (me : SlaveState) (places i : ℕ) (b : List ℕ) → me.pending_byte ≡ None → i < places
      → Reaches (machine bytes) before.readings.now (slave me places (Listening (Listen.RawIntrStat i)))
      before.entries before.used before.log.now b
      (slave me places (Listening (Listen.RawIntrStat i))) after.entries after.used after.log.now b
