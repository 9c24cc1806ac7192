-- The slave as a machine of one access a step: the points of `reset`, those of the two machines below, and the
-- start of each call. Only contracts of inner functions cite this.
use Rattle.std.specs.Prelude.{ℕ, List, Bool, eqb, ltb, if◌then◌else◌, Option, Some, None}
use Rattle.regs.specs.Program.{BLOCK_RESET}
use Rattle.regs.specs.Registers.{CON, SAR, INTR_MASK, RX_TL, TX_TL, CLR_INTR, ENABLE, ACK_GENERAL_CALL}
use Rattle.regs.specs.Fields.{b2n, address_field, con_slave}
use Rattle.regs.specs.Steps.{Machine}
use Rattle.regs.specs.declared.answers.Refusal.TheVariants as F
use Rattle.regs.specs.declared.answers.Answer.TheVariants.{Accepted, Refused}
use Rattle.regs.specs.declared.access.Next.{Next}
use Rattle.regs.specs.declared.access.Next.TheVariants as N
use Rattle.regs.specs.Store.{Store}
use Rattle.slave.specs.I2cSlave.{with_pending, with_config}
use Rattle.slave.specs.declared.SlaveState.{SlaveState}
use Rattle.slave_listen.specs.Inner.Machine.{next_listen, advance_listen}
use Rattle.slave_listen.specs.declared.ListenPoint.TheVariants as L
use Rattle.slave_listen.specs.declared.Listened.{Listened}
use Rattle.slave_respond.specs.Inner.Machine.{response, next_respond, advance_respond}
use Rattle.slave_respond.specs.declared.Job.{Job}
use Rattle.slave_respond.specs.declared.Job.TheVariants.{Fill}
use Rattle.slave_respond.specs.declared.RespondPoint.TheVariants as P
use Rattle.slave_steps.specs.declared.reset.ResetPoint.{ResetPoint}
use Rattle.slave_steps.specs.declared.reset.ResetPoint.TheVariants as R
use Rattle.slave_steps.specs.declared.Slave.{Slave}
use Rattle.slave_steps.specs.declared.Moved.{Moved}
use Rattle.slave_steps.specs.declared.Point.{Point}
use Rattle.slave_steps.specs.declared.Point.TheVariants as Q

-- ---- the points of `reset`

abbrev pub next_reset : ℕ → Bool → ResetPoint → Next
next_reset address g R.Disable = N.Write ENABLE 0
next_reset address g R.Sar = N.Write SAR (address_field address)
next_reset address g R.Con = N.Read CON
next_reset address g (R.ConBack w) = N.Write CON (con_slave g w)
next_reset address g R.AckGeneralCall = N.Write ACK_GENERAL_CALL (b2n g)
next_reset address g R.TxTl = N.Write TX_TL 0
next_reset address g R.RxTl = N.Write RX_TL 0
next_reset address g R.ClrIntr = N.Read CLR_INTR
next_reset address g R.Enable = N.Write ENABLE 1
next_reset address g R.IntrMask = N.Write INTR_MASK 0
next_reset address g R.Done = N.Finished Accepted

abbrev pub advance_reset : ResetPoint → ℕ → ResetPoint
advance_reset R.Disable v = R.Sar
advance_reset R.Sar v = R.Con
advance_reset R.Con v = R.ConBack v
advance_reset (R.ConBack w) v = R.AckGeneralCall
advance_reset R.AckGeneralCall v = R.TxTl
advance_reset R.TxTl v = R.RxTl
advance_reset R.RxTl v = R.ClrIntr
advance_reset R.ClrIntr v = R.Enable
advance_reset R.Enable v = R.IntrMask
advance_reset R.IntrMask v = R.Done
advance_reset R.Done v = R.Done

-- ---- the whole

abbrev pub slave : SlaveState → ℕ → Point → Slave
slave me length point = record { state = me; length = length; point = point }

abbrev pub start_reset : SlaveState → ℕ → Bool → Slave
start_reset me address g = slave me 0 (if eqb address 0 then Q.Refused F.SlaveAddressZero else Q.BlockReset address g)

-- a length that is kept: beyond the limits nothing is done with it
abbrev pub held : ℕ → ℕ
held length = if ltb 4096 length then 0 else length

abbrev pub within_limits : ℕ → Point → Point
within_limits length point = if ltb 4096 length then Q.Refused F.OverLimits else point

abbrev pub listen_point : Option ℕ → ℕ → Point
listen_point None length = Q.Listening L.RxTl
listen_point (Some b) length = if eqb length 0 then Q.Refused F.NoPlaceForPending else Q.Listening L.RxTl

abbrev pub start_listen : SlaveState → ℕ → Slave
start_listen me length = slave me (held length) (within_limits length (listen_point me.pending_byte length))

abbrev pub start_respond : SlaveState → Job → ℕ → Slave
start_respond me job length =
    slave me (held length) (within_limits length
    (if eqb length 0 then Q.Refused F.InvalidResponseBufferLength else Q.Responding
    (response job (P.RawIntrStat 0))))

abbrev pub start_fill : SlaveState → ℕ → Slave
start_fill me fill = slave me 0 (Q.Responding (response (Fill fill) (P.RawIntrStat 0)))

abbrev pub next_at : List ℕ → SlaveState → Point → Next
next_at bytes me (Q.Refused why) = N.Finished (Refused why)
next_at bytes me (Q.BlockReset a g) = N.Mark BLOCK_RESET
next_at bytes me (Q.Resetting p) = next_reset me.address me.general_call p
next_at bytes me (Q.Listening p) = next_listen p
next_at bytes me (Q.Responding r) = next_respond bytes r.job r.point

abbrev pub moved : SlaveState → ℕ → Point → Store → Moved
moved me length point e = record { slave = slave me length point; store = e }

abbrev pub listen_moved : SlaveState → ℕ → Listened → Moved
listen_moved me length l = moved (with_pending l.pending me) length (Q.Listening l.point) l.store

abbrev pub advance_at : Point → SlaveState → ℕ → ℕ → Moved
advance_at (Q.Refused why) me length v = moved me length (Q.Refused why) None
advance_at (Q.BlockReset a g) me length v = moved (with_config a g me) length (Q.Resetting R.Disable) None
advance_at (Q.Resetting p) me length v = moved me length (Q.Resetting (advance_reset p v)) None
advance_at (Q.Listening p) me length v = listen_moved me length (advance_listen length p me.pending_byte v)
advance_at (Q.Responding r) me length v = moved me length (Q.Responding (advance_respond length r.job r.point v)) None

-- with the bytes that a response sends
abbrev pub machine : List ℕ → Machine
machine bytes =
    record {
      S = Slave;
      K = SlaveState;
      next = λ s. next_at bytes s.state s.point;
      advance = λ s v. (advance_at s.point s.state s.length v).slave;
      store = λ s v. (advance_at s.point s.state s.length v).store;
      state = λ s. s.state;
    }
