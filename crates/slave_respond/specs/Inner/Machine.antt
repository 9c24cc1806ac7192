-- The machine of a response: at each point the access that is next, and where it leads. Only contracts of inner functions cite this.
use Rattle.std.specs.Prelude.{ℕ, ◌+◌, ◌-◌, List, Bool, true, false, ◌&&◌, eqb, ltb, get_or, if◌then◌else◌, None}
use Rattle.regs.specs.Program.{PENDING}
use Rattle.regs.specs.Registers.{DATA_CMD, INTR_MASK, RAW_INTR_STAT, CLR_INTR, CLR_RD_REQ, CLR_TX_ABRT, CLR_RX_DONE, TX_ABRT_SOURCE}
use Rattle.regs.specs.Fields.{tx_empty, rd_req, tx_abrt, rx_done}
use Rattle.regs.specs.Steps.{Machine}
use Rattle.regs.specs.declared.answers.AbortReason.{AbortReason}
use Rattle.regs.specs.declared.answers.AbortReason.TheVariants as A
use Rattle.regs.specs.declared.answers.ReadStatus.{ReadStatus}
use Rattle.regs.specs.declared.answers.ReadStatus.TheVariants.{Done, NeedMoreBytes, LeftoverBytes}
use Rattle.regs.specs.declared.answers.Refusal.TheVariants as F
use Rattle.regs.specs.declared.answers.Answer.{Answer}
use Rattle.regs.specs.declared.answers.Answer.TheVariants.{Accepted, Responded, Refused}
use Rattle.regs.specs.declared.access.Next.{Next}
use Rattle.regs.specs.declared.access.Next.TheVariants as N
use Rattle.slave.specs.I2cSlave.{abort_reason}
use Rattle.slave.specs.declared.SlaveState.{SlaveState}
use Rattle.slave_respond.specs.declared.Job.{Job}
use Rattle.slave_respond.specs.declared.Job.TheVariants.{Respond, RespondThenFill, Fill, FillAfter}
use Rattle.slave_respond.specs.declared.RespondPoint.{RespondPoint}
use Rattle.slave_respond.specs.declared.RespondPoint.TheVariants as P
use Rattle.slave_respond.specs.declared.Response.{Response}

-- whether the lent bytes are sent, and not fill bytes
abbrev pub sends_bytes : Job → Bool
sends_bytes Respond = true
sends_bytes (RespondThenFill f) = true
sends_bytes (Fill f) = false
sends_bytes (FillAfter f) = false

abbrev pub count_of : Job → ℕ → ℕ
count_of Respond length = length
count_of (RespondThenFill f) length = length
count_of (Fill f) length = 16
count_of (FillAfter f) length = 16

abbrev pub byte_at : Job → List ℕ → ℕ → ℕ
byte_at Respond bytes i = get_or bytes i 0
byte_at (RespondThenFill f) bytes i = get_or bytes i 0
byte_at (Fill f) bytes i = f
byte_at (FillAfter f) bytes i = f

abbrev pub answer_of : Job → ReadStatus → Answer
answer_of Respond s = Responded s
answer_of (RespondThenFill f) s = Responded s
answer_of (Fill f) s = Accepted
answer_of (FillAfter f) s = Responded Done

abbrev pub next_respond : List ℕ → Job → RespondPoint → Next
next_respond bytes job (P.RawIntrStat at) = N.Read RAW_INTR_STAT
next_respond bytes job (P.TxAbrtSource stat at) = N.Read TX_ABRT_SOURCE
next_respond bytes job (P.ClrTxAbrt w) = N.Read CLR_TX_ABRT
next_respond bytes job (P.ClrIntr n) = N.Read CLR_INTR
next_respond bytes job (P.ClrRdReq i e) = N.Read CLR_RD_REQ
next_respond bytes job (P.DataCmd i e) = N.Write DATA_CMD (byte_at job bytes i)
next_respond bytes job P.ClrRxDone = N.Read CLR_RX_DONE
next_respond bytes job (P.IntrMask at) = N.Write INTR_MASK 0xd0
next_respond bytes job (P.Mark at) = N.Mark PENDING
next_respond bytes job (P.Ended s) = N.Finished (answer_of job s)
next_respond bytes job (P.Aborted a) = N.Finished (Refused (F.Abort a))

abbrev pub response : Job → RespondPoint → Response
response job point = record { job = job; point = point }

-- a chunk's length
abbrev pub CHUNK : ℕ
CHUNK = 16

abbrev pub chunk_end : ℕ → ℕ → ℕ
chunk_end at count = if ltb at count then (if ltb (count - at) CHUNK then count else at + CHUNK) else count

-- what a response that needs more bytes leads to
abbrev pub more_bytes : Job → Response
more_bytes Respond = response Respond (P.Ended NeedMoreBytes)
more_bytes (RespondThenFill f) = response (FillAfter f) (P.RawIntrStat 0)
more_bytes (Fill f) = response (Fill f) (P.RawIntrStat 0)
more_bytes (FillAfter f) = response (FillAfter f) (P.RawIntrStat 0)

abbrev pub fed : Job → ℕ → ℕ → ℕ → Response
fed job stat at count =
    if ltb at count then response job (P.ClrRdReq at (chunk_end at count))
    else (if rx_done stat then response job P.ClrRxDone
    else (if rd_req stat && tx_empty stat then more_bytes job
    else response job (P.IntrMask at)))

abbrev pub after_reason : AbortReason → RespondPoint
after_reason A.NoAcknowledge = P.Aborted A.NoAcknowledge
after_reason A.ArbitrationLoss = P.Aborted A.ArbitrationLoss
after_reason (A.TxNotEmpty n) = P.ClrIntr n
after_reason (A.Other w) = P.Aborted (A.Other w)
after_reason (A.DataNotAcknowledged w) = P.Aborted (A.DataNotAcknowledged w)

abbrev pub after_byte : ℕ → ℕ → RespondPoint
after_byte i e = if ltb i e then (if ltb (i + 1) e then P.ClrRdReq (i + 1) e else P.IntrMask e) else P.IntrMask e

abbrev pub advance_respond : ℕ → Job → RespondPoint → ℕ → Response
advance_respond length job (P.RawIntrStat at) v =
    if tx_abrt v then response job (P.TxAbrtSource v at) else fed job v at (count_of job length)
advance_respond length job (P.TxAbrtSource stat at) v =
    if eqb v 0 then fed job stat at (count_of job length) else response job (P.ClrTxAbrt v)
advance_respond length job (P.ClrTxAbrt w) v = response job (after_reason (abort_reason w))
advance_respond length job (P.ClrIntr n) v = response job (P.Ended (LeftoverBytes n))
advance_respond length job (P.ClrRdReq i e) v = response job (P.DataCmd i e)
advance_respond length job (P.DataCmd i e) v = response job (after_byte i e)
advance_respond length job P.ClrRxDone v = response job (P.Ended Done)
advance_respond length job (P.IntrMask at) v = response job (P.Mark at)
advance_respond length job (P.Mark at) v = response job (P.RawIntrStat at)
advance_respond length job (P.Ended s) v = response job (P.Ended s)
advance_respond length job (P.Aborted a) v = response job (P.Aborted a)

-- the state, which stays as it is, the length of the bytes that are sent, and the response
pub record Responder : Type 0 where
  pub state : SlaveState
  pub length : ℕ
  pub response : Response

abbrev pub responder : SlaveState → ℕ → Response → Responder
responder me length r = record { state = me; length = length; response = r }

-- with the bytes that are sent
abbrev pub machine : List ℕ → Machine
machine bytes =
    record {
      S = Responder;
      K = SlaveState;
      next = λ s. next_respond bytes s.response.job s.response.point;
      advance = λ s v. responder s.state s.length (advance_respond s.length s.response.job s.response.point v);
      store = λ s v. None;
      state = λ s. s.state;
    }
