-- The machine of `listen`, with a buffer of `length` places: at each point the access
-- that is next, and where it leads. Only contracts of inner functions cite this.
use Rattle.std.specs.Prelude.{ℕ, ◌+◌, Bool, not, ◌&&◌, eqb, ltb, if◌then◌else◌, Option, Some, None}
use Rattle.regs.specs.Program.{PENDING}
use Rattle.regs.specs.Registers.{DATA_CMD, INTR_MASK, RAW_INTR_STAT, RX_TL, CLR_STOP_DET, CLR_GEN_CALL, STATUS, RXFLR, CLR_RESTART_DET}
use Rattle.regs.specs.Fields.{dat, first_data_byte, rd_req, stop_det, gen_call, restart_det, rfne, level}
use Rattle.regs.specs.Steps.{Machine}
use Rattle.regs.specs.declared.answers.Command.TheVariants as C
use Rattle.regs.specs.declared.answers.Refusal.TheVariants as F
use Rattle.regs.specs.declared.answers.Answer.TheVariants.{Heard, Refused}
use Rattle.regs.specs.declared.access.Next.{Next}
use Rattle.regs.specs.declared.access.Next.TheVariants as N
use Rattle.regs.specs.Store.{Store}
use Rattle.slave.specs.I2cSlave.{with_pending}
use Rattle.slave.specs.declared.SlaveState.{SlaveState}
use Rattle.slave_listen.specs.declared.ListenPoint.{ListenPoint}
use Rattle.slave_listen.specs.declared.ListenPoint.TheVariants as L
use Rattle.slave_listen.specs.declared.Listened.{Listened}

abbrev pub next_listen : ListenPoint → Next
next_listen L.RxTl = N.Write RX_TL 0
next_listen (L.RawIntrStat len) = N.Read RAW_INTR_STAT
next_listen (L.Rxflr stat len) = N.Read RXFLR
next_listen (L.Status stat offset) = N.Read STATUS
next_listen (L.DataCmd stat offset) = N.Read DATA_CMD
next_listen (L.Watermark stat len) = N.Write RX_TL 11
next_listen (L.WriteRead len) = N.Read CLR_RESTART_DET
next_listen (L.GeneralCall len) = N.Read CLR_GEN_CALL
next_listen (L.GeneralCallStop len) = N.Read CLR_STOP_DET
next_listen (L.Write len) = N.Read CLR_STOP_DET
next_listen L.Read = N.Read CLR_STOP_DET
next_listen L.ReadRestart = N.Read CLR_RESTART_DET
next_listen L.ReadGeneralCall = N.Read CLR_GEN_CALL
next_listen (L.StuckStop len) = N.Read CLR_STOP_DET
next_listen (L.IntrMask len) = N.Write INTR_MASK 0x1a24
next_listen (L.Mark len) = N.Mark PENDING
next_listen (L.Heard command) = N.Finished (Heard command)
next_listen (L.PartialWrite n) = N.Finished (Refused (F.PartialWrite n))
next_listen (L.PartialGeneralCall n) = N.Finished (Refused (F.PartialGeneralCall n))

-- what a poll comes to once the FIFO is drained
abbrev pub settled : ℕ → ℕ → ℕ → ListenPoint
settled length stat len =
    if eqb length len then (if gen_call stat then L.PartialGeneralCall length else L.PartialWrite length)
    else (if restart_det stat && rd_req stat then L.WriteRead len
    else (if gen_call stat && stop_det stat && ltb 0 len then L.GeneralCall len
    else (if stop_det stat && ltb 0 len then L.Write len
    else (if rd_req stat then L.Read
    else (if stop_det stat then L.StuckStop len
    else L.IntrMask len)))))

abbrev pub listened : ListenPoint → Option ℕ → Store → Listened
listened point p e = record { point = point; pending = p; store = e }

abbrev pub stays : Option ℕ → ListenPoint → Listened
stays p point = listened point p None

-- the drain at an offset: a place, or the end of the buffer
abbrev pub drain_from : ℕ → ℕ → ℕ → ListenPoint
drain_from length stat offset = if ltb offset length then L.Status stat offset else L.Watermark stat offset

abbrev pub after_level : ℕ → ℕ → ℕ → Option ℕ → ℕ → Listened
after_level length stat len None v =
    if ltb 0 (level v) then stays None (drain_from length stat len) else stays None (settled length stat len)
after_level length stat len (Some b) v =
    if ltb len length then listened (drain_from length stat (len + 1)) None (Some (len, b)) else stays None (drain_from length stat len)

abbrev pub after_status : ℕ → ℕ → ℕ → ListenPoint
after_status stat offset v = if rfne v then L.DataCmd stat offset else L.Watermark stat offset

abbrev pub is_next : ℕ → ℕ → Bool
is_next offset v = not (eqb offset 0) && first_data_byte v

abbrev pub after_data : ℕ → ℕ → ℕ → Option ℕ → ℕ → Listened
after_data length stat offset p v =
    if is_next offset v then stays (Some (dat v)) (L.Watermark stat offset)
    else (if ltb offset length then listened (drain_from length stat (offset + 1)) p (Some (offset, dat v))
    else stays p (L.Watermark stat offset))

abbrev pub advance_listen : ℕ → ListenPoint → Option ℕ → ℕ → Listened
advance_listen length L.RxTl p v = stays p (L.RawIntrStat 0)
advance_listen length (L.RawIntrStat len) p v = stays p (L.Rxflr v len)
advance_listen length (L.Rxflr stat len) p v = after_level length stat len p v
advance_listen length (L.Status stat offset) p v = stays p (after_status stat offset v)
advance_listen length (L.DataCmd stat offset) p v = after_data length stat offset p v
advance_listen length (L.Watermark stat len) p v = stays p (settled length stat len)
advance_listen length (L.WriteRead len) p v = stays p (L.Heard (C.WriteRead len))
advance_listen length (L.GeneralCall len) p v = stays p (L.GeneralCallStop len)
advance_listen length (L.GeneralCallStop len) p v = stays p (L.Heard (C.GeneralCall len))
advance_listen length (L.Write len) p v = stays p (L.Heard (C.Write len))
advance_listen length L.Read p v = stays p L.ReadRestart
advance_listen length L.ReadRestart p v = stays p L.ReadGeneralCall
advance_listen length L.ReadGeneralCall p v = stays p (L.Heard C.Read)
advance_listen length (L.StuckStop len) p v = stays p (L.IntrMask len)
advance_listen length (L.IntrMask len) p v = stays p (L.Mark len)
advance_listen length (L.Mark len) p v = stays p (L.RawIntrStat len)
advance_listen length (L.Heard command) p v = stays p (L.Heard command)
advance_listen length (L.PartialWrite n) p v = stays p (L.PartialWrite n)
advance_listen length (L.PartialGeneralCall n) p v = stays p (L.PartialGeneralCall n)

-- the state, the buffer's length and the point
pub record Listener : Type 0 where
  pub state : SlaveState
  pub length : ℕ
  pub point : ListenPoint

abbrev pub listener : SlaveState → ℕ → ListenPoint → Listener
listener me length point = record { state = me; length = length; point = point }

abbrev pub moved : Listener → ℕ → Listened
moved s v = advance_listen s.length s.point s.state.pending_byte v

abbrev pub machine : Machine
machine =
    record {
      S = Listener;
      K = SlaveState;
      next = λ s. next_listen s.point;
      advance = λ s v. listener (with_pending (moved s v).pending s.state) s.length (moved s v).point;
      store = λ s v. (moved s v).store;
      state = λ s. s.state;
    }
