-- src/i2c_slave.rs, function by function, and the calls with the refusals that are added (docs/MANUAL.md, "The numbers").
use Rattle.std.specs.Prelude.{ℕ, zero, suc, ◌+◌, ◌-◌, List, [], ◌∷◌, Bool, true, false, not, ◌&&◌, ◌||◌, eqb, ltb, length, take, drop, replicate, if◌then◌else◌, Option, Some, None, is_some}
use Rattle.regs.specs.Registers.{CON, SAR, DATA_CMD, INTR_MASK, RAW_INTR_STAT, RX_TL, TX_TL, CLR_INTR, CLR_RD_REQ}
use Rattle.regs.specs.Registers.{CLR_TX_ABRT, CLR_RX_DONE, CLR_STOP_DET, CLR_GEN_CALL, ENABLE, STATUS, RXFLR}
use Rattle.regs.specs.Registers.{TX_ABRT_SOURCE, ACK_GENERAL_CALL, CLR_RESTART_DET}
use Rattle.regs.specs.Fields.{b2n, dat, first_data_byte, tx_empty, rd_req, tx_abrt, rx_done, stop_det, gen_call}
use Rattle.regs.specs.Fields.{restart_det, set_m_rx_full, set_m_tx_empty, set_m_rd_req, set_m_tx_abrt}
use Rattle.regs.specs.Fields.{set_m_rx_done, set_m_stop_det, set_m_gen_call, set_m_restart_det, rfne, level}
use Rattle.regs.specs.Fields.{no_acknowledge, arb_lost, tx_flush_cnt, address_field, con_slave}
use Rattle.regs.specs.Program.{Program, ◌>>=◌, ◌>>◌, return, exit, get, put, modify, mark}
use Rattle.regs.specs.Program.{BLOCK_RESET, store, ask, keep, skip, when, Result, ok, err, Poll, pending, ready}
use Rattle.regs.specs.Program.{wait_on, Turn, again, done, loop}
use Rattle.regs.specs.declared.answers.AbortReason.{AbortReason}
use Rattle.regs.specs.declared.answers.AbortReason.TheVariants.{NoAcknowledge, ArbitrationLoss, TxNotEmpty, Other, DataNotAcknowledged}
use Rattle.regs.specs.declared.answers.Command.{Command}
use Rattle.regs.specs.declared.answers.Command.TheVariants.{GeneralCall, Read, WriteRead, Write}
use Rattle.regs.specs.declared.answers.ReadStatus.{ReadStatus}
use Rattle.regs.specs.declared.answers.ReadStatus.TheVariants.{Done, NeedMoreBytes, LeftoverBytes}
use Rattle.regs.specs.declared.answers.Refusal.{Refusal}
use Rattle.regs.specs.declared.answers.Refusal.TheVariants.{Abort, InvalidResponseBufferLength, PartialWrite}
use Rattle.regs.specs.declared.answers.Refusal.TheVariants.{PartialGeneralCall, SlaveAddressZero}
use Rattle.regs.specs.declared.answers.Refusal.TheVariants.{NoPlaceForPending, OverLimits}
use Rattle.regs.specs.declared.answers.Answer.{Answer}
use Rattle.regs.specs.declared.answers.Answer.TheVariants.{Accepted, Heard, Responded, Refused}
use Rattle.slave.specs.declared.SlaveState.{SlaveState}

-- a part of the driver, with the state `self`
abbrev pub Driver : Type 0 → Type 0
Driver B = Program SlaveState Answer B

abbrev pub FIFO_SIZE : ℕ
FIFO_SIZE = 16

-- ---- self.pending_byte, self.config

abbrev pub with_pending : Option ℕ → SlaveState → SlaveState
with_pending p me = record { pending_byte = p; address = me.address; general_call = me.general_call }

abbrev pub with_config : ℕ → Bool → SlaveState → SlaveState
with_config address general_call me = record { pending_byte = me.pending_byte; address = address; general_call = general_call }

-- self.pending_byte.take()
abbrev pub take_pending_byte : Driver (Option ℕ)
take_pending_byte = do
  me ← ask
  keep (with_pending None me)
  return me.pending_byte

-- self.pending_byte = Some(b)
abbrev pub set_pending_byte : ℕ → Driver (Unit {0})
set_pending_byte b = do
  me ← ask
  keep (with_pending (Some b) me)

-- ---- fn reset(&mut self)

-- the block is reset, and with that mark the settings are those that the call gives
abbrev pub reset_block : ℕ → Bool → Driver (Unit {0})
reset_block address general_call = do
  mark BLOCK_RESET
  me ← ask
  keep (with_config address general_call me)

-- SAR and CON are taken only while the block is disabled. The speed of a slave sets no
-- clock, but the length of the spikes that are suppressed. STOP_DET_IFADDRESSED is off where
-- general calls are heard, since the controller would give no STOP for them; STOPs of other
-- devices then come too, and `listen` passes over them. A threshold of 0 means one entry.
unfoldable pub reset : ℕ → Bool → Driver (Unit {0})
reset address general_call = do
  reset_block address general_call
  me ← ask
  put ENABLE 0
  put SAR (address_field me.address)
  modify CON (con_slave me.general_call)
  put ACK_GENERAL_CALL (b2n me.general_call)
  put TX_TL 0
  put RX_TL 0
  get CLR_INTR
  put ENABLE 1
  put INTR_MASK 0

-- ---- fn drain_fifo(&mut self, buffer: &mut [u8], offset: &mut usize)

-- if let Some(pending) = .. { buffer[*offset] = pending; *offset += 1; }
abbrev pub drain_pending : Option ℕ → ℕ → Driver ℕ
drain_pending None offset = return offset
drain_pending (Some b) offset = do
  store offset b
  return (offset + 1)

-- for b in &mut buffer[*offset..] { .. }, of n places. The controller goes on to fill the FIFO with the next
-- message, and a read of DATA_CMD takes the byte out: the first byte of that message is kept for the next `listen`.
unfoldable pub drain_places : ℕ → ℕ → Driver ℕ
drain_places zero offset = return offset
drain_places (suc places) offset = do
  status ← get STATUS
  if not (rfne status) then return offset else do
    w ← get DATA_CMD
    if not (eqb offset 0) && first_data_byte w then (do
      set_pending_byte (dat w)
      return offset) else do
        store offset (dat w)
        drain_places places (offset + 1)

abbrev pub drain_fifo : ℕ → ℕ → Driver ℕ
drain_fifo length offset = do
  taken ← take_pending_byte
  offset ← drain_pending taken offset
  drain_places (length - offset) offset

-- ---- async fn listen(&mut self, buffer: &mut [u8]) -> Result<Command, Error>

abbrev pub Listened : Type 0
Listened = Poll ℕ (Result Command Refusal)

-- if p.ic_rxflr().read().rxflr() > 0 || me.pending_byte.is_some() { .. }. Once bytes come, RX_TL 11
-- asks for an interrupt at 12 entries, three quarters of the FIFO, in place of one for each byte.
abbrev pub listen_drain : ℕ → ℕ → ℕ → Driver ℕ
listen_drain length len rxflr = do
  me ← ask
  if ltb 0 (level rxflr) || is_some me.pending_byte then (do
    len ← drain_fifo length len
    put RX_TL 11
    return len) else return len

-- the rest of the poll: a full buffer before all commands. Each flag that an answer rests on is
-- cleared by a read, or the next `listen` would see it again. A STOP without bytes or command
-- is a stuck flag (pull-ups that come up late make one): it is cleared, and the wait goes on.
abbrev pub listen_command : ℕ → ℕ → ℕ → Driver Listened
listen_command length stat len =
    if eqb length len then (if gen_call stat then return (ready (err (PartialGeneralCall length)))
    else return (ready (err (PartialWrite length))))
    else (if restart_det stat && rd_req stat then (do
      get CLR_RESTART_DET
      return (ready (ok (WriteRead len))))
    else (if gen_call stat && stop_det stat && ltb 0 len then (do
      get CLR_GEN_CALL
      get CLR_STOP_DET
      return (ready (ok (GeneralCall len))))
    else (if stop_det stat && ltb 0 len then (do
      get CLR_STOP_DET
      return (ready (ok (Write len))))
    else (if rd_req stat then (do
      get CLR_STOP_DET
      get CLR_RESTART_DET
      get CLR_GEN_CALL
      return (ready (ok Read)))
    else (if stop_det stat then (do
      get CLR_STOP_DET
      return (pending len))
    else return (pending len))))))

abbrev pub listen_poll : ℕ → ℕ → Driver Listened
listen_poll length len = do
  stat ← get RAW_INTR_STAT
  rxflr ← get RXFLR
  len ← listen_drain length len rxflr
  listen_command length stat len

abbrev pub listen_mask : ℕ
listen_mask = set_m_rx_full (set_m_rd_req (set_m_gen_call (set_m_restart_det (set_m_stop_det 0))))

-- RX_TL 0: the first byte wakes.
unfoldable pub listen : ℕ → Driver (Result Command Refusal)
listen length = do
  put RX_TL 0
  wait_on 0 (listen_poll length) (put INTR_MASK listen_mask)

-- ---- fn read_and_clear_abort_reason(&mut self) -> Result<(), Error>

abbrev pub abort_reason : ℕ → AbortReason
abort_reason w =
    if no_acknowledge w then NoAcknowledge
    else (if arb_lost w then ArbitrationLoss
    else (if ltb 0 (tx_flush_cnt w) then TxNotEmpty (tx_flush_cnt w)
    else Other w))

-- the flush count is the number of bytes that the controller threw out of the transmit FIFO; CLR_TX_ABRT clears the
-- source too, so the source is read first
abbrev pub read_and_clear_abort_reason : Driver (Result (Unit {0}) AbortReason)
read_and_clear_abort_reason = do
  w ← get TX_ABRT_SOURCE
  if not (eqb w 0) then (do
    get CLR_TX_ABRT
    return (err (abort_reason w))) else return (ok tt)

-- ---- async fn respond_to_read(&mut self, buffer: &[u8]) -> Result<ReadStatus, Error>

abbrev pub RespondedTo : Type 0
RespondedTo = Poll (List ℕ) (Result ReadStatus Refusal)

abbrev pub is_empty : List ℕ → Bool
is_empty [] = true
is_empty (b ∷ bs) = false

-- for byte in chunk { .. }. RD_REQ clears on read; the master is held until a byte follows.
unfoldable pub send_chunk : List ℕ → Driver (Unit {0})
send_chunk [] = skip
send_chunk (byte ∷ rest) = do
  get CLR_RD_REQ
  put DATA_CMD byte
  send_chunk rest

-- if let Some(chunk) = chunks.next() { .. } and what follows it; the chunks that are left are the bytes that are left
abbrev pub respond_chunk : ℕ → List ℕ → Driver RespondedTo
respond_chunk stat rest =
    if not (is_empty rest) then (do
      send_chunk (take FIFO_SIZE rest)
      return (pending (drop FIFO_SIZE rest)))
    else (if rx_done stat then (do
      get CLR_RX_DONE
      return (ready (ok Done)))
    else (if rd_req stat && tx_empty stat then return (ready (ok NeedMoreBytes))
    else return (pending rest)))

-- if let Err(abort_reason) = .. { .. }, and on with the poll
abbrev pub respond_abort : Result (Unit {0}) AbortReason → Driver RespondedTo → Driver RespondedTo
respond_abort (ok _) poll = poll
respond_abort (err (TxNotEmpty bytes)) poll = do
  get CLR_INTR
  return (ready (ok (LeftoverBytes bytes)))
respond_abort (err NoAcknowledge) poll = return (ready (err (Abort NoAcknowledge)))
respond_abort (err ArbitrationLoss) poll = return (ready (err (Abort ArbitrationLoss)))
respond_abort (err (Other w)) poll = return (ready (err (Abort (Other w))))
respond_abort (err (DataNotAcknowledged w)) poll = return (ready (err (Abort (DataNotAcknowledged w))))

abbrev pub respond_poll : List ℕ → Driver RespondedTo
respond_poll rest = do
  stat ← get RAW_INTR_STAT
  if tx_abrt stat then (do
    r ← read_and_clear_abort_reason
    respond_abort r (respond_chunk stat rest)) else respond_chunk stat rest

abbrev pub respond_mask : ℕ
respond_mask = set_m_tx_abrt (set_m_tx_empty (set_m_rx_done 0))

unfoldable pub respond_to_read : List ℕ → Driver (Result ReadStatus Refusal)
respond_to_read buffer =
    if is_empty buffer then return (err InvalidResponseBufferLength)
    else wait_on buffer respond_poll (put INTR_MASK respond_mask)

-- ---- async fn respond_till_stop(&mut self, fill: u8) -> Result<(), Error>

-- match self.respond_to_read(&buff).await { .. }. A whole FIFO of fill bytes at a
-- time keeps interrupts few; the master most likely stops before it has fetched
-- them all, and bytes left over are then no error, since they are fill bytes.
abbrev pub till_stop : Result ReadStatus Refusal → Turn (Unit {0}) (Result (Unit {0}) Refusal)
till_stop (ok NeedMoreBytes) = again tt
till_stop (ok (LeftoverBytes n)) = done (ok tt)
till_stop (ok Done) = done (ok tt)
till_stop (err e) = done (err e)

-- let buff = [fill; FIFO_SIZE as usize];
abbrev pub fill_bytes : ℕ → List ℕ
fill_bytes fill = replicate FIFO_SIZE fill

unfoldable pub respond_till_stop : ℕ → Driver (Result (Unit {0}) Refusal)
respond_till_stop fill = loop tt (λ _. do
  r ← respond_to_read (fill_bytes fill)
  return (till_stop r))

-- ---- async fn respond_and_fill(&mut self, buffer: &[u8], fill: u8) -> Result<ReadStatus, Error>

-- self.respond_till_stop(fill).await?; Ok(ReadStatus::Done)
abbrev pub filled : Result (Unit {0}) Refusal → Result ReadStatus Refusal
filled (ok _) = ok Done
filled (err e) = err e

abbrev pub and_fill : ℕ → Result ReadStatus Refusal → Driver (Result ReadStatus Refusal)
and_fill fill (ok NeedMoreBytes) = do
  r ← respond_till_stop fill
  return (filled r)
and_fill fill (ok Done) = return (ok Done)
and_fill fill (ok (LeftoverBytes n)) = return (ok (LeftoverBytes n))
and_fill fill (err e) = return (err e)

unfoldable pub respond_and_fill : List ℕ → ℕ → Driver (Result ReadStatus Refusal)
respond_and_fill buffer fill = do
  r ← respond_to_read buffer
  and_fill fill r

-- ---- the calls

-- number 20, before everything else
abbrev pub within_limits : ℕ → Driver (Unit {0})
within_limits length = when (ltb 4096 length) (exit (Refused OverLimits))

abbrev pub answer : {B : Type 0} → (B → Answer) → Result B Refusal → Answer
answer accepted (ok b) = accepted b
answer accepted (err e) = Refused e

-- with `assert!(config.addr != 0)` of `new`
unfoldable pub reset_call : ℕ → Bool → Driver Answer
reset_call address general_call = do
  when (eqb address 0) (exit (Refused SlaveAddressZero))
  reset address general_call
  return Accepted

-- number 17 is added: the Rust's drain would go past an empty buffer
unfoldable pub listen_call : ℕ → Driver Answer
listen_call length = do
  within_limits length
  me ← ask
  when (is_some me.pending_byte && eqb length 0) (exit (Refused NoPlaceForPending))
  r ← listen length
  return (answer Heard r)

unfoldable pub respond_to_read_call : List ℕ → Driver Answer
respond_to_read_call buffer = do
  within_limits (length buffer)
  r ← respond_to_read buffer
  return (answer Responded r)

unfoldable pub respond_till_stop_call : ℕ → Driver Answer
respond_till_stop_call fill = do
  r ← respond_till_stop fill
  return (answer (λ _. Accepted) r)

unfoldable pub respond_and_fill_call : List ℕ → ℕ → Driver Answer
respond_and_fill_call buffer fill = do
  within_limits (length buffer)
  r ← respond_and_fill buffer fill
  return (answer Responded r)
