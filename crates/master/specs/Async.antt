-- src/i2c.rs: the async reads and writes.
use Rattle.std.specs.Prelude.{ℕ, zero, suc, ◌+◌, ◌-◌, min, Bool, true, false, not, ◌&&◌, ◌||◌, List, [], ◌∷◌, eqb, ltb, if◌then◌else◌}
use Rattle.regs.specs.declared.answers.Refusal.TheVariants.{InvalidReadBufferLength}
use Rattle.regs.specs.declared.answers.Answer.TheVariants.{Refused}
use Rattle.regs.specs.Registers.{DATA_CMD, INTR_MASK, RAW_INTR_STAT, RX_TL, TX_TL, CLR_STOP_DET}
use Rattle.regs.specs.Fields.{command_word, dat, stop_det, set_m_rx_full, set_m_tx_empty, set_m_tx_abrt, set_m_stop_det}
use Rattle.regs.specs.Program.{◌>>=◌, ◌>>◌, return, exit, get, put, modify, store, skip, when, ok}
use Rattle.regs.specs.Program.{err, Turn, again, done, loop, Poll, pending, ready, wait_on}
use Rattle.master.specs.Driver.{Driver, Reasons, Tried, is_err, try, tx_fifo_capacity, tx_fifo_full}
use Rattle.master.specs.Driver.{rx_fifo_len, read_and_clear_abort_reason}

-- ---- fn wait_stop_det

-- `a.and(b)`
abbrev pub both : Tried (Unit {0}) → Tried (Unit {0}) → Tried (Unit {0})
both (ok _) b = b
both (err reason) b = err reason

-- the closure that `wait_stop_det` polls. All words are queued by now, but the
-- controller may still be sending them, and an abort may come from one of those;
-- after a first abort only the STOP that the controller then sends is waited for.
abbrev pub stop_poll : Reasons → Tried (Unit {0}) → Driver (Poll (Unit {0}) (Tried (Unit {0})))
stop_poll reason had_abort = do
  abort ← read_and_clear_abort_reason reason
  if not (is_err had_abort) && is_err abort
      then return (ready abort)
      else (do
        stat ← get RAW_INTR_STAT
        if stop_det stat then return (ready (ok tt)) else return (pending tt))

unfoldable pub wait_stop_det : Reasons → Tried (Unit {0}) → Bool → Driver (Tried (Unit {0}))
wait_stop_det reason had_abort do_stop =
    if is_err had_abort || do_stop
    then (do
      had_abort2 ← wait_on tt (λ _. stop_poll reason had_abort) (modify INTR_MASK (λ w. set_m_tx_abrt (set_m_stop_det w)))
      get CLR_STOP_DET
      return (both had_abort had_abort2))
    else return had_abort

-- ---- fn read_async_internal

-- what the rounds of a read carry: the bytes still to take, and the words still to queue
pub record Counts : Type 0 where
  pub remaining : ℕ
  pub remaining_queue : ℕ

-- `for _ in 0..batch`
unfoldable pub queue_batch : ℕ → Bool → Bool → ℕ → ℕ → Driver (Unit {0})
queue_batch len restart send_stop zero remaining_queue = skip
queue_batch len restart send_stop (suc batch) remaining_queue = do
  let remaining_queue = remaining_queue - 1
  let last = eqb remaining_queue 0
  put DATA_CMD (command_word 0 true (last && send_stop) (restart && eqb remaining_queue (len - 1)))
  queue_batch len restart send_stop batch remaining_queue

-- the closure that is polled for the batch: `if let Err(abort_reason) = ..`, and from its start. Either the transmit FIFO
-- is full or all words are queued: in both cases only received bytes lead on. RX_TL is set to the batch, so that the
-- interrupt comes with its last byte and not with each one. Nothing else reads the receive FIFO, so what RXFLR counted
-- can be taken.
abbrev pub batch_come : ℕ → ℕ → Tried (Unit {0}) → Poll (Unit {0}) (Tried ℕ)
batch_come batch rxfifo (err reason) = ready (err reason)
batch_come batch rxfifo (ok _) = if not (ltb rxfifo batch) then ready (ok rxfifo) else pending tt

abbrev pub batch_poll : Reasons → ℕ → Driver (Poll (Unit {0}) (Tried ℕ))
batch_poll reason batch = do
  rxfifo ← rx_fifo_len
  abort ← read_and_clear_abort_reason reason
  return (batch_come batch rxfifo abort)

-- `for b in &mut buffer[received..received + rxbytes]`, into the lent buffer from `at` on
unfoldable pub fetch_bytes : ℕ → ℕ → Driver (Unit {0})
fetch_bytes at zero = skip
fetch_bytes at (suc rxbytes) = do
  byte ← get DATA_CMD
  store at (dat byte)
  fetch_bytes (at + 1) rxbytes

-- `match res`: an error breaks the loop, else the bytes that came are taken
abbrev pub take_batch : ℕ → ℕ → ℕ → ℕ → Tried ℕ → Driver (Turn Counts (Tried (Unit {0})))
take_batch offset len remaining remaining_queue (err reason) = return (done (err reason))
take_batch offset len remaining remaining_queue (ok rxfifo) = do
  let rxbytes = min rxfifo remaining
  let received = len - remaining
  fetch_bytes (offset + received) rxbytes
  return (again (record { remaining = remaining - rxbytes; remaining_queue = remaining_queue }))

-- `while remaining > 0`: a turn
abbrev pub read_round : Reasons → ℕ → ℕ → Bool → Bool → Counts → Driver (Turn Counts (Tried (Unit {0})))
read_round reason offset len restart send_stop counts =
    if not (ltb 0 counts.remaining)
    then return (done (ok tt))
    else (do
      tx_fifo_space ← tx_fifo_capacity
      let batch = min counts.remaining_queue tx_fifo_space
      queue_batch len restart send_stop batch counts.remaining_queue
      res ← wait_on tt (λ _. batch_poll reason batch) (do
        put RX_TL (batch - 1)
        modify INTR_MASK (λ w. set_m_tx_abrt (set_m_rx_full w)))
      take_batch offset len counts.remaining (counts.remaining_queue - batch) res)

-- a read buffer is given by its length and by its offset in the one lent read buffer
unfoldable pub read_async_internal : Reasons → ℕ → ℕ → Bool → Bool → Driver (Unit {0})
read_async_internal reason offset len restart send_stop = do
  when (eqb len 0) (exit (Refused InvalidReadBufferLength))
  abort_reason ← loop (record { remaining = len; remaining_queue = len }) (read_round reason offset len restart send_stop)
  res ← wait_stop_det reason abort_reason send_stop
  try res

-- ---- fn write_async_internal

abbrev pub is_empty : {A : Type 0} → List A → Bool
is_empty [] = true
is_empty (x ∷ xs) = false

-- how `for _ in 0..tx_fifo_space` ends: the bytes have ended, which leaves both loops (`break 'xmit Ok(())`), or
-- the places, with these bytes left
pub data Filled : Type 0 where
  break_xmit : Filled
  full : List ℕ → Filled

unfoldable pub fill : Bool → ℕ → List ℕ → Driver Filled
fill send_stop zero bytes = return (full bytes)
fill send_stop (suc space) [] = return break_xmit
fill send_stop (suc space) (byte ∷ bytes) = do
  let last = is_empty bytes
  put DATA_CMD (command_word byte false (last && send_stop) false)
  fill send_stop space bytes

-- the closure that is polled for a free place: `if let abort_reason @ Err(_) = ..`, and from its start
abbrev pub space_come : Tried (Unit {0}) → Driver (Poll (Unit {0}) (Tried (Unit {0})))
space_come (err reason) = return (ready (err reason))
space_come (ok _) = do
  no_space ← tx_fifo_full
  if not no_space then return (ready (ok tt)) else return (pending tt)

abbrev pub space_poll : Reasons → Driver (Poll (Unit {0}) (Tried (Unit {0})))
space_poll reason = do
  abort ← read_and_clear_abort_reason reason
  space_come abort

-- `if res.is_err() { break res; }`, else round again with the bytes that are left
abbrev pub go_on : List ℕ → Tried (Unit {0}) → Turn (List ℕ) (Tried (Unit {0}))
go_on bytes (err reason) = done (err reason)
go_on bytes (ok _) = again bytes

-- what follows the inner loop. TX_TL is 1, not 0: the interrupt comes while an entry is still
-- to be sent, so that the FIFO is refilled before it has drained and the bus does not stall.
abbrev pub wait_space : Reasons → Filled → Driver (Turn (List ℕ) (Tried (Unit {0})))
wait_space reason break_xmit = return (done (ok tt))
wait_space reason (full bytes) = do
  res ← wait_on tt (λ _. space_poll reason) (do
    put TX_TL 1
    modify INTR_MASK (λ w. set_m_tx_abrt (set_m_tx_empty w)))
  return (go_on bytes res)

-- `'xmit: loop`: a turn
abbrev pub xmit : Reasons → Bool → List ℕ → Driver (Turn (List ℕ) (Tried (Unit {0})))
xmit reason send_stop bytes = do
  tx_fifo_space ← tx_fifo_capacity
  filled ← fill send_stop tx_fifo_space bytes
  wait_space reason filled

unfoldable pub write_async_internal : Reasons → List ℕ → Bool → Driver (Unit {0})
write_async_internal reason bytes send_stop = do
  res ← loop bytes (xmit reason send_stop)
  res ← wait_stop_det reason res send_stop
  try res
