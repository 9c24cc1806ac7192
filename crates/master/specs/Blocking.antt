-- src/i2c.rs: the blocking reads and writes.
use Rattle.std.specs.Prelude.{ℕ, zero, suc, ◌+◌, ◌-◌, Bool, true, false, not, ◌&&◌, ◌||◌, List, [], ◌∷◌, eqb, length}
use Rattle.regs.specs.declared.answers.Refusal.TheVariants.{InvalidReadBufferLength, InvalidWriteBufferLength}
use Rattle.regs.specs.declared.answers.Answer.TheVariants.{Refused}
use Rattle.regs.specs.Registers.{DATA_CMD, RAW_INTR_STAT, CLR_STOP_DET}
use Rattle.regs.specs.Fields.{command_word, dat, tx_empty, stop_det}
use Rattle.regs.specs.Program.{◌>>=◌, ◌>>◌, return, exit, get, put, store, skip, when, while}
use Rattle.master.specs.Driver.{Driver, Reasons, is_err, try, while_test, tx_fifo_full, rx_fifo_len, read_and_clear_abort_reason}

-- a read buffer is given by its length and by its offset in the one lent read buffer

-- `for (i, byte) in read.iter_mut().enumerate()`, from byte i on, with `left` bytes
-- from there. A byte to be read needs a read word in the transmit FIFO, which makes
-- the controller clock the bus; the byte then comes into the receive FIFO.
unfoldable pub read_blocking_bytes : Reasons → ℕ → ℕ → Bool → Bool → ℕ → ℕ → Driver (Unit {0})
read_blocking_bytes reason offset lastindex restart send_stop i zero = skip
read_blocking_bytes reason offset lastindex restart send_stop i (suc left) = do
  while_test tx_fifo_full skip
  put DATA_CMD (command_word 0 true (send_stop && eqb i lastindex) (restart && eqb i 0))
  while_test (do
    rxfifo ← rx_fifo_len
    return (eqb rxfifo 0)) (do
      abort_reason ← read_and_clear_abort_reason reason
      try abort_reason)
  byte ← get DATA_CMD
  store (offset + i) (dat byte)
  read_blocking_bytes reason offset lastindex restart send_stop (i + 1) left

-- fn read_blocking_internal
unfoldable pub read_blocking_internal : Reasons → ℕ → ℕ → Bool → Bool → Driver (Unit {0})
read_blocking_internal reason offset len restart send_stop = do
  when (eqb len 0) (exit (Refused InvalidReadBufferLength))
  read_blocking_bytes reason offset (len - 1) restart send_stop 0 len

-- `for (i, byte) in write.iter().enumerate()`, from byte i on. TX_EMPTY alone would say only that the FIFO is
-- empty; with TX_EMPTY_CTRL set in CON it waits for the shift register too, so the byte has left, and if it was not
-- acknowledged the abort shows in the next read. On an abort the controller sends STOP by itself and flushes both
-- FIFOs: STOP is waited for then too, whatever the word asked for, so that the next transfer finds an idle bus.
unfoldable pub write_blocking_bytes : Reasons → ℕ → Bool → ℕ → List ℕ → Driver (Unit {0})
write_blocking_bytes reason len send_stop i [] = skip
write_blocking_bytes reason len send_stop i (byte ∷ bytes) = do
  let last = eqb i (len - 1)
  put DATA_CMD (command_word byte false (send_stop && last) false)
  while RAW_INTR_STAT (λ stat. not (tx_empty stat)) skip
  abort_reason ← read_and_clear_abort_reason reason
  when (is_err abort_reason || (send_stop && last)) (do
    while RAW_INTR_STAT (λ stat. not (stop_det stat)) skip
    get CLR_STOP_DET
    skip)
  try abort_reason
  write_blocking_bytes reason len send_stop (i + 1) bytes

-- fn write_blocking_internal
unfoldable pub write_blocking_internal : Reasons → List ℕ → Bool → Driver (Unit {0})
write_blocking_internal reason write send_stop = do
  when (eqb (length write) 0) (exit (Refused InvalidWriteBufferLength))
  write_blocking_bytes reason (length write) send_stop 0 write
