-- Computed: transfers with a packet error code, the code of a write after a read, a code that is right and one that is
-- wrong, and what is refused.
use Prim.Native.Nat.{ℕ}
use mathlib.Core.Bool.{xor}
use mathlib.Core.Path.{◌≡◌, refl}
use mathlib.Core.List.{List, [], ◌∷◌}
use Rattle.crc8.specs.Crc8.{after_bit, after_bits, after_byte, crc8_from}
use Rattle.regs.specs.declared.answers.Answer.{Answer}
use Rattle.regs.specs.declared.answers.Answer.TheVariants.{Accepted, Refused}
use Rattle.regs.specs.declared.answers.AbortReason.TheVariants.{NoAcknowledge}
use Rattle.regs.specs.declared.answers.Refusal.TheVariants.{Abort, InvalidReadBufferLength, InvalidWriteBufferLength}
use Rattle.regs.specs.declared.answers.Refusal.TheVariants.{WrongPacketErrorCode}
use Rattle.regs.specs.declared.answers.Reply.{Reply}
use Rattle.regs.specs.declared.answers.Reply.TheVariants.{Answered, OutOfReadings, LogFull}
use Rattle.regs.specs.Registers.{DATA_CMD}
use Rattle.regs.specs.Fields.{set_field}
use Rattle.regs.specs.Program.{Outcome, outcome, turns, rounds, behaviour}
use Rattle.regs.specs.Watched.{watched_from}
use Rattle.regs.specs.Log.{written_to}
use Rattle.master.specs.Driver.{setup, tx_fifo_capacity, tx_fifo_full, rx_fifo_len, read_and_clear_abort_reason, reason_of}
use Rattle.master.specs.Blocking.{read_blocking_bytes, read_blocking_internal, write_blocking_bytes, write_blocking_internal}
use Rattle.master.specs.Async.{wait_stop_det, queue_batch, fetch_bytes, read_async_internal, fill, write_async_internal}
use Rattle.master.specs.Operations.{writes, reads, Mode, blocking, async}
use Rattle.master.specs.Operations.{Transfer, read, write, transaction}
use Rattle.master.specs.Sequence.{joined, sequence_from}
use Rattle.master.specs.Coded.{message, with_code, room_of, ends_in_read, each_coded, longer_transfer, coded}

-- what a coded transfer to 0x50 leaves on these readings, with room for so many entries and a buffer of so many bytes
abbrev left_in : ℕ → Mode → Transfer ℕ → List ℕ → List ℕ → Outcome (Unit {0}) Reply
left_in room mode t rs buffer = outcome Answered LogFull OutOfReadings (behaviour (coded reason_of mode 0x50 t) room) room rs buffer tt

abbrev left : Mode → Transfer ℕ → List ℕ → List ℕ → Outcome (Unit {0}) Reply
left = left_in 100

-- it answers a, and writes these words to DATA_CMD
abbrev Words : Answer → Outcome (Unit {0}) Reply → List ℕ → Type 0
Words a o ws = (o.answer ≡ Answered a) × (written_to DATA_CMD o.log ≡ ws)

-- it answers a, and leaves this buffer
abbrev Keeps : Answer → Outcome (Unit {0}) Reply → List ℕ → Type 0
Keeps a o buffer = (o.answer ≡ Answered a) × (o.buffer ≡ buffer)

-- one byte and its code, A0 01 1F
abbrev one : Mode → List ℕ → Outcome (Unit {0}) Reply
one mode rs = left mode (write (1 ∷ [])) rs []

-- one byte and its code, A1 5A 8C
abbrev two : Mode → List ℕ → Outcome (Unit {0}) Reply
two mode rs = left mode (read 1) rs (0 ∷ [])

pub record Rows : Type 0 where
  -- a read and then a write, the read's word not issued, since TXFLR says that the FIFO is full: the code of A1 5A A0 CE
  pub read_then_write : Words Accepted (left async (transaction (reads 1 ∷ writes (0xCE ∷ []) ∷ []))
      (0x10 ∷ 1 ∷ 0 ∷ 0x5A ∷ 0 ∷ 0 ∷ 0x200 ∷ 0 ∷ []) (0 ∷ [])) (0x0CE ∷ 0x236 ∷ [])
  pub write_async : Words Accepted (one async (0 ∷ 0 ∷ 0x200 ∷ 0 ∷ [])) (0x001 ∷ 0x21F ∷ [])
  pub write_blocking : Words Accepted (one blocking (0x10 ∷ 0 ∷ 0x10 ∷ 0 ∷ 0x200 ∷ 0 ∷ [])) (0x001 ∷ 0x21F ∷ [])
  -- neighbouring writes have one address byte: the code of A0 01 02
  pub two_writes : Words Accepted (left async (transaction (writes (1 ∷ []) ∷ writes (2 ∷ []) ∷ []))
      (0 ∷ 0 ∷ 0 ∷ 0x200 ∷ 0 ∷ []) []) (0x001 ∷ 0x002 ∷ 0x253 ∷ [])
  -- a word more is asked for; RESTART rides on the first and STOP on the last
  pub read_async : Words Accepted (two async (0 ∷ 2 ∷ 0 ∷ 0x5A ∷ 0x8C ∷ 0 ∷ 0x200 ∷ 0 ∷ [])) (0x500 ∷ 0x300 ∷ [])
  pub read_blocking : Words Accepted (two blocking (0 ∷ 1 ∷ 0x5A ∷ 0 ∷ 1 ∷ 0x8C ∷ [])) (0x500 ∷ 0x300 ∷ [])
  -- the buffer keeps the data alone
  pub right : Keeps Accepted (two async (0x10 ∷ 2 ∷ 0 ∷ 0x5A ∷ 0x8C ∷ 0 ∷ 0x200 ∷ 0 ∷ [])) (0x5A ∷ [])
  -- another code is 22, and the byte that was read stays; so it is where the log is full with the last access
  pub wrong : Keeps (Refused WrongPacketErrorCode) (two async (0x10 ∷ 2 ∷ 0 ∷ 0x5A ∷ 0x8D ∷ 0 ∷ 0x200 ∷ 0 ∷ [])) (0x5A ∷ [])
  pub wrong_and_full : Keeps (Refused WrongPacketErrorCode)
      (left_in 11 async (read 1) (0x10 ∷ 2 ∷ 0 ∷ 0x5A ∷ 0x8D ∷ 0 ∷ 0x200 ∷ 0 ∷ []) (0 ∷ [])) (0x5A ∷ [])
  -- an abort comes before it
  pub wrong_and_aborted : Keeps (Refused (Abort NoAcknowledge))
      (two async (0x10 ∷ 2 ∷ 0 ∷ 0x5A ∷ 0x8D ∷ 1 ∷ 0 ∷ 0 ∷ 0x200 ∷ 0 ∷ [])) (0x5A ∷ [])
  -- an empty operation is 7 or 8 where it is reached, with no access of its own
  pub empty_write : ((left async (write []) [] []).answer ≡ Answered (Refused InvalidWriteBufferLength))
      × ((left async (write []) [] []).log ≡ (left blocking (write []) [] []).log)
  pub empty_read : (left async (read 0) [] []).answer ≡ Answered (Refused InvalidReadBufferLength)
  pub empty_last : Words (Refused InvalidWriteBufferLength) (left async (transaction (writes (1 ∷ []) ∷ writes [] ∷ [])) (0 ∷ []) [])
      (0x001 ∷ [])
  -- no operations, no code
  pub nothing : ((left async (transaction []) [] []).answer ≡ Answered Accepted) × ((left async (transaction []) [] []).log ≡ [])
  pub nothing_blocking : Words Accepted (left blocking (transaction []) [] []) []

pub rows : Rows
unfolding outcome turns rounds setup tx_fifo_capacity tx_fifo_full rx_fifo_len read_and_clear_abort_reason
    read_blocking_bytes read_blocking_internal write_blocking_bytes write_blocking_internal wait_stop_det
    queue_batch fetch_bytes read_async_internal fill write_async_internal written_to set_field after_bit after_bits
    after_byte crc8_from xor watched_from joined sequence_from message with_code room_of ends_in_read each_coded
    longer_transfer
rows = record {
  read_then_write = (refl, refl);
  write_async = (refl, refl);
  write_blocking = (refl, refl);
  two_writes = (refl, refl);
  read_async = (refl, refl);
  read_blocking = (refl, refl);
  right = (refl, refl);
  wrong = (refl, refl);
  wrong_and_full = (refl, refl);
  wrong_and_aborted = (refl, refl);
  empty_write = (refl, refl);
  empty_read = refl;
  empty_last = (refl, refl);
  nothing = (refl, refl);
  nothing_blocking = (refl, refl);
}
