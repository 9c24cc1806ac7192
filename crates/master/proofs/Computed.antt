-- Computed: a sequence alone, corners of the Rust, number 20, and what happens without demand 3's premises.
use Prim.Native.Nat.{ℕ}
use mathlib.Core.Bool.{true, false}
use mathlib.Core.Path.{◌≡◌, refl}
use mathlib.Core.List.{List, [], ◌∷◌}
use lib.ListN.{replicate}
use Rattle.regs.specs.declared.access.Entry.TheVariants.{Read, Write, Marked}
use Rattle.regs.specs.declared.answers.AbortReason.TheVariants.{NoAcknowledge, ArbitrationLoss, DataNotAcknowledged}
use Rattle.regs.specs.declared.answers.Refusal.TheVariants.{Abort, TxLevelOutOfRange, OverLimits}
use Rattle.regs.specs.declared.answers.Answer.TheVariants.{Accepted, Refused}
use Rattle.regs.specs.declared.answers.Reply.{Reply}
use Rattle.regs.specs.declared.answers.Reply.TheVariants.{Answered, OutOfReadings, LogFull}
use Rattle.regs.specs.Answers.{number}
use Rattle.regs.specs.Registers.{DATA_CMD}
use Rattle.regs.specs.Fields.{set_field}
use Rattle.regs.specs.Program.{Outcome, outcome, turns, rounds, behaviour}
use Rattle.regs.specs.Log.{written_to}
use Rattle.bus.specs.declared.Sign.{Sign}
use Rattle.bus.specs.declared.Sign.TheVariants.{Start, Restart, Stop, Address, Written, ReadSlot}
use Rattle.bus.specs.Bus.{signs, bus_sequence}
use Rattle.master.specs.Driver.{setup, tx_fifo_capacity, tx_fifo_full, rx_fifo_len, read_and_clear_abort_reason, reason_of}
use Rattle.master.specs.Blocking.{read_blocking_bytes, read_blocking_internal, write_blocking_bytes, write_blocking_internal}
use Rattle.master.specs.Async.{wait_stop_det, queue_batch, fetch_bytes, read_async_internal, fill, write_async_internal}
use Rattle.master.specs.Operations.{writes, reads, Transfer, read, write, write_read, transaction, Mode}
use Rattle.master.specs.Operations.{blocking, async, READ, WRITE, listed, total, known, fits, lists}
use Rattle.master.specs.Transfer.{each_operation, transfer, read_call, blocking_read, blocking_write}
use Rattle.master.specs.Transfer.{blocking_write_read, blocking_transaction, read_async, write_async}
use Rattle.master.specs.Transfer.{write_read_async, transaction_async}
use Rattle.master.specs.Sequence.{joined, sequence_from, sequence, told}

-- what a transfer to an address leaves on these readings, with room for 100 entries and a buffer of 3 bytes
abbrev left : Mode → ℕ → Transfer ℕ → List ℕ → Outcome (Unit {0}) Reply
left m address x rs = outcome Answered LogFull OutOfReadings (behaviour (transfer reason_of m address x) 100) 100 rs (0 ∷ 0 ∷ 0 ∷ []) tt

-- it is accepted, and makes this sequence
abbrev Makes : Outcome (Unit {0}) Reply → List Sign → Type 0
Makes o ss = (o.answer ≡ Answered Accepted) × (bus_sequence o.log ≡ ss)

-- it is accepted, and writes these words to DATA_CMD
abbrev Words : Outcome (Unit {0}) Reply → List ℕ → Type 0
Words o ws = (o.answer ≡ Answered Accepted) × (written_to DATA_CMD o.log ≡ ws)

-- a sequence of joined operations, alone, and what it tells
pub record Alone : Type 0 where
  pub joins : joined (writes (0x11 ∷ []) ∷ writes (0x22 ∷ []) ∷ reads 1 ∷ reads 2 ∷ writes (0x33 ∷ []) ∷ [])
      ≡ writes (0x11 ∷ 0x22 ∷ []) ∷ reads 3 ∷ writes (0x33 ∷ []) ∷ []
  pub makes : sequence 0x50 (writes (0x11 ∷ 0x22 ∷ []) ∷ reads 1 ∷ [])
      ≡ Start ∷ Address 0xA0 ∷ Written 0x11 ∷ Written 0x22 ∷ Restart ∷ Address 0xA1 ∷ ReadSlot ∷ Stop ∷ []
  pub tells : (told (Start ∷ Address 0xA0 ∷ Written 0x11 ∷ Written 0x22 ∷ Restart ∷ Address 0xA1
      ∷ ReadSlot ∷ Stop ∷ [])).operations
      ≡ writes (0x11 ∷ 0x22 ∷ []) ∷ reads 1 ∷ []

pub alone : Alone
unfolding joined sequence_from told
alone = record {
  joins = refl;
  makes = refl;
  tells = refl;
}

-- corners of the Rust
pub record Corners : Type 0 where
  -- RESTART rides on the first word of a plain read, STOP on its last
  pub two_bytes : Words (left blocking 0x50 (read 2) (0 ∷ 1 ∷ 0xAA ∷ 0 ∷ 1 ∷ 0xBB ∷ [])) (0x500 ∷ 0x300 ∷ [])
  pub two_bytes_async : Words (left async 0x50 (read 2) (0 ∷ 2 ∷ 0 ∷ 0xAA ∷ 0xBB ∷ 0 ∷ 0x200 ∷ 0 ∷ [])) (0x500 ∷ 0x300 ∷ [])
  -- an async read of 3 bytes: a round of no words where the FIFO is full, one of two with a pending poll, one of one
  pub three_rounds : Makes (left async 0x50 (read 3)
      (16 ∷ 0 ∷ 0 ∷ 14 ∷ 1 ∷ 0 ∷ 0 ∷ 2 ∷ 0 ∷ 0xAA ∷ 0xBB ∷ 0 ∷ 1 ∷ 0 ∷ 0xCC ∷ 0 ∷ 0x200 ∷ 0 ∷ []))
      (Start ∷ Address 0xA1 ∷ ReadSlot ∷ ReadSlot ∷ ReadSlot ∷ Stop ∷ [])
  pub three_bytes : (left async 0x50 (read 3)
      (16 ∷ 0 ∷ 0 ∷ 14 ∷ 1 ∷ 0 ∷ 0 ∷ 2 ∷ 0 ∷ 0xAA ∷ 0xBB ∷ 0 ∷ 1 ∷ 0 ∷ 0xCC ∷ 0 ∷ 0x200 ∷ 0 ∷ [])).buffer
      ≡ 0xAA ∷ 0xBB ∷ 0xCC ∷ []
  -- words still to queue and bytes still to take are two counts: one word, then two bytes taken, and two words still to come
  pub two_counts : Words
      (left async 0x50 (read 3) (15 ∷ 2 ∷ 0 ∷ 0xAA ∷ 0xBB ∷ 0 ∷ 2 ∷ 0 ∷ 0xCC ∷ 0 ∷ 0x200 ∷ 0 ∷ []))
      (0x500 ∷ 0x100 ∷ 0x300 ∷ [])
  -- a poll that is not ready ends in a pending mark, after the threshold and the masks of RX_FULL and TX_ABRT are set
  pub pending_poll : (left async 0x50 (read 2) (0 ∷ 1 ∷ 0 ∷ 0x200 ∷ [])).log
      ≡ Write 0x6C 0 ∷ Write 0x04 0x50 ∷ Write 0x6C 1 ∷ Read 0x74 0 ∷ Write 0x10 0x500 ∷ Write 0x10 0x300 ∷ Read
      0x78 1 ∷ Read 0x80 0 ∷ Write 0x38 1 ∷ Read 0x30 0x200 ∷ Write 0x30 0x244 ∷ Marked 0 ∷ []
  -- an async write that fills the FIFO exactly goes round once more, and then leaves both loops
  pub exact_fill : Makes (left async 0x50 (write (0x11 ∷ 0x22 ∷ [])) (14 ∷ 0 ∷ 16 ∷ 0 ∷ 0 ∷ 15 ∷ 15 ∷ 0 ∷ 0x200 ∷ 0 ∷ []))
      (Start ∷ Address 0xA0 ∷ Written 0x11 ∷ Written 0x22 ∷ Stop ∷ [])
  -- a write-read, and the transaction of the same
  pub write_read_pair : Makes (left blocking 0x50 (write_read (0x11 ∷ []) 2) (0x10 ∷ 0 ∷ 16 ∷ 3 ∷ 0 ∷ 0 ∷ 1 ∷ 0xAA ∷ 0 ∷ 1 ∷ 0xBB ∷ []))
      (Start ∷ Address 0xA0 ∷ Written 0x11 ∷ Restart ∷ Address 0xA1 ∷ ReadSlot ∷ ReadSlot ∷ Stop ∷ [])
  pub transaction_pair : Makes
      (left async 0x50 (transaction (writes (0x11 ∷ []) ∷ reads 1 ∷ reads 1 ∷ []))
      (0 ∷ 0 ∷ 1 ∷ 0 ∷ 0xAA ∷ 0 ∷ 1 ∷ 0 ∷ 0xBB ∷ 0 ∷ 0x200 ∷ 0 ∷ []))
      (Start ∷ Address 0xA0 ∷ Written 0x11 ∷ Restart ∷ Address 0xA1 ∷ ReadSlot ∷ ReadSlot ∷ Stop ∷ [])
  -- a read starts in the lent buffer where the reads before it ended
  pub second_read_behind : (left blocking 0x50 (transaction (reads 1 ∷ writes (0x11 ∷ []) ∷ reads 2 ∷ []))
      (0 ∷ 1 ∷ 0xAA ∷ 0x10 ∷ 0 ∷ 0 ∷ 1 ∷ 0xBB ∷ 0 ∷ 1 ∷ 0xCC ∷ [])).buffer
      ≡ 0xAA ∷ 0xBB ∷ 0xCC ∷ []
  -- bit 3, a data byte not acknowledged, has a reason of its own, also with bit 12; bits 0 to 2 come first
  pub data_not_acknowledged : ((left blocking 0x50 (write (0x11 ∷ 0x22 ∷ [])) (0x10 ∷ 8 ∷ 0 ∷ 0x200 ∷ 0 ∷ [])).answer
      ≡ Answered (Refused (Abort (DataNotAcknowledged 8))))
      × ((left blocking 0x50 (write (0x11 ∷ 0x22 ∷ [])) (0x10 ∷ 0x1008 ∷ 0 ∷ 0x200 ∷ 0 ∷ [])).answer
      ≡ Answered (Refused (Abort (DataNotAcknowledged 0x1008))))
      × ((left blocking 0x50 (write (0x11 ∷ 0x22 ∷ [])) (0x10 ∷ 9 ∷ 0 ∷ 0x200 ∷ 0 ∷ [])).answer
      ≡ Answered (Refused (Abort NoAcknowledge)))
  -- the first word that is not 0 decides: 8 and then 1 is the reason of 8
  pub first_word_decides : (left async 0x50 (read 1) (0 ∷ 0 ∷ 8 ∷ 0 ∷ 1 ∷ 0 ∷ 0x200 ∷ 0 ∷ [])).answer
      ≡ Answered (Refused (Abort (DataNotAcknowledged 8)))
  -- an aborted blocking read returns without clearing STOP_DET
  pub read_not_acknowledged : (left blocking 0x50 (read 1) (0 ∷ 0 ∷ 1 ∷ 0 ∷ [])).log
      ≡ Write 0x6C 0 ∷ Write 0x04 0x50 ∷ Write 0x6C 1 ∷ Read 0x74 0 ∷ Write 0x10 0x700 ∷ Read 0x78 0 ∷ Read 0x80 1 ∷ Read 0x54 0 ∷ []
  -- an abort first seen in `wait_stop_det` wins, and CLR_STOP_DET is still read
  pub late_abort : ((left async 0x50 (write (0x11 ∷ [])) (0 ∷ 0x1000 ∷ 0 ∷ 0 ∷ [])).answer ≡ Answered (Refused (Abort ArbitrationLoss)))
      × ((left async 0x50 (write (0x11 ∷ [])) (0 ∷ 0x1000 ∷ 0 ∷ 0 ∷ [])).log
      ≡ Write 0x6C 0 ∷ Write 0x04 0x50 ∷ Write 0x6C 1 ∷ Read 0x74 0 ∷ Write 0x10 0x211 ∷ Read 0x80 0x1000 ∷ Read 0x54 0 ∷ Read 0x60 0 ∷ [])
  -- a level above what was asked for: no more is taken than was asked for
  pub no_more_than_asked : (left async 0x50 (read 1) (0 ∷ 3 ∷ 0 ∷ 0xAA ∷ 0 ∷ 0x200 ∷ 0 ∷ [])).log
      ≡ Write 0x6C 0 ∷ Write 0x04 0x50 ∷ Write 0x6C 1 ∷ Read 0x74 0 ∷ Write 0x10 0x700 ∷ Read 0x78 3 ∷ Read 0x80 0
      ∷ Read 0x10 0xAA ∷ Read 0x80 0 ∷ Read 0x34 0x200 ∷ Read 0x60 0 ∷ []
  -- TXFLR above 16
  pub level_refused : (left async 0x50 (read 1) (17 ∷ [])).answer ≡ Answered (Refused (TxLevelOutOfRange 17))
  -- after a first abort the wait for STOP goes on to RAW_INTR_STAT, whatever the source says then, and the first is answered
  pub first_abort_wins : ((left async 0x50 (read 1) (0 ∷ 0 ∷ 1 ∷ 0 ∷ 0x1000 ∷ 0 ∷ 0x200 ∷ 0 ∷ [])).answer
      ≡ Answered (Refused (Abort NoAcknowledge)))
      × ((left async 0x50 (read 1) (0 ∷ 0 ∷ 1 ∷ 0 ∷ 0x1000 ∷ 0 ∷ 0x200 ∷ 0 ∷ [])).log
      ≡ Write 0x6C 0 ∷ Write 0x04 0x50 ∷ Write 0x6C 1 ∷ Read 0x74 0 ∷ Write 0x10 0x700 ∷ Read 0x78 0 ∷ Read 0x80 1 ∷ Read 0x54 0
      ∷ Read 0x80 0x1000 ∷ Read 0x54 0 ∷ Read 0x34 0x200 ∷ Read 0x60 0 ∷ [])
  -- a wait for STOP that is not over unmasks STOP_DET and TX_ABRT
  pub stop_awaited : (left async 0x50 (write (0x11 ∷ [])) (0 ∷ 0 ∷ 0 ∷ 0 ∷ [])).log
      ≡ Write 0x6C 0 ∷ Write 0x04 0x50 ∷ Write 0x6C 1 ∷ Read 0x74 0 ∷ Write 0x10 0x211 ∷ Read 0x80 0 ∷ Read 0x34 0
      ∷ Read 0x30 0 ∷ Write 0x30 0x240 ∷ Marked 0 ∷ []
  -- a wait for a free place that is not over sets TX_TL to 1 and unmasks TX_EMPTY and TX_ABRT
  pub place_awaited : (left async 0x50 (write (0x11 ∷ [])) (16 ∷ 0 ∷ 16 ∷ 0 ∷ [])).log
      ≡ Write 0x6C 0 ∷ Write 0x04 0x50 ∷ Write 0x6C 1 ∷ Read 0x74 16 ∷ Read 0x80 0 ∷ Read 0x74 16
      ∷ Write 0x3C 1 ∷ Read 0x30 0 ∷ Write 0x30 0x50 ∷ Marked 0 ∷ []
  -- an empty read is met after `setup`
  pub empty_read : (number (left blocking 0x50 (read 0) []).answer ≡ 7)
      × ((left blocking 0x50 (read 0) []).log ≡ Write 0x6C 0 ∷ Write 0x04 0x50 ∷ Write 0x6C 1 ∷ [])
  pub empty_read_async : (number (left async 0x50 (read 0) []).answer ≡ 7)
      × ((left async 0x50 (read 0) []).log ≡ Write 0x6C 0 ∷ Write 0x04 0x50 ∷ Write 0x6C 1 ∷ [])
  pub empty_write : number (left blocking 0x50 (write []) []).answer ≡ 8

pub corners : Corners
unfolding outcome turns rounds setup tx_fifo_capacity tx_fifo_full rx_fifo_len read_and_clear_abort_reason
    read_blocking_bytes read_blocking_internal write_blocking_bytes write_blocking_internal wait_stop_det
    queue_batch
    fetch_bytes read_async_internal fill write_async_internal each_operation blocking_read blocking_write
    blocking_write_read blocking_transaction read_async write_async write_read_async transaction_async signs
    written_to set_field
corners = record {
  two_bytes = (refl, refl);
  two_bytes_async = (refl, refl);
  three_rounds = (refl, refl);
  three_bytes = refl;
  two_counts = (refl, refl);
  pending_poll = refl;
  exact_fill = (refl, refl);
  write_read_pair = (refl, refl);
  transaction_pair = (refl, refl);
  second_read_behind = refl;
  data_not_acknowledged = (refl, refl, refl);
  first_word_decides = refl;
  read_not_acknowledged = refl;
  late_abort = (refl, refl);
  no_more_than_asked = refl;
  level_refused = refl;
  first_abort_wins = (refl, refl);
  stop_awaited = refl;
  place_awaited = refl;
  empty_read = (refl, refl);
  empty_read_async = (refl, refl);
  empty_write = refl;
}

-- number 20, and operations by kinds and lengths
pub record Limits : Type 0 where
  -- 4,096 bytes are read, 4,097 are not, whatever the address
  pub most_bytes : fits 4096 ≡ true
  pub too_many_bytes : ((outcome Answered LogFull OutOfReadings (behaviour (read_call blocking 0x80 4097) 100) 100 []
      [] tt).answer
      ≡ Answered (Refused OverLimits))
      × ((outcome Answered LogFull OutOfReadings (behaviour (read_call blocking 0x80 4097) 100) 100 [] [] tt).log ≡ [])
  -- a write's bytes come from the front of those that are left
  pub operations : listed {B = ℕ} (WRITE ∷ READ ∷ WRITE ∷ []) (1 ∷ 3 ∷ 2 ∷ []) (0x11 ∷ 0x22 ∷ 0x33 ∷ [])
      ≡ writes (0x11 ∷ []) ∷ reads 3 ∷ writes (0x22 ∷ 0x33 ∷ []) ∷ []
  pub add_up : lists (WRITE ∷ READ ∷ WRITE ∷ []) (1 ∷ 3 ∷ 2 ∷ []) 3 3 ≡ true
  -- lengths that do not add up to either buffer, counts that differ, a kind that is neither
  pub write_too_long : lists (WRITE ∷ READ ∷ WRITE ∷ []) (1 ∷ 3 ∷ 2 ∷ []) 4 3 ≡ false
  pub read_too_short : lists (WRITE ∷ READ ∷ WRITE ∷ []) (1 ∷ 3 ∷ 2 ∷ []) 3 2 ≡ false
  pub one_length_less : lists (WRITE ∷ READ ∷ []) (1 ∷ []) 1 0 ≡ false
  pub no_kind : lists (2 ∷ []) (0 ∷ []) 0 0 ≡ false
  -- 64 operations, and 65
  pub most_operations : lists (replicate 64 READ) (replicate 64 64) 0 4096 ≡ true
  pub too_many_operations : lists (replicate 65 READ) (replicate 65 1) 0 65 ≡ false

pub limits : Limits
unfolding outcome listed total known
limits = record {
  most_bytes = refl;
  too_many_bytes = (refl, refl);
  operations = refl;
  add_up = refl;
  write_too_long = refl;
  read_too_short = refl;
  one_length_less = refl;
  no_kind = refl;
  most_operations = refl;
  too_many_operations = refl;
}

-- what happens without demand 3's premises, beside what proofs/Needed.antt refutes
pub record Without : Type 0 where
  -- a number that is no byte: 0x100 written is a read word
  pub no_byte : Makes (left blocking 0x50 (write (0x100 ∷ [])) (0x10 ∷ 0 ∷ 0x200 ∷ 0 ∷ []))
      (Start ∷ Address 0xA1 ∷ ReadSlot ∷ Stop ∷ [])
  -- an empty async write at the end: no STOP is asked for, and one is waited for
  pub empty_last : Makes (left async 0x50 (transaction (reads 1 ∷ writes [] ∷ [])) (0 ∷ 1 ∷ 0 ∷ 0xAA ∷ 0 ∷ 0 ∷ 0x200 ∷ 0 ∷ []))
      (Start ∷ Address 0xA1 ∷ ReadSlot ∷ [])
  -- an async write of nothing: accepted, nothing on the bus
  pub empty_alone : Makes (left async 0x50 (write []) (0 ∷ 0 ∷ 0x200 ∷ 0 ∷ [])) []
  -- no operations: the blocking form runs `setup`, the async form makes no access, whatever the address
  pub no_operations : (left blocking 0x50 (transaction []) []).log ≡ Write 0x6C 0 ∷ Write 0x04 0x50 ∷ Write 0x6C 1 ∷ []
  pub no_operations_async : (address : ℕ)
      → ((left async address (transaction []) []).answer ≡ Answered Accepted)
      × ((left async address (transaction []) []).log ≡ [])

pub without : Without
unfolding outcome turns rounds setup tx_fifo_capacity tx_fifo_full rx_fifo_len read_and_clear_abort_reason
    read_blocking_bytes read_blocking_internal write_blocking_bytes write_blocking_internal wait_stop_det
    queue_batch
    fetch_bytes read_async_internal fill write_async_internal each_operation blocking_read blocking_write
    blocking_write_read blocking_transaction read_async write_async write_read_async transaction_async signs
    written_to
without = record {
  no_byte = (refl, refl);
  empty_last = (refl, refl);
  empty_alone = (refl, refl);
  no_operations = refl;
  no_operations_async = λ address. (refl, refl);
}
