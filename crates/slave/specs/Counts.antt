-- What holds of every slave call, over the log, the buffer and the state that it leaves: lengths and counts are true.
use Rattle.std.specs.Prelude.{ℕ, ◌<◌, List, [], ◌∷◌, ◌++◌, ◌≡◌, Bool, true, false, ◌||◌, ◌⊎◌, ◌≢◌, eqb, length, take, drop, replicate, if◌then◌else◌, option_to_list}
use Rattle.regs.specs.Registers.{DATA_CMD, TX_ABRT_SOURCE, CLR_RX_DONE, CLR_INTR}
use Rattle.regs.specs.Fields.{tx_flush_cnt}
use Rattle.regs.specs.Left.{Stored}
use Rattle.regs.specs.Program.{Outcome}
use Rattle.regs.specs.Log.{expected}
use Rattle.regs.specs.declared.access.Entry.{Entry}
use Rattle.regs.specs.declared.access.Entry.TheVariants as E
use Rattle.regs.specs.declared.answers.AbortReason.TheVariants.{TxNotEmpty}
use Rattle.regs.specs.declared.answers.Command.TheVariants.{GeneralCall, Read, WriteRead, Write}
use Rattle.regs.specs.declared.answers.ReadStatus.TheVariants.{Done, NeedMoreBytes, LeftoverBytes}
use Rattle.regs.specs.declared.answers.Answer.{Answer}
use Rattle.regs.specs.declared.answers.Answer.TheVariants.{Accepted, Heard, Responded, Refused}
use Rattle.regs.specs.declared.answers.Refusal.TheVariants.{PartialWrite, PartialGeneralCall, NoPlaceForPending, OverLimits}
use Rattle.regs.specs.declared.answers.Reply.{Reply}
use Rattle.regs.specs.declared.answers.Reply.TheVariants.{Answered, OutOfReadings, LogFull}
use Rattle.slave.specs.I2cSlave.{FIFO_SIZE, abort_reason, respond_to_read_call}
use Rattle.slave.specs.I2cSlave.{respond_till_stop_call, respond_and_fill_call}
use Rattle.slave.specs.Calls.{listens, left_by_call}
use Rattle.slave.specs.declared.SlaveState.{SlaveState}

-- ---- listen

-- the byte that the driver keeps, if any
abbrev pub kept : SlaveState → List ℕ
kept me = option_to_list me.pending_byte

-- The answers of `listen`, and the number of bytes stored with each in a buffer of so many. Read counts none, though
-- some may be stored (docs/DIFFERENCES.md). 18 and 19 count none either: `Stored` below says how many it is then.
pub data Tells (size : ℕ) : Reply → ℕ → Type 0 where
  general_call : {k : ℕ} → 0 < k → k < size → Tells size (Answered (Heard (GeneralCall k))) k
  read : {k : ℕ} → k < size → Tells size (Answered (Heard Read)) k
  write_read : {k : ℕ} → k < size → Tells size (Answered (Heard (WriteRead k))) k
  write : {k : ℕ} → 0 < k → k < size → Tells size (Answered (Heard (Write k))) k
  partial_write : Tells size (Answered (Refused (PartialWrite size))) size
  partial_general_call : Tells size (Answered (Refused (PartialGeneralCall size))) size
  no_place : Tells size (Answered (Refused NoPlaceForPending)) 0
  over_limits : Tells size (Answered (Refused OverLimits)) 0
  out_of_readings : {k : ℕ} → Tells size OutOfReadings k
  log_full : {k : ℕ} → Tells size LogFull k

-- Whatever `listen` answers: the kept byte, then the bytes read from DATA_CMD in order, are the first `count` bytes
-- of the buffer and the byte kept then; the rest of the buffer is as it was; and the answer is one of those with that count.
pub record Conserved (before : List ℕ) (me : SlaveState) (o : Outcome SlaveState Reply) : Type 0 where
  pub count : ℕ
  pub stored : Stored kept count before me o
  pub told : Tells (length before) o.answer count

abbrev pub ListenConserves : Type 0
ListenConserves = (buffer log readings : List ℕ) (me : SlaveState) → Conserved buffer me (left_by_call (listens buffer) log readings me)

-- ---- the responses

-- the words that a log writes to DATA_CMD, in order
abbrev pub words_sent : List Entry → List ℕ
words_sent [] = []
words_sent (E.Read r v ∷ es) = words_sent es
words_sent (E.Write r v ∷ es) = if eqb r DATA_CMD then v ∷ words_sent es else words_sent es
words_sent (E.Marked x ∷ es) = words_sent es

-- a word more in the first poll
abbrev pub sent_first : ℕ → List (List ℕ) → List (List ℕ)
sent_first v [] = (v ∷ []) ∷ []
sent_first v (ws ∷ polls) = (v ∷ ws) ∷ polls

-- the words that each poll writes there: a mark ends a poll
abbrev pub words_by_poll : List Entry → List (List ℕ)
words_by_poll [] = [] ∷ []
words_by_poll (E.Read r v ∷ es) = words_by_poll es
words_by_poll (E.Write r v ∷ es) = if eqb r DATA_CMD then sent_first v (words_by_poll es) else words_by_poll es
words_by_poll (E.Marked x ∷ es) = [] ∷ words_by_poll es

-- the first poll sends this chunk, or a part of it where the call stops there, and each poll after it the next
-- chunk of the bytes that are left
abbrev pub InChunks : List ℕ → List ℕ → List (List ℕ) → Type 0
InChunks chunk rest [] = Unit {0}
InChunks chunk rest (ws ∷ []) = ws ≡ take (length ws) chunk
InChunks chunk rest (ws ∷ (next ∷ polls)) = (ws ≡ chunk) × InChunks (take FIFO_SIZE rest) (drop FIFO_SIZE rest) (next ∷ polls)

abbrev pub OneChunkAPoll : Type 0
OneChunkAPoll =
    (bytes log readings : List ℕ) (me : SlaveState)
    → InChunks (take FIFO_SIZE bytes) (drop FIFO_SIZE bytes) (words_by_poll (expected (respond_to_read_call bytes) log readings [] me).log)

-- the words are the first of these bytes, in order
pub record SentOf (bytes : List ℕ) (o : Outcome SlaveState Reply) : Type 0 where
  pub unsent : List ℕ
  pub order : words_sent o.log ++ unsent ≡ bytes

abbrev pub BytesInOrder : Type 0
BytesInOrder = (bytes log readings : List ℕ) (me : SlaveState) → SentOf bytes (expected (respond_to_read_call bytes) log readings [] me)

-- all of them where the response is done, or needs more
abbrev pub AllSent : Type 0
AllSent =
    (bytes log readings : List ℕ) (me : SlaveState)
    → (((expected (respond_to_read_call bytes) log readings [] me).answer ≡ Answered (Responded Done))
    ⊎ ((expected (respond_to_read_call bytes) log readings [] me).answer ≡ Answered (Responded NeedMoreBytes)))
    → words_sent (expected (respond_to_read_call bytes) log readings [] me).log ≡ bytes

-- the bytes first, then fill bytes alone
pub record SentFilled (bytes : List ℕ) (fill : ℕ) (o : Outcome SlaveState Reply) : Type 0 where
  pub fills : ℕ
  pub unsent : List ℕ
  pub order : words_sent o.log ++ unsent ≡ bytes ++ replicate fills fill

abbrev pub FillsAfterBytes : Type 0
FillsAfterBytes = (bytes : List ℕ) (fill : ℕ) (log readings : List ℕ) (me : SlaveState)
    → SentFilled bytes fill (expected (respond_and_fill_call bytes fill) log readings [] me)

abbrev pub FillsAlone : Type 0
FillsAlone = (fill : ℕ) (log readings : List ℕ) (me : SlaveState)
    → SentFilled [] fill (expected (respond_till_stop_call fill) log readings [] me)

-- the last access cleared RX_DONE or, where bytes were left over, all flags: the master has stopped
abbrev pub ends_at_stop : List Entry → Bool
ends_at_stop [] = false
ends_at_stop (E.Read r v ∷ []) = eqb r CLR_RX_DONE || eqb r CLR_INTR
ends_at_stop (E.Write r v ∷ []) = false
ends_at_stop (E.Marked x ∷ []) = false
ends_at_stop (e ∷ (next ∷ es)) = ends_at_stop (next ∷ es)

-- a fill does not answer that more bytes are needed, nor does it end well before the master has stopped
pub record FilledTillStop (well : Answer) (o : Outcome SlaveState Reply) : Type 0 where
  pub never_more : o.answer ≢ Answered (Responded NeedMoreBytes)
  pub stopped : o.answer ≡ Answered well → ends_at_stop o.log ≡ true

abbrev pub FillsTillStop : Type 0
FillsTillStop = (fill : ℕ) (log readings : List ℕ) (me : SlaveState)
    → FilledTillStop Accepted (expected (respond_till_stop_call fill) log readings [] me)

abbrev pub FillsUpTillStop : Type 0
FillsUpTillStop = (bytes : List ℕ) (fill : ℕ) (log readings : List ℕ) (me : SlaveState)
    → FilledTillStop (Responded Done) (expected (respond_and_fill_call bytes fill) log readings [] me)

-- the last reading of a register, or v where there is none
abbrev pub last_read : ℕ → ℕ → List Entry → ℕ
last_read register v [] = v
last_read register v (E.Read r w ∷ es) = last_read register (if eqb r register then w else v) es
last_read register v (E.Write r w ∷ es) = last_read register v es
last_read register v (E.Marked x ∷ es) = last_read register v es

-- LeftoverBytes is the flush count of the abort source that was read last, which named no other reason
pub record Leftover (n : ℕ) (o : Outcome SlaveState Reply) : Type 0 where
  pub count : n ≡ tx_flush_cnt (last_read TX_ABRT_SOURCE 0 o.log)
  pub reason : abort_reason (last_read TX_ABRT_SOURCE 0 o.log) ≡ TxNotEmpty n

abbrev pub TrueLeftover : Type 0
TrueLeftover =
    (bytes log readings : List ℕ) (me : SlaveState) (n : ℕ)
    → (expected (respond_to_read_call bytes) log readings [] me).answer ≡ Answered (Responded (LeftoverBytes n))
    → Leftover n (expected (respond_to_read_call bytes) log readings [] me)

abbrev pub TrueLeftoverFilled : Type 0
TrueLeftoverFilled =
    (bytes : List ℕ) (fill : ℕ) (log readings : List ℕ) (me : SlaveState) (n : ℕ)
    → (expected (respond_and_fill_call bytes fill) log readings [] me).answer
    ≡ Answered (Responded (LeftoverBytes n))
    → Leftover n (expected (respond_and_fill_call bytes fill) log readings [] me)
