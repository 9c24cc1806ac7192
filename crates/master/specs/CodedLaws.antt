-- What holds of every transfer with a packet error code, over what it leaves.
use Rattle.std.specs.Prelude.{ℕ, zero, suc, ◌^◌, ◌<◌, Bool, true, List, [], ◌∷◌, ◌++◌, ◌≢◌, ◌≡◌, eqb, length, get_or, if◌then◌else◌}
use Rattle.std.specs.Int.Bits.{bit_xor}
use Rattle.crc8.specs.Crc8.{crc8}
use Rattle.crc8.specs.Laws.{flipped}
use Rattle.regs.specs.declared.answers.Answer.TheVariants.{Accepted, Refused}
use Rattle.regs.specs.declared.answers.Refusal.TheVariants.{InvalidWriteBufferLength, WrongPacketErrorCode}
use Rattle.regs.specs.declared.answers.Reply.{Reply}
use Rattle.regs.specs.declared.answers.Reply.TheVariants.{Answered, OutOfReadings, LogFull}
use Rattle.regs.specs.Left.{bytes_read}
use Rattle.regs.specs.Log.{Each, expected}
use Rattle.regs.specs.Program.{Outcome}
use Rattle.regs.specs.Answers.{number}
use Rattle.bus.specs.declared.Sign.{Sign}
use Rattle.bus.specs.declared.Sign.TheVariants.{Start, Restart, Stop, Address, Written, ReadSlot}
use Rattle.master.specs.Driver.{reason_of}
use Rattle.master.specs.Operations.{Operation, writes, reads, Mode}
use Rattle.master.specs.Operations.{Transfer, read, write, write_read, transaction, operations_of}
use Rattle.master.specs.Transfer.{transfer}
use Rattle.master.specs.Demand3.{NotEmpty}
use Rattle.master.specs.Coded.{message, code_of, with_code, room_of, ends_in_read, tested, is_right, coded}

-- what a coded and what a plain transfer leaves
abbrev pub coded_left : Mode → ℕ → Transfer ℕ → List ℕ → List ℕ → List ℕ → Outcome (Unit {0}) Reply
coded_left mode address t log readings buffer = expected (coded reason_of mode address t) log readings buffer tt

abbrev pub plain_left : Mode → ℕ → Transfer ℕ → List ℕ → List ℕ → List ℕ → Outcome (Unit {0}) Reply
plain_left mode address t log readings buffer = expected (transfer reason_of mode address t) log readings buffer tt

-- the bytes to write are bytes
abbrev pub Small : Operation ℕ → Type 0
Small (writes bytes) = Each (λ b. b < 256) bytes
Small (reads n) = Unit {0}

-- ---- every operation has data

-- the same form with its last operation one byte longer
abbrev pub one_more : ℕ → ℕ
one_more zero = zero
one_more (suc n) = suc (suc n)

abbrev pub longer_form : ℕ → Transfer ℕ → Transfer ℕ
longer_form c (read len) = read (one_more len)
longer_form c (write []) = write []
longer_form c (write (x ∷ xs)) = write (x ∷ (xs ++ c ∷ []))
longer_form c (write_read bytes len) = write_read bytes (one_more len)
longer_form c (transaction os) = transaction (with_code c os)

abbrev pub tested_reply : Bool → Reply → Reply
tested_reply right (Answered a) = Answered (tested right a)
tested_reply right OutOfReadings = OutOfReadings
tested_reply right LogFull = LogFull

-- the accesses and the buffer are those of the plain transfer on the longer operations, and so is the
-- answer, but for 22
pub record LongerLeft (address : ℕ) (os : List (Operation ℕ)) (o p : Outcome (Unit {0}) Reply) : Type 0 where
  pub log : o.log ≡ p.log
  pub buffer : o.buffer ≡ p.buffer
  pub answer : o.answer ≡ tested_reply (is_right address os (bytes_read o.log)) p.answer

-- the byte that a longer write sends last is the code over the bytes that this run read
abbrev pub AsLonger : Type 0
AsLonger = (mode : Mode) (address : ℕ) (t : Transfer ℕ) (log readings buffer : List ℕ)
    → Each NotEmpty (operations_of t)
    → Each Small (operations_of t)
    → length buffer ≡ room_of (operations_of t)
    → LongerLeft address (operations_of t) (coded_left mode address t log readings buffer)
    (plain_left mode address
    (longer_form (code_of address (operations_of t) (bytes_read (coded_left mode address t log readings buffer).log)) t)
    log readings buffer)

-- where the last operation is a read, the data and one byte more came, and that byte is tested: it is the code, or 22 is
-- answered
pub record ReadTested (address : ℕ) (os : List (Operation ℕ)) (o : Outcome (Unit {0}) Reply) : Type 0 where
  pub came : length (bytes_read o.log) ≡ suc (room_of os)
  pub answer : o.answer
      ≡ Answered (if eqb (get_or (bytes_read o.log) (room_of os) 0) (code_of address os (bytes_read o.log))
      then Accepted else Refused WrongPacketErrorCode)

-- so it is wherever the plain transfer, one byte longer, is accepted
abbrev pub CodeTested : Type 0
CodeTested = (mode : Mode) (address : ℕ) (t : Transfer ℕ) (log readings buffer : List ℕ)
    → Each NotEmpty (operations_of t)
    → Each Small (operations_of t)
    → length buffer ≡ room_of (operations_of t)
    → ends_in_read (operations_of t) ≡ true
    → (plain_left mode address (longer_form 0 t) log readings buffer).answer ≡ Answered Accepted
    → ReadTested address (operations_of t) (coded_left mode address t log readings buffer)

-- ---- an operation is empty

-- 7 told as 8
abbrev pub eight_reply : Reply → Reply
eight_reply r = if eqb (number r) 7 then Answered (Refused InvalidWriteBufferLength) else r

abbrev pub told_eight : Outcome (Unit {0}) Reply → Outcome (Unit {0}) Reply
told_eight o = record { answer = eight_reply o.answer; log = o.log; buffer = o.buffer; state = o.state }

-- a coded transfer whose first empty operation is a read leaves exactly what the plain one leaves: 7 where the empty read
-- is reached
abbrev pub EmptyRead : Type 0
EmptyRead = (mode : Mode) (address : ℕ) (t : Transfer ℕ) (before after : List (Operation ℕ)) (log readings buffer : List ℕ)
    → operations_of t ≡ before ++ reads 0 ∷ after
    → Each NotEmpty before
    → Each Small before
    → coded_left mode address t log readings buffer ≡ plain_left mode address t log readings buffer

-- one whose first empty operation is a write leaves what a plain transaction leaves that has an empty read there, but
-- that the number is 8
abbrev pub EmptyWrite : Type 0
EmptyWrite = (mode : Mode) (address : ℕ) (t : Transfer ℕ) (before after : List (Operation ℕ)) (log readings buffer : List ℕ)
    → operations_of t ≡ before ++ writes [] ∷ after
    → Each NotEmpty before
    → Each Small before
    → coded_left mode address t log readings buffer
    ≡ told_eight (plain_left mode address (transaction (before ++ reads 0 ∷ after)) log readings buffer)

-- ---- the code

-- the read slots of a sequence
unfoldable pub slots : List Sign → ℕ
slots [] = 0
slots (Start ∷ ss) = slots ss
slots (Restart ∷ ss) = slots ss
slots (Stop ∷ ss) = slots ss
slots (Address a ∷ ss) = slots ss
slots (Written b ∷ ss) = slots ss
slots (ReadSlot ∷ ss) = suc (slots ss)

-- a bit that is flipped on the bus changes the code: of an address byte, of a written byte, of a byte that is read
pub record FlipSeen : Type 0 where
  pub in_address : (before after : List Sign) (came : List ℕ) (a k : ℕ) → k < 8
      → crc8 (message (before ++ Address (bit_xor a (2 ^ k)) ∷ after) came)
      ≢ crc8 (message (before ++ Address a ∷ after) came)
  pub in_written : (before after : List Sign) (came : List ℕ) (b k : ℕ) → k < 8
      → crc8 (message (before ++ Written (bit_xor b (2 ^ k)) ∷ after) came)
      ≢ crc8 (message (before ++ Written b ∷ after) came)
  pub in_read : (ss : List Sign) (came : List ℕ) (i k : ℕ) → k < 8 → i < length came → i < slots ss
      → crc8 (message ss (flipped i k came)) ≢ crc8 (message ss came)
