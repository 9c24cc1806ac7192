-- Transfers with a packet error code (SMBus). They stand beside the plain ones, and their public names end in `_pec`.
-- The last operation is one byte longer; that byte is the code, a CRC-8 over every byte of the message. Where the last
-- operation is a write it is sent, where it is a read it is fetched and tested. Without operations there is no code.
use Rattle.std.specs.Prelude.{ℕ, zero, suc, ◌+◌, Bool, true, false, not, ◌&&◌, ◌||◌, List, [], ◌∷◌, ◌++◌, eqb, ltb, get_or, if◌then◌else◌}
use Rattle.crc8.specs.Crc8.{crc8}
use Rattle.regs.specs.declared.answers.Answer.{Answer}
use Rattle.regs.specs.declared.answers.Answer.TheVariants.{Accepted, Heard, Responded, Refused}
use Rattle.regs.specs.declared.answers.Refusal.TheVariants.{InvalidWriteBufferLength, WrongPacketErrorCode}
use Rattle.regs.specs.Registers.{DATA_CMD}
use Rattle.regs.specs.Fields.{command_word, cmd, stop}
use Rattle.regs.specs.Left.{bytes_read}
use Rattle.regs.specs.Program.{◌>>◌, return, exit, skip, when}
use Rattle.regs.specs.Watched.{Watcher, watched}
use Rattle.bus.specs.declared.Sign.{Sign}
use Rattle.bus.specs.declared.Sign.TheVariants.{Start, Restart, Stop, Address, Written, ReadSlot}
use Rattle.master.specs.Driver.{Driver, Reasons, setup}
use Rattle.master.specs.Async.{is_empty}
use Rattle.master.specs.Operations.{Operation, writes, reads, Mode, blocking, async}
use Rattle.master.specs.Operations.{Transfer, read, write, write_read, transaction, operations_of}
use Rattle.master.specs.Sequence.{joined, sequence}
use Rattle.master.specs.Transfer.{read_internal, write_internal}

-- ---- the code

-- the bytes of a bus sequence in order, address bytes included; the byte of a read slot is the next one that came, and a
-- slot for which none came has no byte
unfoldable pub message : List Sign → List ℕ → List ℕ
message [] came = []
message (Start ∷ ss) came = message ss came
message (Restart ∷ ss) came = message ss came
message (Stop ∷ ss) came = message ss came
message (Address a ∷ ss) came = a ∷ message ss came
message (Written b ∷ ss) came = b ∷ message ss came
message (ReadSlot ∷ ss) [] = message ss []
message (ReadSlot ∷ ss) (b ∷ came) = b ∷ message ss came

-- the code of a transfer, by what was asked and the bytes that came: so neighbouring operations of one direction have
-- one address byte, and a write after reads has a code over the bytes that were read
abbrev pub code_of : ℕ → List (Operation ℕ) → List ℕ → ℕ
code_of address os came = crc8 (message (sequence address (joined os)) came)

-- ---- one byte longer

-- an operation with a byte more, b where it is written; an empty one stays empty and is refused where it is reached
abbrev pub longer : ℕ → Operation ℕ → Operation ℕ
longer b (writes []) = writes []
longer b (writes (x ∷ xs)) = writes (x ∷ (xs ++ b ∷ []))
longer b (reads zero) = reads zero
longer b (reads (suc n)) = reads (suc (suc n))

-- the last operation is the longer one
unfoldable pub with_code : ℕ → List (Operation ℕ) → List (Operation ℕ)
with_code b [] = []
with_code b (o ∷ []) = longer b o ∷ []
with_code b (o ∷ (p ∷ os)) = o ∷ with_code b (p ∷ os)

-- ---- what becomes of the longer transfer

-- the data bytes that operations read
unfoldable pub room_of : List (Operation ℕ) → ℕ
room_of [] = 0
room_of (writes bytes ∷ os) = room_of os
room_of (reads n ∷ os) = n + room_of os

unfoldable pub ends_in_read : List (Operation ℕ) → Bool
ends_in_read [] = false
ends_in_read (writes bytes ∷ []) = false
ends_in_read (reads n ∷ []) = true
ends_in_read (o ∷ (p ∷ os)) = ends_in_read (p ∷ os)

-- 22 comes only where the plain transfer is accepted, so after all aborts
abbrev pub tested : Bool → Answer → Answer
tested right Accepted = if right then Accepted else Refused WrongPacketErrorCode
tested right (Heard c) = Heard c
tested right (Responded s) = Responded s
tested right (Refused why) = Refused why

-- of a last read, the byte that came after the data is compared with the code
abbrev pub is_right : ℕ → List (Operation ℕ) → List ℕ → Bool
is_right address os came = not (ends_in_read os) || eqb (get_or came (room_of os) 0) (code_of address os came)

-- Where the last operation is a write, its last word, the one with STOP, carries the code. There is no place for a code in
-- the buffer.
abbrev pub coder : ℕ → List (Operation ℕ) → Watcher
coder address os = record {
  value = λ log r w. if eqb r DATA_CMD && (stop w && not (cmd w))
      then command_word (code_of address os (bytes_read log)) false true false else w;
  told = λ log a. tested (is_right address os (bytes_read log)) a;
  has_place = λ i. ltb i (room_of os);
}

-- ---- the transfer

-- the operations one after the other, as in the plain transfers, but that an empty write is refused in both modes
unfoldable pub each_coded : Reasons → Mode → Bool → ℕ → List (Operation ℕ) → Driver (Unit {0})
each_coded reason mode restart offset [] = skip
each_coded reason mode restart offset (reads len ∷ os) = do
  read_internal reason mode offset len restart (is_empty os)
  each_coded reason mode restart (offset + len) os
each_coded reason mode restart offset (writes bytes ∷ os) = do
  when (is_empty bytes) (exit (Refused InvalidWriteBufferLength))
  write_internal reason mode bytes (is_empty os)
  each_coded reason mode restart offset os

abbrev pub is_blocking : Mode → Bool
is_blocking blocking = true
is_blocking async = false

-- an async transfer without operations does not set up, as in the Rust
unfoldable pub longer_transfer : Reasons → Mode → Bool → ℕ → List (Operation ℕ) → Driver Answer
longer_transfer reason mode restart address os = do
  when (is_blocking mode || not (is_empty os)) (setup address)
  each_coded reason mode restart 0 os
  return Accepted

-- the reads of a transaction do not ask for RESTART
abbrev pub restarts : {B : Type 0} → Transfer B → Bool
restarts (read len) = true
restarts (write bytes) = true
restarts (write_read bytes len) = true
restarts (transaction os) = false

-- 0 stands where the code goes
abbrev pub coded : Reasons → Mode → ℕ → Transfer ℕ → Driver Answer
coded reason mode address t =
    watched (coder address (operations_of t)) (longer_transfer reason mode (restarts t) address (with_code 0 (operations_of t)))
