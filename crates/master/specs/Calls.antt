-- The calls as they are made, eight plain ones and eight with a packet error code: what is lent to each, the program that
-- it runs and the operations that it asks for.
use Rattle.std.specs.Prelude.{ℕ, Bool, true, false, ◌&&◌, List, [], ◌≡◌, length}
use Rattle.regs.specs.Program.{Outcome}
use Rattle.regs.specs.Log.{expected}
use Rattle.regs.specs.declared.answers.Answer.{Answer}
use Rattle.regs.specs.declared.answers.Reply.{Reply}
use Rattle.master.specs.Driver.{Driver, reason_of}
use Rattle.master.specs.Operations.{Operation, Transfer, read, write, write_read, transaction}
use Rattle.master.specs.Operations.{Mode, operations_of, listed, fits, lists}
use Rattle.master.specs.Transfer.{transfer, within, read_call, write_call, write_read_call, transaction_call}
use Rattle.master.specs.Coded.{coded}

-- what is lent: the buffer to read into, the bytes to write, or both; a transaction's
-- operations are listed by kinds and lengths beside the bytes and the buffer
pub data Lent : Type 0 where
  reads_into : (buffer : List ℕ) → Lent
  writes_from : (bytes : List ℕ) → Lent
  writes_then_reads : (bytes buffer : List ℕ) → Lent
  transacts : (kinds lengths bytes buffer : List ℕ) → Lent

pub record Call : Type 0 where
  pub mode : Mode
  pub address : ℕ
  pub lent : Lent
  -- whether it has a packet error code
  pub pec : Bool

-- the plain calls
abbrev pub program_of : Mode → ℕ → Lent → Driver Answer
program_of mode address (reads_into buffer) = read_call mode address (length buffer)
program_of mode address (writes_from bytes) = write_call mode address bytes
program_of mode address (writes_then_reads bytes buffer) = write_read_call mode address bytes (length buffer)
program_of mode address (transacts kinds lengths bytes buffer) = transaction_call mode address kinds lengths bytes (length buffer)

-- what is lent keeps to the limits: else the call is number 20
abbrev pub within_limits : Lent → Bool
within_limits (reads_into buffer) = fits (length buffer)
within_limits (writes_from bytes) = fits (length bytes)
within_limits (writes_then_reads bytes buffer) = fits (length bytes) && fits (length buffer)
within_limits (transacts kinds lengths bytes buffer) = lists kinds lengths (length bytes) (length buffer)

-- what is lent as the arguments of a transfer
abbrev pub arguments : Lent → Transfer ℕ
arguments (reads_into buffer) = read (length buffer)
arguments (writes_from bytes) = write bytes
arguments (writes_then_reads bytes buffer) = write_read bytes (length buffer)
arguments (transacts kinds lengths bytes buffer) = transaction (listed kinds lengths bytes)

-- each plain call is the transfer on these arguments, within its limits
abbrev pub SameArguments : Type 0
SameArguments = (mode : Mode) (address : ℕ) (lent : Lent)
    → program_of mode address lent ≡ within (within_limits lent) (transfer reason_of mode address (arguments lent))

-- with a packet error code the limits are those of the data alone
abbrev pub program_by : Bool → Mode → ℕ → Lent → Driver Answer
program_by false mode address lent = program_of mode address lent
program_by true mode address lent = within (within_limits lent) (coded reason_of mode address (arguments lent))

abbrev pub program : Call → Driver Answer
program c = program_by c.pec c.mode c.address c.lent

-- a call without a packet error code
abbrev pub Plain : Call → Type 0
Plain c = c.pec ≡ false

-- the read buffer; a write has none
abbrev pub buffer_in : Lent → List ℕ
buffer_in (reads_into buffer) = buffer
buffer_in (writes_from bytes) = []
buffer_in (writes_then_reads bytes buffer) = buffer
buffer_in (transacts kinds lengths bytes buffer) = buffer

-- the bytes to write; a read has none
abbrev pub bytes_in : Lent → List ℕ
bytes_in (reads_into buffer) = []
bytes_in (writes_from bytes) = bytes
bytes_in (writes_then_reads bytes buffer) = bytes
bytes_in (transacts kinds lengths bytes buffer) = bytes

-- the one read or write, a write-read's write and then its read, or a transaction's as listed; a code is not among them
abbrev pub operations_in : Lent → List (Operation ℕ)
operations_in lent = operations_of (arguments lent)

-- what a call leaves, on a lent log and a list of readings
abbrev pub left_by_call : Call → List ℕ → List ℕ → Outcome (Unit {0}) Reply
left_by_call c log readings = expected (program c) log readings (buffer_in c.lent) tt
