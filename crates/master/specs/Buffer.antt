-- What any of the calls leaves of the lent read buffer, whatever it answers: the bytes that it read from DATA_CMD, in
-- order, then the rest as it was. Aborts, a log that is full and readings used up are among the answers.
use Rattle.std.specs.Prelude.{ℕ, ◌+◌, ◌≤◌, true, ◌&&◌, List, ◌++◌, ◌≡◌, length, take, drop, if◌then◌else◌}
use Rattle.regs.specs.Program.{Outcome}
use Rattle.regs.specs.Left.{bytes_read}
use Rattle.regs.specs.declared.answers.Reply.{Reply}
use Rattle.master.specs.Coded.{ends_in_read}
use Rattle.master.specs.Calls.{Call, Plain, buffer_in, operations_in, left_by_call}

pub record Received (before : List ℕ) (o : Outcome (Unit {0}) Reply) : Type 0 where
  -- no byte is read for which there is no place
  pub places : length (bytes_read o.log) ≤ length before
  pub buffer : o.buffer ≡ bytes_read o.log ++ drop (length (bytes_read o.log)) before

abbrev pub BytesReceived : Type 0
BytesReceived = (c : Call) → Plain c → (log readings : List ℕ) → Received (buffer_in c.lent) (left_by_call c log readings)

-- the codes that a call reads at most: one, where it has a packet error code and ends in a read
abbrev pub most_codes : Call → ℕ
most_codes c = if c.pec && ends_in_read (operations_in c.lent) then 1 else 0

-- With a packet error code the buffer is for the data. The byte past them is the code, and has no place.
pub record DataReceived (codes : ℕ) (before : List ℕ) (o : Outcome (Unit {0}) Reply) : Type 0 where
  pub places : length (bytes_read o.log) ≤ length before + codes
  pub buffer : o.buffer ≡ take (length before) (bytes_read o.log) ++ drop (length (bytes_read o.log)) before

abbrev pub CodedReceived : Type 0
CodedReceived = (c : Call) → c.pec ≡ true
    → (log readings : List ℕ)
    → DataReceived (most_codes c) (buffer_in c.lent) (left_by_call c log readings)
