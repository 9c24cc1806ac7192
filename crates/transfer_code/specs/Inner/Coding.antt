-- The code of a transfer operation by operation, as it is computed.
use Rattle.std.specs.Prelude.{ℕ, ◌+◌, ◌*◌, ◌≤◌, List, eqb, take, drop, if◌then◌else◌, Option, None, Some}
use Rattle.crc8.specs.Crc8.{crc8_from}
use Rattle.regs.specs.Fields.{dat}
use Rattle.master.specs.Operations.{READ, WRITE, listed}
use Rattle.master.specs.Coded.{code_of}
use Rattle.master.specs.Inner.Message.{NO_KIND, opened}
use Rattle.transfer.specs.Inner.Operations.{number}
use Rattle.transfer.specs.declared.operations.Direction.{Direction}
use Rattle.transfer.specs.declared.operations.Direction.TheVariants.{Read, Write}
use Rattle.transfer_code.specs.declared.code.Coding.{Coding}
use Rattle.transfer_code.specs.declared.code.Message.{Message}

-- the number of the direction before, or none
abbrev pub last_number : Option Direction → ℕ
last_number None = NO_KIND
last_number (Some direction) = number direction

abbrev pub code_of_message : Message → ℕ
code_of_message m = code_of m.address (listed m.operations.kinds.now m.operations.lengths.now m.write.now) m.read.now

-- the register takes the lower 8 bits of an address byte
abbrev pub low_address : ℕ → ℕ → ℕ
low_address address kind = dat (address * 2 + (if eqb kind WRITE then 0 else 1))

abbrev pub over_nothing : Coding
over_nothing = record { crc = 0; sent = 0; came = 0; last = None }

-- the bytes of an operation are there
abbrev pub Room : Coding → Direction → ℕ → ℕ → ℕ → Type 0
Room c Write n written room = c.sent + n ≤ written
Room c Read n written room = c.came + n ≤ room

-- one operation more
unfoldable pub with_operation : ℕ → Coding → Direction → ℕ → List ℕ → List ℕ → Coding
with_operation address c Write n write read = record {
  crc = crc8_from (crc8_from c.crc (opened address (last_number c.last) WRITE)) (take n (drop c.sent write));
  sent = c.sent + n;
  came = c.came;
  last = Some Write;
}
with_operation address c Read n write read = record {
  crc = crc8_from (crc8_from c.crc (opened address (last_number c.last) READ)) (take n (drop c.came read));
  sent = c.sent;
  came = c.came + n;
  last = Some Read;
}
