-- The code of a coded transfer while it runs, access by access: a CRC-8 over the data bytes of the log, with an address
-- byte where the direction turns. That a transfer watched so leaves what a coded one does is `runs` (proofs/Running.antt).
use Rattle.std.specs.Prelude.{ℕ, ◌+◌, ◌*◌, true, false, not, ◌&&◌, List, [], ◌∷◌, ◌≡◌, eqb, length, if◌then◌else◌}
use Rattle.crc8.specs.Crc8.{after_byte}
use Rattle.regs.specs.declared.access.Entry.{Entry}
use Rattle.regs.specs.declared.access.Entry.TheVariants.{Read, Write, Marked}
use Rattle.regs.specs.Registers.{DATA_CMD}
use Rattle.regs.specs.Fields.{command_word, cmd, stop, dat}
use Rattle.regs.specs.Log.{Each, expected}
use Rattle.regs.specs.Watched.{Watcher, watched}
use Rattle.regs.specs.Inner.Summed.{Summer}
use Rattle.master.specs.Driver.{reason_of}
use Rattle.master.specs.Operations.{READ, WRITE, Mode, Transfer, operations_of}
use Rattle.master.specs.Coded.{with_code, room_of, tested, longer_transfer, restarts}
use Rattle.master.specs.CodedLaws.{coded_left, Small}
use Rattle.master.specs.Inner.Message.{NO_KIND}

-- the code so far, and the direction of the last data byte
pub record Sum : Type 0 where
  pub crc : ℕ
  pub last : ℕ

abbrev pub fresh : Sum
fresh = record { crc = 0; last = NO_KIND }

-- a data byte of this kind
unfoldable pub with_byte : ℕ → Sum → ℕ → ℕ → Sum
with_byte address s kind b = record {
  crc = after_byte (if eqb s.last kind then s.crc else after_byte s.crc (address * 2 + (if eqb kind WRITE then 0 else 1))) b;
  last = kind;
}

-- an access; words with the read flag carry no byte of the message
abbrev pub feed : ℕ → Sum → Entry → Sum
feed address s (Read r v) = if eqb r DATA_CMD then with_byte address s READ (dat v) else s
feed address s (Write r w) = if eqb r DATA_CMD && not (cmd w) then with_byte address s WRITE (dat w) else s
feed address s (Marked x) = s

unfoldable pub fed : ℕ → Sum → List Entry → Sum
fed address s [] = s
fed address s (e ∷ es) = fed address (feed address s e) es

-- over a message with its code the register is 0 where the code is right
abbrev pub runner : ℕ → Watcher
runner address = record {
  value = λ log r w. if eqb r DATA_CMD && (stop w && not (cmd w))
      then command_word (fed address fresh log).crc false true false else w;
  told = λ log a. tested (eqb (fed address fresh log).crc 0) a;
  has_place = λ i. true;
}

-- the same by the sum alone, as code carries it from step to step
abbrev pub running : ℕ → Summer Sum
running address = record {
  feed = feed address;
  value = λ s r w. if eqb r DATA_CMD && (stop w && not (cmd w)) then command_word s.crc false true false else w;
  told = λ s a. tested (eqb s.crc 0) a;
}

abbrev pub Runs : Type 0
Runs = (mode : Mode) (address : ℕ) (t : Transfer ℕ) (log readings buffer : List ℕ)
    → Each Small (operations_of t)
    → length buffer ≡ room_of (operations_of t)
    → expected (watched (runner address) (longer_transfer reason_of mode (restarts t) address (with_code 0 (operations_of t))))
    log readings buffer tt
    ≡ coded_left mode address t log readings buffer
