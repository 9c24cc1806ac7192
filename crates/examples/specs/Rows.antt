-- The worked examples (a) to (v) of docs/MANUAL.md, as rows of one table, and what it means that a row holds: of
-- whole calls, with the registers' offsets as numbers.
use Rattle.std.specs.Prelude.{ℕ, Bool, true, false, List, [], ◌∷◌, ◌≡◌, replicate, Some, None}
use Rattle.regs.specs.Fields.{b2n}
use Rattle.regs.specs.Program.{Outcome}
use Rattle.regs.specs.Answers.{number, detail}
use Rattle.regs.specs.Log.{expected, written_to}
use Rattle.regs.specs.declared.answers.Reply.{Reply}
use Rattle.regs.specs.declared.access.Entry.TheVariants.{Read, Write, Marked}
use Rattle.regs_causes.specs.Causes.{causes_of}
use Rattle.crc8.specs.Crc8.{crc8}
use Rattle.clock_setting.specs.SetConfig.{set_config}
use Rattle.clock_setting.specs.BusRate.{rated, rate_number, rate_hz, rate_remainder}
use Rattle.master.specs.Operations.{Mode, blocking, async}
use Rattle.master.specs.Calls.{Lent, reads_into, writes_from, writes_then_reads, transacts, left_by_call}
use Rattle.slave.specs.Calls.{resets}
use Rattle.slave.specs.Calls as Slave
use Rattle.slave.specs.declared.SlaveState.{SlaveState}

pub data Row : Type 0 where
  -- a frequency and a clock are accepted, with these counts: high, low, hold, spike
  counts : ℕ → ℕ → ℕ → ℕ → ℕ → ℕ → Row
  -- or refused with this number, the block left disabled
  refused : ℕ → ℕ → ℕ → Row
  -- a master call on these readings is accepted and writes these words to DATA_CMD
  words : Mode → Lent → List ℕ → List ℕ → Row
  -- CON before and after a reset of the slave, with general calls or without
  con : Bool → ℕ → ℕ → Row
  -- a read of one byte at an address is accepted on these readings
  accepted : Mode → ℕ → List ℕ → Row
  -- or refused with number 6 and the address, and no access
  out_of_range : Mode → ℕ → Row
  -- the packet error code over bytes
  code : List ℕ → ℕ → Row
  -- a master call with a packet error code has this answer on these readings, writes these words and leaves this buffer
  coded : Mode → Lent → List ℕ → ℕ → List ℕ → List ℕ → Row
  -- the rate of a frequency and a clock: its number, the rate in whole Hz and the remainder
  rate : ℕ → ℕ → ℕ → ℕ → ℕ → Row
  -- a master call, with a packet error code or without, is refused on these readings with this number and detail
  aborted : Bool → Mode → Lent → List ℕ → ℕ → ℕ → Row
  -- a raw abort word has so many causes, and this one is the lowest
  caused : ℕ → ℕ → ℕ → Row
  -- or none
  without_cause : ℕ → Row

-- a log with room for 50 entries
abbrev pub some_room : List ℕ
some_room = replicate 100 0

-- clock setup, with 1 read from SDA_HOLD
abbrev pub configured : ℕ → ℕ → Outcome (Unit {0}) Reply
configured frequency clk = expected (set_config frequency clk) some_room (1 ∷ []) [] tt

abbrev pub called_by : Bool → Mode → ℕ → Lent → List ℕ → Outcome (Unit {0}) Reply
called_by pec mode address lent readings =
    left_by_call (record { mode = mode; address = address; lent = lent; pec = pec }) some_room readings

abbrev pub called : Mode → ℕ → Lent → List ℕ → Outcome (Unit {0}) Reply
called = called_by false

abbrev pub one_byte : Lent
one_byte = reads_into (0 ∷ [])

-- a reset to address 0x28, with this read from CON and 0 from CLR_INTR
abbrev pub after_reset : Bool → ℕ → SlaveState → Outcome SlaveState Reply
after_reset general_call before me = Slave.left_by_call (resets 0x28 general_call) some_room (before ∷ 0 ∷ []) me

abbrev pub Holds : Row → Type 0
Holds (counts frequency clk hcnt lcnt hold spike) =
    (number (configured frequency clk).answer ≡ 0)
    × ((configured frequency clk).log ≡ Write 0x6C 0 ∷ Write 0x1C hcnt ∷ Write 0x20 lcnt ∷ Write 0xA0 spike
    ∷ Read 0x7C 1 ∷ Write 0x7C hold ∷ Write 0x6C 1 ∷ [])
Holds (refused frequency clk n) = (number (configured frequency clk).answer ≡ n) × ((configured frequency clk).log ≡ Write 0x6C 0 ∷ [])
Holds (words mode lent readings ws) =
    (number (called mode 0x50 lent readings).answer ≡ 0) × (written_to 0x10 (called mode 0x50 lent readings).log ≡ ws)
Holds (con general_call before after) = (me : SlaveState)
    → (number (after_reset general_call before me).answer ≡ 0)
    × ((after_reset general_call before me).log ≡ Marked 1 ∷ Write 0x6C 0 ∷ Write 0x08 0x28 ∷ Read 0x00 before ∷ Write 0x00 after
    ∷ Write 0x98 (b2n general_call) ∷ Write 0x3C 0 ∷ Write 0x38 0 ∷ Read 0x40 0 ∷ Write 0x6C 1 ∷ Write 0x30 0 ∷ [])
Holds (accepted mode a readings) =
    (number (called mode a one_byte readings).answer ≡ 0) × (written_to 0x04 (called mode a one_byte readings).log ≡ a ∷ [])
Holds (out_of_range mode a) =
    (number (called mode a one_byte []).answer ≡ 6)
    × ((detail (called mode a one_byte []).answer ≡ a) × ((called mode a one_byte []).log ≡ []))
Holds (code bytes c) = crc8 bytes ≡ c
Holds (coded mode lent readings n ws buffer) =
    (number (called_by true mode 0x50 lent readings).answer ≡ n)
    × ((written_to 0x10 (called_by true mode 0x50 lent readings).log ≡ ws)
    × ((called_by true mode 0x50 lent readings).buffer ≡ buffer))
Holds (rate frequency clk n hz remainder) =
    (rate_number (rated frequency clk) ≡ n)
    × ((rate_hz (rated frequency clk) ≡ hz) × (rate_remainder (rated frequency clk) ≡ remainder))
Holds (aborted pec mode lent readings n word) =
    (number (called_by pec mode 0x50 lent readings).answer ≡ n) × (detail (called_by pec mode 0x50 lent readings).answer ≡ word)
Holds (caused word n bit) = causes_of word ≡ Some (record { count = n; lowest = bit })
Holds (without_cause word) = causes_of word ≡ None

-- a data byte not acknowledged, and the causes of an abort word
abbrev pub abort_rows : List Row
abort_rows =
    aborted false blocking (writes_from (0x5A ∷ [])) (0x10 ∷ 0x8 ∷ 0 ∷ 0x200 ∷ 0 ∷ []) 23 0x8  -- (t)
    ∷ aborted false blocking (writes_from (0x5A ∷ [])) (0x10 ∷ 0x1008 ∷ 0 ∷ 0x200 ∷ 0 ∷ []) 23 0x1008
    ∷ aborted false blocking (writes_from (0x5A ∷ [])) (0x10 ∷ 0x1000 ∷ 0 ∷ 0x200 ∷ 0 ∷ []) 10 0
    ∷ aborted false blocking (writes_from (0x5A ∷ [])) (0x10 ∷ 0x9 ∷ 0 ∷ 0x200 ∷ 0 ∷ []) 9 0
    ∷ aborted false async (writes_from (0x5A ∷ [])) (0 ∷ 0x8 ∷ 0 ∷ 0 ∷ []) 23 0x8
    ∷ aborted true async (writes_from (0x5A ∷ [])) (0 ∷ 0x1008 ∷ 0 ∷ 0 ∷ []) 23 0x1008
    ∷ aborted false async one_byte (0 ∷ 0 ∷ 0x8 ∷ 0 ∷ 0x1 ∷ 0 ∷ 0x200 ∷ 0 ∷ []) 23 0x8  -- (u)
    ∷ caused 0x8 1 3  -- (v)
    ∷ caused 0x1008 2 3
    ∷ caused 0x1FFFF 17 0
    ∷ without_cause 0x800000
    ∷ without_cause 0x20000
    ∷ []

-- the rate of the bus
abbrev pub rate_rows : List Row
rate_rows =
    rate 400000 125000000 0 399361 7  -- (p)
    ∷ rate 1000000 125000000 0 1000000 0  -- (q)
    ∷ rate 1000000 32499999 0 1015624 31
    ∷ rate 1000000 32000000 5 0 0
    ∷ rate 1145 125000000 0 1145 350  -- (r)
    ∷ rate 1144 125000000 4 0 0
    ∷ rate 1 109226 0 1 0
    ∷ rate 1000001 125000000 1 0 0  -- (s)
    ∷ rate 0 125000000 2 0 0
    ∷ rate 100000 1431655766 3 0 0
    ∷ abort_rows

-- a read of one byte, then a write of 0xCE
abbrev pub read_then_write : Lent
read_then_write = transacts (0 ∷ 1 ∷ []) (1 ∷ 1 ∷ []) (0xCE ∷ []) (0 ∷ [])

-- a write of 1, then a read of one byte
abbrev pub write_then_read : Lent
write_then_read = writes_then_reads (1 ∷ []) (0 ∷ [])

-- of what the Rust lacks: packet error codes, then the rates, then data bytes not acknowledged
abbrev pub added_rows : List Row
added_rows =
    code (0x31 ∷ 0x32 ∷ 0x33 ∷ 0x34 ∷ 0x35 ∷ 0x36 ∷ 0x37 ∷ 0x38 ∷ 0x39 ∷ []) 0xF4  -- (k)
    ∷ code (0xA0 ∷ 0x01 ∷ []) 0x1F  -- (l)
    ∷ coded blocking (writes_from (1 ∷ [])) (0x10 ∷ 0 ∷ 0x10 ∷ 0 ∷ 0x200 ∷ 0 ∷ []) 0 (0x001 ∷ 0x21F ∷ []) []
    ∷ coded async (writes_from (1 ∷ [])) (0 ∷ 0 ∷ 0x200 ∷ 0 ∷ []) 0 (0x001 ∷ 0x21F ∷ []) []
    ∷ coded async one_byte (0 ∷ 2 ∷ 0 ∷ 0x5A ∷ 0x8C ∷ 0 ∷ 0x200 ∷ 0 ∷ []) 0 (0x500 ∷ 0x300 ∷ []) (0x5A ∷ [])  -- (m)
    ∷ coded async one_byte (0 ∷ 2 ∷ 0 ∷ 0x5A ∷ 0x8D ∷ 0 ∷ 0x200 ∷ 0 ∷ []) 22 (0x500 ∷ 0x300 ∷ []) (0x5A ∷ [])
    ∷ coded async read_then_write (0 ∷ 1 ∷ 0 ∷ 0x5A ∷ 0 ∷ 0 ∷ 0x200 ∷ 0 ∷ []) 0  -- (n)
    (0x100 ∷ 0x0CE ∷ 0x236 ∷ []) (0x5A ∷ [])
    ∷ coded blocking write_then_read (0x10 ∷ 0 ∷ 0 ∷ 1 ∷ 0x5A ∷ 0 ∷ 1 ∷ 0x18 ∷ []) 0  -- (o)
    (0x001 ∷ 0x500 ∷ 0x300 ∷ []) (0x5A ∷ [])
    ∷ coded async write_then_read (0 ∷ 0 ∷ 2 ∷ 0 ∷ 0x5A ∷ 0x18 ∷ 0 ∷ 0x200 ∷ 0 ∷ []) 0
    (0x001 ∷ 0x500 ∷ 0x300 ∷ []) (0x5A ∷ [])
    ∷ rate_rows

abbrev pub rows : List Row
rows =
    counts 100000 125000000 500 750 38 46  -- (a)
    ∷ counts 400000 125000000 126 187 38 11  -- (b)
    ∷ counts 1000000 125000000 50 75 16 4  -- (c)
    ∷ refused 1000000 32000000 5  -- (d)
    ∷ counts 1000000 32000001 13 19 4 1
    ∷ refused 100000 1700000 5  -- (e) periods 17 and 18
    ∷ counts 100000 1800000 8 10 1 1
    ∷ counts 1000 109226000 43691 65535 33 255  -- (f) periods 109,226 and 109,227
    ∷ refused 1000 109227000 4
    ∷ words blocking one_byte (0 ∷ 1 ∷ 0xAA ∷ []) (0x700 ∷ [])  -- (g)
    ∷ words async one_byte (0 ∷ 1 ∷ 0 ∷ 0xAA ∷ 0 ∷ 0x200 ∷ 0 ∷ []) (0x700 ∷ [])
    ∷ words blocking (writes_from (0x5A ∷ [])) (0x10 ∷ 0 ∷ 0x200 ∷ 0 ∷ []) (0x25A ∷ [])  -- (h)
    ∷ words async (writes_from (0x5A ∷ [])) (0 ∷ 0 ∷ 0x200 ∷ 0 ∷ []) (0x25A ∷ [])
    ∷ con true 0x65 0x324  -- (i)
    ∷ con false 0x65 0x3A4
    ∷ accepted blocking 0x7F (0 ∷ 1 ∷ 0xAA ∷ [])  -- (j)
    ∷ accepted async 0x7F (0 ∷ 1 ∷ 0 ∷ 0xAA ∷ 0 ∷ 0x200 ∷ 0 ∷ [])
    ∷ out_of_range blocking 0x80
    ∷ out_of_range async 0x80
    ∷ added_rows
