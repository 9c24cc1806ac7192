-- `set_config` of src/i2c.rs, with the clock as an argument, and the refusals that are added (docs/MANUAL.md, "The numbers").
use Rattle.std.specs.Prelude.{ℕ, ◌+◌, ◌*◌, ◌-◌, ◌/◌, ◌%◌, ◌^◌, ◌||◌, eqb, ltb, if◌then◌else◌}
use Rattle.regs.specs.Program.{Program, ◌>>=◌, ◌>>◌, return, exit, put, modify, when}
use Rattle.regs.specs.Registers.{ENABLE, FS_SCL_HCNT, FS_SCL_LCNT, FS_SPKLEN, SDA_HOLD}
use Rattle.regs.specs.Fields.{set_ic_sda_tx_hold}
use Rattle.regs.specs.declared.answers.Answer.{Answer}
use Rattle.regs.specs.declared.answers.Answer.TheVariants.{Accepted, Refused}
use Rattle.regs.specs.declared.answers.Refusal.TheVariants.{FrequencyTooHigh, FrequencyZero, ClockOutOfRange, ClockTooFast, ClockTooSlow}

-- the driver has no state of its own
abbrev pub Driver : Type 0 → Type 0
Driver B = Program (Unit {0}) Answer B

-- let period = (clk_base + config.frequency / 2) / config.frequency;
unfoldable pub period : ℕ → ℕ → ℕ
period frequency clk_base = (clk_base + frequency / 2) / frequency

-- let lcnt = period * 3 / 5; the bus is low for three fifths of the period and high for two
unfoldable pub lcnt_of : ℕ → ℕ
lcnt_of p = p * 3 / 5

-- let hcnt = period - lcnt;
unfoldable pub hcnt_of : ℕ → ℕ
hcnt_of p = p - lcnt_of p

-- 300 ns below 1 MHz, 120 ns at 1 MHz, in periods of the clock
unfoldable pub hold_below_1_mhz : ℕ → ℕ
hold_below_1_mhz clk_base = clk_base * 3 / 10000000 + 1

unfoldable pub hold_at_1_mhz : ℕ → ℕ
hold_at_1_mhz clk_base = clk_base * 3 / 25000000 + 1

-- let sda_tx_hold_count = if config.frequency < 1_000_000 { .. } else { if clk_base <= 32_000_000 { return Err(..) } .. };
abbrev pub sda_tx_hold_count : ℕ → ℕ → Driver ℕ
sda_tx_hold_count frequency clk_base =
    if ltb frequency 1000000 then return (hold_below_1_mhz clk_base) else (do
      when (ltb clk_base 32000001) (exit (Refused ClockTooSlow))
      return (hold_at_1_mhz clk_base))

-- if lcnt < 16 { 1 } else { (lcnt / 16) as u8 }
unfoldable pub spklen : ℕ → ℕ
spklen lcnt = if ltb lcnt 16 then 1 else lcnt / 16 % 2 ^ 8

-- `as u16`
abbrev pub as_u16 : ℕ → ℕ
as_u16 n = n % 2 ^ 16

abbrev pub set_registers : ℕ → ℕ → ℕ → Driver Answer
set_registers hcnt lcnt hold = do
  put FS_SCL_HCNT (as_u16 hcnt)
  put FS_SCL_LCNT (as_u16 lcnt)
  put FS_SPKLEN (spklen lcnt)
  modify SDA_HOLD (set_ic_sda_tx_hold (as_u16 hold))
  put ENABLE 1
  return Accepted

-- from the counts on
abbrev pub set_counts : ℕ → ℕ → ℕ → ℕ → Driver Answer
set_counts frequency clk_base hcnt lcnt = do
  when (ltb 0xffff hcnt || ltb 0xffff lcnt) (exit (Refused ClockTooFast))
  when (ltb hcnt 8 || ltb lcnt 8) (exit (Refused ClockTooSlow))
  hold ← sda_tx_hold_count frequency clk_base
  when (ltb (lcnt - 2) hold) (exit (Refused ClockTooSlow))
  set_registers hcnt lcnt hold

-- fn set_config_inner(&mut self, config: &Config) -> Result<(), ConfigError>
unfoldable pub set_config : ℕ → ℕ → Driver Answer
set_config frequency clk_base = do
  when (ltb 1000000 frequency) (exit (Refused FrequencyTooHigh))
  when (eqb frequency 0) (exit (Refused FrequencyZero))  -- added: the Rust divides by it
  when (ltb 1431655765 clk_base) (exit (Refused ClockOutOfRange))  -- added: the Rust's `clk_base * 3` wraps
  put ENABLE 0
  set_counts frequency clk_base (hcnt_of (period frequency clk_base)) (lcnt_of (period frequency clk_base))
