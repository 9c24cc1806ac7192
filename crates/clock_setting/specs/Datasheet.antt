-- The counts of a setting, and what the RP2040 datasheet and UM10204 ask of them.
use Rattle.std.specs.Prelude.{ℕ, ◌+◌, ◌*◌, ◌/◌, ◌%◌, ◌<◌, ◌≤◌, ◌≡◌, ltb, if◌then◌else◌}
use Rattle.clock_setting.specs.SetConfig.{period, lcnt_of, hcnt_of, hold_below_1_mhz, hold_at_1_mhz}

-- the counts of a setting
abbrev pub hcnt : ℕ → ℕ → ℕ
hcnt frequency clk = hcnt_of (period frequency clk)

abbrev pub lcnt : ℕ → ℕ → ℕ
lcnt frequency clk = lcnt_of (period frequency clk)

unfoldable pub hold : ℕ → ℕ → ℕ
hold frequency clk = if ltb frequency 1000000 then hold_below_1_mhz clk else hold_at_1_mhz clk

-- IC_FS_SCL_HCNT, IC_FS_SCL_LCNT, IC_SDA_HOLD and IC_FS_SPKLEN for a frequency and a clock, beside the limits of the table.
pub record Lawful (frequency clk hcnt lcnt hold spike : ℕ) : Type 0 where
  -- high and low are the whole number of clock periods nearest to clk ÷ frequency, the larger at a half
  pub period_not_long : 2 * (hcnt + lcnt) * frequency ≤ 2 * clk + frequency
  pub period_not_short : 2 * clk < 2 * (hcnt + lcnt) * frequency + frequency
  -- low is one and a half times high, but for rounding
  pub low_not_long : 2 * lcnt ≤ 3 * hcnt
  pub low_not_short : 3 * hcnt ≤ 2 * lcnt + 4
  -- the smallest hold time above 300 ns, and at 1 MHz above 120 ns
  pub hold_below_1_mhz : frequency < 1000000 → (3 * clk < hold * 10000000) × (hold * 10000000 ≤ 3 * clk + 10000000)
  pub hold_at_1_mhz : frequency ≡ 1000000 → (3 * clk < hold * 25000000) × (hold * 25000000 ≤ 3 * clk + 25000000)
  pub low_over_spike : spike + 7 < lcnt
  pub high_over_spike : spike + 5 < hcnt
  -- The datasheet wants a spike count of at least 1. It is cut to 8 bits as in the Rust, so that it can be 0, but
  -- only if lcnt ÷ 16 is a multiple of 256 (docs/DIFFERENCES.md).
  pub spike_zero : spike ≡ 0 → (16 ≤ lcnt) × (lcnt / 16 % 256 ≡ 0)

-- n periods of the clock are at least so many nanoseconds
abbrev pub Lasts : ℕ → ℕ → ℕ → Type 0
Lasts clk n ns = ns * clk ≤ n * 1000000000

-- UM10204's smallest low and high times of SCL in standard mode, fast mode and fast mode plus. The 4,000 ns of
-- standard mode's high time follow only up to 97,561 Hz, above which 3,900 ns do (docs/DIFFERENCES.md).
pub record Timed (frequency clk hcnt lcnt : ℕ) : Type 0 where
  pub standard_low : frequency ≤ 100000 → Lasts clk lcnt 4700
  pub standard_high : frequency ≤ 97561 → Lasts clk hcnt 4000
  pub standard_high_short : frequency ≤ 100000 → Lasts clk hcnt 3900
  pub fast_low : frequency ≤ 400000 → Lasts clk lcnt 1300
  pub fast_high : frequency ≤ 400000 → Lasts clk hcnt 600
  pub plus_low : frequency ≤ 1000000 → Lasts clk lcnt 500
  pub plus_high : frequency ≤ 1000000 → Lasts clk hcnt 260

-- n periods of the clock are at most so many nanoseconds
abbrev pub Ends : ℕ → ℕ → ℕ → Type 0
Ends clk n ns = n * 1000000000 ≤ ns * clk

-- UM10204's longest data valid times of the three modes, which the hold time keeps to. Its shortest hold time is 0, which
-- every count keeps to. In standard mode the 3,450 ns follow only from 16,564 Hz on: a slow clock's one period is longer
-- (docs/DIFFERENCES.md).
pub record HeldInTime (frequency clk hold : ℕ) : Type 0 where
  pub standard : 16564 ≤ frequency → frequency ≤ 100000 → Ends clk hold 3450
  pub fast : 100000 < frequency → frequency ≤ 400000 → Ends clk hold 900
  pub plus : 400000 < frequency → frequency ≤ 1000000 → Ends clk hold 450
