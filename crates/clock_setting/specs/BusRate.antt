-- The rate that the bus gets from a setting, by its counts: clk ÷ (hcnt + lcnt). What is claimed of it: it is the rate of the
-- counts in `set_config`'s log; exactly the settings that `set_config` accepts have one; and how far it is from the wanted
-- frequency. Clock periods that the controller adds by itself, and the time that edges take, are not in it.
use Rattle.std.specs.Prelude.{ℕ, ◌+◌, ◌*◌, ◌/◌, ◌%◌, ◌<◌, ◌≤◌, List, [], ◌∷◌, ◌↔◌, ◌≡◌, replicate, take, Result, Ok, Err}
use Rattle.regs.specs.Registers.{FS_SCL_HCNT, FS_SCL_LCNT}
use Rattle.regs.specs.Answers.{refusal_number, number}
use Rattle.regs.specs.Log.{decode, written_to, expected, Leaves}
use Rattle.regs.specs.declared.access.Entry.{Entry}
use Rattle.regs.specs.declared.access.Ran.{Ran}
use Rattle.regs.specs.declared.answers.Answer.TheVariants as A
use Rattle.regs.specs.declared.answers.Refusal.{Refusal}
use Rattle.regs.specs.declared.answers.Reply.{Reply}
use Rattle.regs.specs.declared.answers.Reply.TheVariants.{Answered, OutOfReadings, LogFull}
use Rattle.clock_setting.specs.declared.Rate.{Rate}
use Rattle.clock_setting.specs.SetConfig.{set_config}
use Rattle.clock_setting.specs.Datasheet.{hcnt, lcnt}
use Rattle.clock_setting.specs.Table.{FirstRow}

-- what `set_config` answers where its log has room for all seven accesses and SDA_HOLD can be read, so neither 18 nor 19
abbrev pub answer_of : ℕ → ℕ → Reply
answer_of frequency clk = (expected (set_config frequency clk) (replicate 14 0) (0 ∷ []) [] tt).answer

-- the clock, divided by the clock periods in one period of the bus
abbrev pub divided : ℕ → ℕ → Result Rate Refusal
divided clk periods = Ok (record { hz = clk / periods; remainder = clk % periods })

-- a setting that is refused has no rate; of the other replies `answer_of` gives only Accepted
abbrev pub unless_refused : Reply → Result Rate Refusal → Result Rate Refusal
unless_refused (Answered (A.Refused why)) r = Err why
unless_refused (Answered A.Accepted) r = r
unless_refused (Answered (A.Heard command)) r = r
unless_refused (Answered (A.Responded status)) r = r
unless_refused OutOfReadings r = r
unless_refused LogFull r = r

unfoldable pub rated : ℕ → ℕ → Result Rate Refusal
rated frequency clk =
    unless_refused (answer_of frequency clk) (divided clk (hcnt frequency clk + lcnt frequency clk))

-- as numbers: 0 for a rate, else the number of the refusal; a refusal has 0 for both values
abbrev pub rate_number : Result Rate Refusal → ℕ
rate_number (Ok rate) = 0
rate_number (Err why) = refusal_number why

abbrev pub rate_hz : Result Rate Refusal → ℕ
rate_hz (Ok rate) = rate.hz
rate_hz (Err why) = 0

abbrev pub rate_remainder : Result Rate Refusal → ℕ
rate_remainder (Ok rate) = rate.remainder
rate_remainder (Err why) = 0

-- ---- against `set_config`

-- the log writes each of the two counts once; clk = hz × (high + low) + remainder, and the remainder is below high + low
pub record RateOf (clk : ℕ) (log : List Entry) (rate : Rate) : Type 0 where
  pub high : ℕ
  pub low : ℕ
  pub high_written : written_to FS_SCL_HCNT log ≡ high ∷ []
  pub low_written : written_to FS_SCL_LCNT log ≡ low ∷ []
  pub whole : clk ≡ rate.hz * (high + low) + rate.remainder
  pub below : rate.remainder < high + low

-- If `set_config` accepted, r is the rate of its log; if it refused, r is the same refusal. Of a run that ended in 18 or 19
-- nothing is claimed, and there are no other replies.
abbrev pub RatedAs : ℕ → Reply → List Entry → Result Rate Refusal → Type 0
RatedAs clk (Answered A.Accepted) log r = (rate : Rate) × ((r ≡ Ok rate) × RateOf clk log rate)
RatedAs clk (Answered (A.Refused why)) log r = r ≡ Err why
RatedAs clk (Answered (A.Heard command)) log r = ⊥
RatedAs clk (Answered (A.Responded status)) log r = ⊥
RatedAs clk OutOfReadings log r = Unit {0}
RatedAs clk LogFull log r = Unit {0}

-- This holds of every call of `set_config`, by what its contract says of the lent log before and after and of what is
-- returned: the reply is the returned one, and the log is read back from the words that the call left. There is such a call
-- with neither 18 nor 19 for every setting (`answer_of`), so this determines the rate.
abbrev pub RatedAsSet : Type 0
RatedAsSet = (frequency clk : ℕ) (before after readings : List ℕ) (ran : Ran)
    → Leaves (expected (set_config frequency clk) before readings [] tt) before after ran
    → RatedAs clk ran.reply (decode (take (ran.entries * 2) after)) (rated frequency clk)

-- the number is that of the first row of the table of refusals that applies, 0 if none does; it is at most 5, and that of
-- `set_config`'s answer
pub record ByRow (frequency clk : ℕ) : Type 0 where
  pub exactly : (k : ℕ) → (rate_number (rated frequency clk) ≡ k) ↔ FirstRow k frequency clk
  pub at_most_5 : rate_number (rated frequency clk) ≤ 5
  pub as_answered : number (answer_of frequency clk) ≡ rate_number (rated frequency clk)

abbrev pub RatedByTable : Type 0
RatedByTable = (frequency clk : ℕ) → ByRow frequency clk

-- ---- against the wanted frequency

-- how near a rate is, where one period of the bus has `periods` clock periods
pub record Near (frequency clk periods : ℕ) (rate : Rate) : Type 0 where
  -- the rate unrounded, hz + remainder ÷ periods, is off by at most the frequency ÷ (2 × periods): the periods are those
  -- nearest to clk ÷ frequency (`Lawful` in Datasheet.antt)
  pub not_fast : 2 * (rate.hz * periods + rate.remainder) < 2 * periods * frequency + frequency
  pub not_slow : 2 * periods * frequency ≤ 2 * (rate.hz * periods + rate.remainder) + frequency
  -- there are at least 18 periods, so that is at most a 36th of the frequency; hz is less than 1 Hz below the rate unrounded
  pub hz_not_fast : 36 * rate.hz < 37 * frequency
  pub hz_not_slow : 35 * frequency + 1 < 36 * (rate.hz + 1)
  pub some_hz : 0 < rate.hz
  -- by what a caller knows: hz is below frequency × 2 clk ÷ (2 clk − frequency), and hz + 1 is above
  -- frequency × 2 clk ÷ (2 clk + frequency)
  pub hz_not_fast_by_clk : 2 * clk * rate.hz < 2 * clk * frequency + rate.hz * frequency
  pub hz_not_slow_by_clk : 2 * clk * frequency < (2 * clk + frequency) * (rate.hz + 1)

abbrev pub NearWanted : Type 0
NearWanted = (frequency clk : ℕ) (rate : Rate)
    → rated frequency clk ≡ Ok rate
    → Near frequency clk (hcnt frequency clk + lcnt frequency clk) rate

-- of the settings that are accepted, exactly those whose clock is a multiple of the frequency get it exactly
abbrev pub ExactOfMultiples : Type 0
ExactOfMultiples = (frequency clk : ℕ) (rate : Rate)
    → rated frequency clk ≡ Ok rate
    → ((rate.hz ≡ frequency) × (rate.remainder ≡ 0)) ↔ ((k : ℕ) × (clk ≡ k * frequency))

-- the largest rate in whole Hz of the settings of `least` Hz to `most` Hz: none is larger, and one is as large
pub record Fastest (least most hz : ℕ) : Type 0 where
  pub none_faster : (frequency clk : ℕ) (rate : Rate)
      → least ≤ frequency
      → frequency ≤ most
      → rated frequency clk ≡ Ok rate
      → rate.hz ≤ hz
  pub frequency : ℕ
  pub clk : ℕ
  pub remainder : ℕ
  pub within : (least ≤ frequency) × (frequency ≤ most)
  pub reached : rated frequency clk ≡ Ok (record { hz = hz; remainder = remainder })

-- of UM10204's standard mode, fast mode and fast mode plus, and of a wanted 1 MHz: by the counts the bus can be faster than
-- the mode allows, though nothing above that was asked for (docs/DIFFERENCES.md)
abbrev pub FastestByMode : Type 0
FastestByMode =
    Fastest 1 100000 102777 × Fastest 1 400000 411111 × Fastest 1 1000000 1027776
    × Fastest 1000000 1000000 1015624
