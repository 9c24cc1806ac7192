-- Clock setup as a machine of one access a step. Only contracts of inner functions cite this.
use Rattle.std.specs.Prelude.{ℕ, ◌+◌, eqb, ltb, if◌then◌else◌, None, Result, Ok, Err}
use Rattle.regs.specs.Registers.{ENABLE, FS_SCL_HCNT, FS_SCL_LCNT, FS_SPKLEN, SDA_HOLD}
use Rattle.regs.specs.Fields.{set_ic_sda_tx_hold}
use Rattle.regs.specs.Steps.{Machine}
use Rattle.regs.specs.declared.answers.Answer.TheVariants.{Accepted, Refused}
use Rattle.regs.specs.declared.answers.Refusal.{Refusal}
use Rattle.regs.specs.declared.answers.Refusal.TheVariants as R
use Rattle.regs.specs.declared.access.Next.{Next}
use Rattle.regs.specs.declared.access.Next.TheVariants as N
use Rattle.clock_setting.specs.SetConfig.{spklen}
use Rattle.clock_setting.specs.Datasheet.{hcnt, lcnt, hold}
use Rattle.clock.specs.declared.Counts.{Counts}
use Rattle.clock.specs.declared.ClockPoint.{ClockPoint}
use Rattle.clock.specs.declared.ClockPoint.TheVariants.{Disable, Hcnt, Lcnt, Spklen, Hold, SetHold, Enable, Finished}

abbrev pub counts : ℕ → ℕ → Counts
counts frequency clk = record {
  hcnt = hcnt frequency clk;
  lcnt = lcnt frequency clk;
  spklen = spklen (lcnt frequency clk);
  hold = hold frequency clk;
}

-- whether the counts fit their registers, and whether the clock is fast enough for them
unfoldable pub fits : ℕ → ℕ → Result (Unit {0}) Refusal
fits h l = if ltb 0xffff h then Err R.ClockTooFast else (if ltb 0xffff l then Err R.ClockTooFast else Ok tt)

unfoldable pub reaches : ℕ → ℕ → Result (Unit {0}) Refusal
reaches h l = if ltb h 8 then Err R.ClockTooSlow else (if ltb l 8 then Err R.ClockTooSlow else Ok tt)

unfoldable pub holds : ℕ → ℕ → ℕ → ℕ → Result (Unit {0}) Refusal
holds frequency clk l d =
    if ltb frequency 1000000 then (if ltb l (d + 2) then Err R.ClockTooSlow else Ok tt)
    else (if ltb clk 32000001 then Err R.ClockTooSlow else (if ltb l (d + 2) then Err R.ClockTooSlow else Ok tt))

-- the first refusal of a test and of what comes after it
abbrev pub unless : Result (Unit {0}) Refusal → Result Counts Refusal → Result Counts Refusal
unless (Ok u) s = s
unless (Err why) s = Err why

abbrev pub setting : ℕ → ℕ → Result Counts Refusal
setting frequency clk =
    unless (fits (hcnt frequency clk) (lcnt frequency clk))
    (unless (reaches (hcnt frequency clk) (lcnt frequency clk))
    (unless (holds frequency clk (lcnt frequency clk) (hold frequency clk)) (Ok (counts frequency clk))))

abbrev pub range : ℕ → ℕ → Result (Unit {0}) Refusal
range frequency clk =
    if ltb 1000000 frequency then Err R.FrequencyTooHigh
    else (if eqb frequency 0 then Err R.FrequencyZero
    else (if ltb 1431655765 clk then Err R.ClockOutOfRange else Ok tt))

abbrev pub start_in : Result (Unit {0}) Refusal → Result Counts Refusal → ClockPoint
start_in (Ok u) s = Disable s
start_in (Err why) s = Finished (Refused why)

abbrev pub start_of : ℕ → ℕ → ClockPoint
start_of frequency clk = start_in (range frequency clk) (setting frequency clk)

abbrev pub next_of : ClockPoint → Next
next_of (Disable s) = N.Write ENABLE 0
next_of (Hcnt n) = N.Write FS_SCL_HCNT n.hcnt
next_of (Lcnt n) = N.Write FS_SCL_LCNT n.lcnt
next_of (Spklen n) = N.Write FS_SPKLEN n.spklen
next_of (Hold n) = N.Read SDA_HOLD
next_of (SetHold w) = N.Write SDA_HOLD w
next_of Enable = N.Write ENABLE 1
next_of (Finished a) = N.Finished a

abbrev pub after_disable : Result Counts Refusal → ClockPoint
after_disable (Ok n) = Hcnt n
after_disable (Err why) = Finished (Refused why)

abbrev pub advance_of : ClockPoint → ℕ → ClockPoint
advance_of (Disable s) v = after_disable s
advance_of (Hcnt n) v = Lcnt n
advance_of (Lcnt n) v = Spklen n
advance_of (Spklen n) v = Hold n
advance_of (Hold n) v = SetHold (set_ic_sda_tx_hold n.hold v)
advance_of (SetHold w) v = Enable
advance_of Enable v = Finished Accepted
advance_of (Finished a) v = Finished a

abbrev pub machine : Machine
machine = record { S = ClockPoint; K = Unit {0}; next = next_of; advance = advance_of; store = λ p v. None; state = λ p. tt }
