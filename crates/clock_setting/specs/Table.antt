-- The table of refusals (docs/MANUAL.md, "The numbers") for clock settings: its rows, the first that applies, and what that row leaves.
use Rattle.std.specs.Prelude.{ℕ, zero, suc, ◌-◌, ◌<◌, ◌≤◌, List, [], ◌∷◌, ◌↔◌, ◌≡◌, ltb, if◌then◌else◌}
use Rattle.regs.specs.Program.{Outcome}
use Rattle.regs.specs.Registers.{ENABLE, FS_SCL_HCNT, FS_SCL_LCNT, FS_SPKLEN, SDA_HOLD}
use Rattle.regs.specs.Fields.{set_ic_sda_tx_hold}
use Rattle.regs.specs.Answers.{number}
use Rattle.regs.specs.declared.answers.Reply.{Reply}
use Rattle.regs.specs.declared.access.Entry.{Entry}
use Rattle.regs.specs.declared.access.Entry.TheVariants.{Read, Write}
use Rattle.clock_setting.specs.SetConfig.{spklen}
use Rattle.clock_setting.specs.Datasheet.{hcnt, lcnt, hold}

-- why a setting is turned down
pub data Cause (frequency clk : ℕ) : Type 0 where
  frequency_above : 1000000 < frequency → Cause frequency clk
  frequency_zero : frequency ≡ 0 → Cause frequency clk
  clock_above : 1431655765 < clk → Cause frequency clk
  hcnt_above : 65535 < hcnt frequency clk → Cause frequency clk
  lcnt_above : 65535 < lcnt frequency clk → Cause frequency clk
  hcnt_below : hcnt frequency clk < 8 → Cause frequency clk
  lcnt_below : lcnt frequency clk < 8 → Cause frequency clk
  clock_not_above : frequency ≡ 1000000 → clk ≤ 32000000 → Cause frequency clk
  hold_above : lcnt frequency clk - 2 < hold frequency clk → Cause frequency clk

-- the row that a cause stands in
abbrev pub row : {frequency clk : ℕ} → Cause frequency clk → ℕ
row (frequency_above _) = 1
row (frequency_zero _) = 2
row (clock_above _) = 3
row (hcnt_above _) = 4
row (lcnt_above _) = 4
row (hcnt_below _) = 5
row (lcnt_below _) = 5
row (clock_not_above _ _) = 5
row (hold_above _) = 5

-- row k applies and no earlier one does; 0 stands for no row at all
abbrev pub FirstRow : ℕ → ℕ → ℕ → Type 0
FirstRow zero frequency clk = Cause frequency clk → ⊥
FirstRow (suc k) frequency clk = ((c : Cause frequency clk) × (row c ≡ suc k)) × ((c : Cause frequency clk) → suc k ≤ row c)

-- the seven accesses of an accepted setting
abbrev pub accesses : ℕ → ℕ → ℕ → List Entry
accesses frequency clk v =
    Write ENABLE 0 ∷ Write FS_SCL_HCNT (hcnt frequency clk) ∷ Write FS_SCL_LCNT (lcnt frequency clk)
    ∷ Write FS_SPKLEN (spklen (lcnt frequency clk))
    ∷ Read SDA_HOLD v ∷ Write SDA_HOLD (set_ic_sda_tx_hold (hold frequency clk) v) ∷ Write ENABLE 1 ∷ []

abbrev pub first_reading : List ℕ → ℕ
first_reading [] = 0
first_reading (v ∷ readings) = v

-- the column "Left as it was": no access for 1, 2 and 3, ENABLE 0 for 4 and 5
abbrev pub log_of : ℕ → ℕ → ℕ → List ℕ → List Entry
log_of zero frequency clk readings = accesses frequency clk (first_reading readings)
log_of (suc k) frequency clk readings = if ltb (suc k) 4 then [] else Write ENABLE 0 ∷ []

-- an outcome is numbered k exactly if k is the first row that applies, and then has that row's log
pub record ByTable (k frequency clk : ℕ) (readings : List ℕ) (o : Outcome (Unit {0}) Reply) : Type 0 where
  pub exactly : (number o.answer ≡ k) ↔ FirstRow k frequency clk
  pub log : FirstRow k frequency clk → o.log ≡ log_of k frequency clk readings
