-- Polls of a transfer that find nothing: its run comes from a point to the same point, later.
use Rattle.std.specs.Prelude.{ℕ, ◌≤◌, Bool, false, not, ◌&&◌, List, ◌≡◌, eqb, ltb, None}
use Rattle.regs.specs.Fields.{tx_empty, stop_det, level}
use Rattle.regs.specs.Registers.{RAW_INTR_STAT}
use Rattle.regs.specs.Inner.Recording.{Keeps, room_of}
use Rattle.regs.specs.declared.access.Recording.{Recording}
use Rattle.regs.specs.declared.access.Next.TheVariants.{Read}
use Rattle.transfer.specs.Inner.Points.{with_point}
use Rattle.transfer.specs.Inner.Machine.{machine, next_at, store_at, step_of}
use Rattle.transfer.specs.declared.Transfer.{Transfer}
use Rattle.transfer.specs.declared.Point.{Point}
use Rattle.transfer.specs.Inner.Machine.{go}
use Rattle.regs_runs.specs.Inner.Reaches.{Reaches}
use Rattle.transfer_fast_polls.specs.declared.flag.Flag.{Flag}
use Rattle.transfer_fast_polls.specs.declared.flag.Flag.TheVariants.{TxEmpty, StopDet}

-- whatever the transfer is
pub record Stays (p : Point) (before after : Recording) : Type 0 where
  pub keeps : Keeps before after
  pub room : before.entries ≤ room_of before → after.entries ≤ room_of after
  pub reaches : (coded : Bool) (kinds lengths bytes : List ℕ) (t : Transfer) (b : List ℕ)
      → Reaches (machine coded kinds lengths bytes) before.readings.now (with_point t p) before.entries before.used
      before.log.now b (with_point t p) after.entries after.used after.log.now b

-- ---- RAW_INTR_STAT is read until a flag is set: STOP_DET, or else TX_EMPTY

abbrev pub flag_set : Flag → ℕ → Bool
flag_set StopDet stat = stop_det stat
flag_set TxEmpty stat = tx_empty stat

pub record AwaitsFlag (flag : Flag) (p : Point) : Type 0 where
  pub reads : (bytes : List ℕ) (t : Transfer) → next_at bytes t p ≡ Read RAW_INTR_STAT
  pub keeps : (t : Transfer) (v : ℕ) → store_at t p v ≡ None
  pub waits : (len : ℕ) (send_stop : Bool) (v : ℕ) → flag_set flag v ≡ false → step_of len send_stop p v ≡ go p

-- ---- a blocking read: RXFLR has no byte, and nothing was aborted

abbrev pub no_byte : ℕ → ℕ → Bool
no_byte filled source = eqb (level filled) 0 && eqb source 0

-- ---- the async forms' waits, where nothing was aborted

-- RXFLR has not reached the words of the round
abbrev pub too_few : ℕ → ℕ → ℕ → Bool
too_few batch filled source = ltb (level filled) batch && eqb source 0

-- TXFLR has no place
abbrev pub no_place : ℕ → ℕ → Bool
no_place source filled = eqb source 0 && eqb (level filled) 16

-- no STOP yet
abbrev pub no_stop : ℕ → ℕ → Bool
no_stop source stat = eqb source 0 && not (stop_det stat)
