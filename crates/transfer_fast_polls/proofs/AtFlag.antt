-- RAW_INTR_STAT read again and again: the flag is not set yet.
use Prim.Native.Nat.{ℕ, ◌+◌, ◌/◌, ◌<◌}
use mathlib.Core.Bool.{Bool, false}
use mathlib.Core.List.{List}
use mathlib.Core.Path.{◌≡◌, refl}
use lib.ListN.{length, get_or}
use Rattle.regs.specs.Registers.{RAW_INTR_STAT}
use Rattle.regs.specs.Inner.Machine.{entered}
use Rattle.transfer.specs.Inner.Points.{with_point}
use Rattle.transfer.specs.Inner.Machine.{machine, next_at, next_write, store_at, step_of, step_write}
use Rattle.transfer.specs.declared.Transfer.{Transfer}
use Rattle.transfer.specs.Inner.Points.{Tried}
use Rattle.transfer.specs.declared.Point.{Point}
use Rattle.transfer.specs.declared.Point.TheVariants.{WriteBlocking}
use Rattle.transfer.specs.declared.WritePoint.TheVariants.{Empty, StopDet}
use Rattle.regs_runs.specs.Inner.Reaches.{Reaches}
use Rattle.regs_runs.proofs.Reach.{did_read}
use Rattle.transfer_fast_polls.specs.declared.flag.Flag.{Flag}
use Rattle.transfer_fast_polls.specs.declared.flag.Flag.TheVariants as F
use Rattle.transfer_fast_polls.specs.Inner.Stays.{flag_set, AwaitsFlag}

-- the points that wait so
pub empty_awaits : (i : ℕ) → AwaitsFlag F.TxEmpty (WriteBlocking (Empty i))
unfolding next_at next_write store_at step_of step_write
empty_awaits i = record { reads = λ bytes t. refl; keeps = λ t v. refl; waits = λ len send_stop v unset. rw unset }

pub stop_awaits : (had : Tried) → AwaitsFlag F.StopDet (WriteBlocking (StopDet had))
unfolding next_at next_write store_at step_of step_write
stop_awaits had = record { reads = λ bytes t. refl; keeps = λ t v. refl; waits = λ len send_stop v unset. rw unset }

module _ (coded : Bool) (kinds lengths bytes : List ℕ) {readings : List ℕ} (t : Transfer) {s₀ : Transfer} {e₀ u₀ : ℕ}
    {l₀ b₀ : List ℕ} {p : Point} {flag : Flag} {e u : ℕ} {l b : List ℕ} where
  pub poll_unset : Reaches (machine coded kinds lengths bytes) readings s₀ e₀ u₀ l₀ b₀ (with_point t p) e u l b
      → AwaitsFlag flag p
      → flag_set flag (get_or readings u 0) ≡ false
      → e < length l₀ / 2 → u < length readings
      → Reaches (machine coded kinds lengths bytes) readings s₀ e₀ u₀ l₀ b₀ (with_point t p) (e + 1) (u + 1)
      (entered l e (0x100 + RAW_INTR_STAT) (get_or readings u 0)) b
  poll_unset g at unset room left =
      let M = machine coded kinds lengths bytes in
      let a : M.advance (with_point t p) (get_or readings u 0) ≡ with_point t p =
      rw (at.waits t.operation.len t.operation.send_stop (get_or readings u 0) unset) in
      rw (at.keeps (with_point t p) (get_or readings u 0)) at (did_read g (at.reads bytes (with_point t p)) room left a refl refl)

-- the points that wait for a flag
pub record Waiting (flag : Flag) : Type 0 where
  pub point : Point
  pub awaits : AwaitsFlag flag point

abbrev pub awaiting : (flag : Flag) → Waiting flag → Point
awaiting flag w = w.point
