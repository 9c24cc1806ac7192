-- The waits of the async forms.
use Prim.Native.Nat.{ℕ, ◌+◌, ◌/◌, ◌-◌, ◌<◌, ◌≤◌}
use native.Mathlib.Omega.{arith}
use mathlib.Core.Bool.{Bool, true, not}
use mathlib.Core.List.{List, [], ◌∷◌}
use mathlib.Core.Path.{◌≡◌, refl}
use lib.Dec.{eqb, ltb}
use lib.ListN.{length, get_or}
use borrow.Author.Tests.{eqb-true, not-true}
use Rattle.regs.proofs.Tests.{both_of}
use Rattle.regs.specs.Program.{PENDING}
use Rattle.regs.specs.Registers.{RXFLR, TXFLR, TX_ABRT_SOURCE, RAW_INTR_STAT, RX_TL, TX_TL, INTR_MASK}
use Rattle.regs.specs.Fields.{level, stop_det, set_m_rx_full, set_m_tx_empty, set_m_tx_abrt, set_m_stop_det}
use Rattle.regs.specs.Inner.Machine.{entered}
use Rattle.transfer.specs.Inner.Points.{with_point}
use Rattle.transfer.specs.Inner.Machine.{machine, next_at, next_round, next_abort, next_fill, next_wait, next_stop}
use Rattle.transfer.specs.Inner.Machine.{store_at, store_round, step_of, step_round, step_abort, step_fill, step_wait}
use Rattle.transfer.specs.Inner.Machine.{step_stop, returned, stop_returned, full_step, places, mask_for, poll_point}
use Rattle.transfer.specs.declared.Transfer.{Transfer}
use Rattle.transfer.specs.declared.Round.{Round}
use Rattle.transfer.specs.declared.Poll.{Poll}
use Rattle.transfer.specs.declared.Poll.TheVariants as O
use Rattle.transfer.specs.declared.Point.TheVariants.{Abort, ReadAsync, WriteAsync, Wait}
use Rattle.transfer.specs.declared.Point.TheVariants as P
use Rattle.transfer.specs.declared.RoundPoint.TheVariants.{Level}
use Rattle.transfer.specs.declared.FillPoint.TheVariants.{Full}
use Rattle.transfer.specs.declared.AbortPoint.TheVariants.{Source}
use Rattle.transfer.specs.declared.Caller.TheVariants as C
use Rattle.transfer.specs.declared.WaitPoint.TheVariants.{RxTl, TxTl, Mask, SetMask, Pending}
use Rattle.transfer.specs.declared.StopPoint.TheVariants.{Stat}
use Rattle.std.specs.Prelude.{Ok}
use Rattle.regs.specs.declared.access.Entry.TheVariants.{Read, Write, Marked}
use Rattle.regs_runs.specs.Inner.Puts.{put_all}
use Rattle.regs_runs.specs.Inner.Reaches.{Reaches}
use Rattle.regs_runs.proofs.Reach.{did_read, did_write, did_mark}
use Rattle.transfer_fast_polls.specs.Inner.Stays.{too_few, no_place, no_stop}

-- three entries: INTR_MASK, read and set, and the mark
abbrev pub waited : List ℕ → ℕ → ℕ → ℕ → List ℕ
waited l k mask set = entered (entered (entered l k (0x100 + INTR_MASK) mask) (k + 1) (0x200 + INTR_MASK) set) (k + 2) (0x300 + PENDING) 0

module _ (coded : Bool) (kinds lengths bytes : List ℕ) {readings : List ℕ} (t : Transfer) {s₀ : Transfer} {e₀ u₀ : ℕ}
    {l₀ b₀ : List ℕ} {e u : ℕ} {l b : List ℕ} where
  -- a poll that is not done, up to the next one
  masked : (p : Poll)
      → Reaches (machine coded kinds lengths bytes) readings s₀ e₀ u₀ l₀ b₀ (with_point t (Wait (Mask p))) e u l b
      → e + 3 ≤ length l₀ / 2
      → u < length readings
      → Reaches (machine coded kinds lengths bytes) readings s₀ e₀ u₀ l₀ b₀ (with_point t (poll_point p)) (e + 3) (u + 1)
      (waited l e (get_or readings u 0) (mask_for p (get_or readings u 0))) b
  unfolding next_at next_wait store_at step_of step_wait
  masked p g room left =
      let v = get_or readings u 0 in
      let g₁ = did_read g {s' = with_point t (Wait (SetMask p (mask_for p v)))} refl (omega (arith, room)) left refl refl refl in
      let q₂ : e + 2 ≡ e + 1 + 1 = omega arith in
      let g₂ = did_write g₁ {r = INTR_MASK} {x = mask_for p v} {s' = with_point t (Wait (Pending p))} refl (omega (arith, room)) refl q₂ in
      let q₃ : e + 3 ≡ e + 2 + 1 = omega arith in
      did_mark g₂ {x = PENDING} refl (omega (arith, room)) refl q₃

module _ (coded : Bool) (kinds lengths bytes : List ℕ) {readings : List ℕ} (t : Transfer) {s₀ : Transfer} {e₀ u₀ : ℕ}
    {l₀ b₀ : List ℕ} {e u : ℕ} {l b : List ℕ} where
  pub batch_waits : {x : Round}
      → Reaches (machine coded kinds lengths bytes) readings s₀ e₀ u₀ l₀ b₀ (with_point t (ReadAsync (Level x))) e u l b
      → too_few x.batch (get_or readings u 0) (get_or readings (u + 1) 0) ≡ true
      → e + 6 ≤ length l₀ / 2 → u + 3 ≤ length readings
      → Reaches (machine coded kinds lengths bytes) readings s₀ e₀ u₀ l₀ b₀ (with_point t (ReadAsync (Level x))) (e + 6) (u + 3)
      (put_all l e (Read RXFLR (get_or readings u 0) ∷ Read TX_ABRT_SOURCE (get_or readings (u + 1) 0) ∷ Write RX_TL (x.batch - 1)
      ∷ Read INTR_MASK (get_or readings (u + 2) 0) ∷ Write INTR_MASK (set_m_tx_abrt (set_m_rx_full (get_or readings (u + 2) 0)))
      ∷ Marked PENDING ∷ [])) b
  unfolding next_at next_round next_abort next_wait store_at store_round step_of step_round step_abort step_wait
      returned mask_for poll_point
  batch_waits {x} g few room left =
      let M = machine coded kinds lengths bytes in
      let both = both_of (ltb (level (get_or readings u 0)) x.batch) (eqb (get_or readings (u + 1) 0) 0) few in
      let g₁ = did_read g {s' = with_point t (Abort Source (C.Batch x (level (get_or readings u 0))))} refl
      (omega (arith, room)) (omega (arith, left)) refl refl refl in
      let q₂ : e + 2 ≡ e + 1 + 1 = omega arith in
      let v₂ : u + 2 ≡ u + 1 + 1 = omega arith in
      let a₂ : M.advance (with_point t (Abort Source (C.Batch x (level (get_or readings u 0)))))
      (get_or readings (u + 1) 0)
      ≡ with_point t (Wait (RxTl x)) = rw (both.1, both.0) in
      let g₂ = did_read g₁ refl (omega (arith, room)) (omega (arith, left)) a₂ q₂ v₂ in
      let q₃ : e + 3 ≡ e + 2 + 1 = omega arith in
      let g₃ = did_write g₂ {r = RX_TL} {x = x.batch - 1} {s' = with_point t (Wait (Mask (O.Batch x)))} refl
      (omega (arith, room)) refl q₃ in
      let q₄ : e + 3 + 1 ≡ e + 4 = omega arith in
      let q₅ : e + 3 + 2 ≡ e + 5 = omega arith in
      let q₆ : e + 3 + 3 ≡ e + 6 = omega arith in
      let v₃ : u + 2 + 1 ≡ u + 3 = omega arith in
      rw (q₄, q₅, q₆, v₃) at (masked coded kinds lengths bytes t (O.Batch x) g₃ (omega (arith, room)) (omega (arith, left)))

  pub space_waits : {i : ℕ}
      → Reaches (machine coded kinds lengths bytes) readings s₀ e₀ u₀ l₀ b₀ (with_point t (Abort Source (C.Space i))) e u
      l b
      → no_place (get_or readings u 0) (get_or readings (u + 1) 0) ≡ true
      → e + 6 ≤ length l₀ / 2 → u + 3 ≤ length readings
      → Reaches (machine coded kinds lengths bytes) readings s₀ e₀ u₀ l₀ b₀ (with_point t (Abort Source (C.Space i))) (e + 6) (u + 3)
      (put_all l e (Read TX_ABRT_SOURCE (get_or readings u 0) ∷ Read TXFLR (get_or readings (u + 1) 0) ∷ Write TX_TL 1
      ∷ Read INTR_MASK (get_or readings (u + 2) 0) ∷ Write INTR_MASK (set_m_tx_abrt (set_m_tx_empty (get_or readings (u + 2) 0)))
      ∷ Marked PENDING ∷ [])) b
  unfolding next_at next_abort next_fill next_wait store_at step_of step_abort step_fill step_wait returned
      full_step places mask_for poll_point
  space_waits {i} g full room left =
      let M = machine coded kinds lengths bytes in
      let both = both_of (eqb (get_or readings u 0) 0) (eqb (level (get_or readings (u + 1) 0)) 16) full in
      let all : level (get_or readings (u + 1) 0) ≡ 16 = eqb-true (level (get_or readings (u + 1) 0)) 16 both.1 in
      let a₁ : M.advance (with_point t (Abort Source (C.Space i))) (get_or readings u 0)
      ≡ with_point t (WriteAsync (Full i)) = rw both.0 in
      let g₁ = did_read g refl (omega (arith, room)) (omega (arith, left)) a₁ refl refl in
      let q₂ : e + 2 ≡ e + 1 + 1 = omega arith in
      let v₂ : u + 2 ≡ u + 1 + 1 = omega arith in
      let a₂ : M.advance (with_point t (WriteAsync (Full i))) (get_or readings (u + 1) 0) ≡ with_point t (Wait (TxTl i)) = rw all in
      let g₂ = did_read g₁ refl (omega (arith, room)) (omega (arith, left)) a₂ q₂ v₂ in
      let q₃ : e + 3 ≡ e + 2 + 1 = omega arith in
      let g₃ = did_write g₂ {r = TX_TL} {x = 1} {s' = with_point t (Wait (Mask (O.Space i)))} refl (omega (arith, room)) refl q₃ in
      let q₄ : e + 3 + 1 ≡ e + 4 = omega arith in
      let q₅ : e + 3 + 2 ≡ e + 5 = omega arith in
      let q₆ : e + 3 + 3 ≡ e + 6 = omega arith in
      let v₃ : u + 2 + 1 ≡ u + 3 = omega arith in
      rw (q₄, q₅, q₆, v₃) at (masked coded kinds lengths bytes t (O.Space i) g₃ (omega (arith, room)) (omega (arith, left)))

  pub stop_waits : Reaches (machine coded kinds lengths bytes) readings s₀ e₀ u₀ l₀ b₀
      (with_point t (Abort Source (C.Stop (Ok tt)))) e u l b
      → no_stop (get_or readings u 0) (get_or readings (u + 1) 0) ≡ true
      → e + 5 ≤ length l₀ / 2 → u + 3 ≤ length readings
      → Reaches (machine coded kinds lengths bytes) readings s₀ e₀ u₀ l₀ b₀ (with_point t (Abort Source (C.Stop (Ok tt)))) (e + 5) (u + 3)
      (put_all l e (Read TX_ABRT_SOURCE (get_or readings u 0) ∷ Read RAW_INTR_STAT (get_or readings (u + 1) 0)
      ∷ Read INTR_MASK (get_or readings (u + 2) 0) ∷ Write INTR_MASK (set_m_tx_abrt (set_m_stop_det (get_or readings (u + 2) 0)))
      ∷ Marked PENDING ∷ [])) b
  unfolding next_at next_abort next_stop next_wait store_at step_of step_abort step_stop step_wait returned
      stop_returned mask_for poll_point
  stop_waits g going room left =
      let M = machine coded kinds lengths bytes in
      let both = both_of (eqb (get_or readings u 0) 0) (not (stop_det (get_or readings (u + 1) 0))) going in
      let a₁ : M.advance (with_point t (Abort Source (C.Stop (Ok tt)))) (get_or readings u 0)
      ≡ with_point t (P.Stop (Stat (Ok tt))) = rw both.0 in
      let g₁ = did_read g refl (omega (arith, room)) (omega (arith, left)) a₁ refl refl in
      let q₂ : e + 2 ≡ e + 1 + 1 = omega arith in
      let v₂ : u + 2 ≡ u + 1 + 1 = omega arith in
      let a₂ : M.advance (with_point t (P.Stop (Stat (Ok tt)))) (get_or readings (u + 1) 0)
      ≡ with_point t (Wait (Mask (O.Stop (Ok tt)))) =
      rw (not-true (stop_det (get_or readings (u + 1) 0)) both.1) in
      let g₂ = did_read g₁ refl (omega (arith, room)) (omega (arith, left)) a₂ q₂ v₂ in
      let q₃ : e + 2 + 1 ≡ e + 3 = omega arith in
      let q₄ : e + 2 + 2 ≡ e + 4 = omega arith in
      let q₅ : e + 2 + 3 ≡ e + 5 = omega arith in
      let v₃ : u + 2 + 1 ≡ u + 3 = omega arith in
      rw (q₃, q₄, q₅, v₃) at (masked coded kinds lengths bytes t (O.Stop (Ok tt)) g₂ (omega (arith, room)) (omega (arith, left)))
