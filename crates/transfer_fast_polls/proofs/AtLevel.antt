-- A blocking read waits for its byte.
use Prim.Native.Nat.{ℕ, ◌+◌, ◌/◌, ◌≤◌}
use native.Mathlib.Omega.{arith}
use mathlib.Core.Bool.{Bool, true}
use mathlib.Core.List.{List}
use mathlib.Core.Path.{◌≡◌, refl}
use lib.Dec.{eqb}
use lib.ListN.{length, get_or}
use Rattle.regs.proofs.Tests.{both_of}
use Rattle.regs.specs.Registers.{RXFLR, TX_ABRT_SOURCE}
use Rattle.regs.specs.Fields.{level}
use Rattle.regs.specs.Inner.Machine.{entered}
use Rattle.transfer.specs.Inner.Points.{with_point}
use Rattle.transfer.specs.Inner.Machine.{machine, next_at, next_read, next_abort, store_at, store_read, step_of}
use Rattle.transfer.specs.Inner.Machine.{step_read, level_step, step_abort, returned}
use Rattle.transfer.specs.declared.Transfer.{Transfer}
use Rattle.transfer.specs.declared.Point.{Point}
use Rattle.transfer.specs.declared.Point.TheVariants.{ReadBlocking, Abort}
use Rattle.transfer.specs.declared.ReadPoint.TheVariants.{Level}
use Rattle.transfer.specs.declared.AbortPoint.TheVariants.{Source}
use Rattle.transfer.specs.declared.Caller.TheVariants.{Read}
use Rattle.regs_runs.specs.Inner.Reaches.{Reaches}
use Rattle.regs_runs.proofs.Reach.{did_read}
use Rattle.transfer_fast_polls.specs.Inner.Stays.{no_byte}

module _ (coded : Bool) (kinds lengths bytes : List ℕ) {readings : List ℕ} (t : Transfer) {s₀ : Transfer} {e₀ u₀ : ℕ}
    {l₀ b₀ : List ℕ} {i e u : ℕ} {l b : List ℕ} where
  pub poll_empty : Reaches (machine coded kinds lengths bytes) readings s₀ e₀ u₀ l₀ b₀ (with_point t (ReadBlocking (Level i)))
      e u l b
      → no_byte (get_or readings u 0) (get_or readings (u + 1) 0) ≡ true
      → e + 2 ≤ length l₀ / 2 → u + 2 ≤ length readings
      → Reaches (machine coded kinds lengths bytes) readings s₀ e₀ u₀ l₀ b₀ (with_point t (ReadBlocking (Level i))) (e + 2) (u + 2)
      (entered (entered l e (0x100 + RXFLR) (get_or readings u 0)) (e + 1) (0x100 + TX_ABRT_SOURCE) (get_or readings (u + 1) 0)) b
  unfolding next_at next_read next_abort store_at store_read step_of step_read level_step step_abort returned
  poll_empty g empty room left =
      let M = machine coded kinds lengths bytes in
      let both = both_of (eqb (level (get_or readings u 0)) 0) (eqb (get_or readings (u + 1) 0) 0) empty in
      let a₁ : M.advance (with_point t (ReadBlocking (Level i))) (get_or readings u 0)
      ≡ with_point t (Abort Source (Read i)) = rw both.0 in
      let g₁ = did_read g refl (omega (arith, room)) (omega (arith, left)) a₁ refl refl in
      let q₂ : e + 2 ≡ e + 1 + 1 = omega arith in
      let v₂ : u + 2 ≡ u + 1 + 1 = omega arith in
      let a₂ : M.advance (with_point t (Abort Source (Read i))) (get_or readings (u + 1) 0)
      ≡ with_point t (ReadBlocking (Level i)) = rw both.1 in
      did_read g₁ refl (omega (arith, room)) (omega (arith, left)) a₂ q₂ v₂

-- the points that wait for a byte
abbrev pub at_level : ℕ → Point
at_level i = ReadBlocking (Level i)
