-- A blocking read, byte after byte.
use Prim.Native.Nat.{ℕ, ◌+◌, ◌/◌, ◌-◌, ◌<◌, ◌≤◌}
use native.Mathlib.Omega.{arith}
use mathlib.Core.Bool.{Bool, true, false, ◌&&◌, and-false}
use mathlib.Core.List.{List}
use mathlib.Core.Path.{◌≡◌, refl}
use lib.Dec.{eqb}
use lib.ListN.{length, get_or, set}
use borrow.Author.Tests.{lt-ltb, le-ltb, ne_eqb}
use Rattle.regs.specs.Registers.{DATA_CMD, TXFLR, RXFLR}
use Rattle.regs.specs.Fields.{level, dat, command_word}
use Rattle.regs.specs.Inner.Machine.{entered}
use Rattle.transfer.specs.Inner.Points.{with_point}
use Rattle.transfer.specs.Inner.Machine.{machine, next_at, next_read, read_word, store_at, store_read, step_of}
use Rattle.transfer.specs.Inner.Machine.{step_read, room_step, level_step, places, sum_of}
use Rattle.transfer.specs.declared.Transfer.{Transfer}
use Rattle.transfer.specs.declared.Point.TheVariants.{ReadBlocking}
use Rattle.transfer.specs.declared.ReadPoint.TheVariants.{Room, Ask, Level, Take}
use Rattle.regs_runs.specs.Inner.Reaches.{Reaches}
use Rattle.regs_runs.proofs.Reach.{did_read, did_write}

module _ (coded : Bool) (kinds lengths bytes : List ℕ) {readings : List ℕ} (t : Transfer) {s₀ : Transfer} {e₀ u₀ : ℕ}
    {l₀ b₀ : List ℕ} {i e u : ℕ} {l b : List ℕ} where
  pub byte_read : Reaches (machine coded kinds lengths bytes) readings s₀ e₀ u₀ l₀ b₀ (with_point t (ReadBlocking (Room i))) e u l b
      → e + 4 ≤ length l₀ / 2
      → u + 3 ≤ length readings
      → level (get_or readings u 0) < 16
      → (level (get_or readings (u + 1) 0) ≡ 0 → ⊥)
      → i + 1 < t.operation.len
      → Reaches (machine coded kinds lengths bytes) readings s₀ e₀ u₀ l₀ b₀ (with_point t (ReadBlocking (Room (i + 1)))) (e + 4) (u + 3)
      (entered (entered (entered (entered l e (0x100 + TXFLR) (get_or readings u 0)) (e + 1) (0x200 + DATA_CMD)
      (command_word 0 true false (t.operation.restart && eqb i 0)))
      (e + 2) (0x100 + RXFLR) (get_or readings (u + 1) 0))
      (e + 3) (0x100 + DATA_CMD) (get_or readings (u + 2) 0))
      (set b (sum_of t.operation.at i) (dat (get_or readings (u + 2) 0)))
  unfolding next_at next_read read_word store_at store_read step_of step_read room_step level_step places
  byte_read g room left free filled more =
      let n = level (get_or readings u 0) in
      let M = machine coded kinds lengths bytes in
      let a : M.advance (with_point t (ReadBlocking (Room i))) (get_or readings u 0) ≡ with_point t (ReadBlocking (Ask i)) =
      rw (le-ltb 16 n (omega (arith, free)), ne_eqb (16 - n) 0 (λ (z : 16 - n ≡ 0). omega (arith, free, z))) in
      let g₁ = did_read g refl (omega (arith, room)) (omega (arith, left)) a refl refl in
      let q₂ : e + 2 ≡ e + 1 + 1 = omega arith in
      let g₂ = did_write g₁ {r = DATA_CMD} {x = command_word 0 true false (t.operation.restart && eqb i 0)}
      (rw (ne_eqb i (t.operation.len - 1) (λ (z : i ≡ t.operation.len - 1). omega (arith, more, z)), and-false))
      (omega (arith, room)) refl q₂ in
      let v₃ : u + 2 ≡ u + 1 + 1 = omega arith in
      let q₃ : e + 3 ≡ e + 2 + 1 = omega arith in
      let a₃ : M.advance (with_point t (ReadBlocking (Level i))) (get_or readings (u + 1) 0)
      ≡ with_point t (ReadBlocking (Take i)) = rw (ne_eqb (level (get_or readings (u + 1) 0)) 0 filled) in
      let g₃ = did_read g₂ refl (omega (arith, room)) (omega (arith, left)) a₃ q₃ v₃ in
      let v₄ : u + 3 ≡ u + 2 + 1 = omega arith in
      let q₄ : e + 4 ≡ e + 3 + 1 = omega arith in
      let a₄ : M.advance (with_point t (ReadBlocking (Take i))) (get_or readings (u + 2) 0) ≡ with_point t (ReadBlocking (Room (i + 1))) =
      rw (lt-ltb i t.operation.len (omega (arith, more)), lt-ltb (i + 1) t.operation.len more) in
      did_read g₃ refl (omega (arith, room)) (omega (arith, left)) a₄ q₄ v₄
