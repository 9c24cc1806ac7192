-- A blocking write, byte after byte.
use Prim.Native.Nat.{ℕ, ◌+◌, ◌/◌, ◌-◌, ◌<◌, ◌≤◌}
use native.Mathlib.Omega.{arith}
use mathlib.Core.Bool.{Bool, true, false, and-false}
use mathlib.Core.List.{List}
use mathlib.Core.Path.{◌≡◌, refl}
use lib.Dec.{eqb}
use lib.ListN.{length, get_or}
use borrow.Author.Tests.{lt-ltb, eq-eqb, ne_eqb}
use Rattle.regs.specs.Registers.{DATA_CMD, RAW_INTR_STAT, TX_ABRT_SOURCE}
use Rattle.regs.specs.Fields.{tx_empty, command_word}
use Rattle.regs.specs.Inner.Machine.{entered}
use Rattle.transfer.specs.Inner.Points.{with_point}
use Rattle.transfer.specs.Inner.Machine.{machine, next_at, next_write, next_abort, write_word, store_at, step_of}
use Rattle.transfer.specs.Inner.Machine.{step_write, step_abort, returned, closes}
use Rattle.transfer.specs.declared.Transfer.{Transfer}
use Rattle.transfer.specs.declared.Point.TheVariants.{WriteBlocking, Abort}
use Rattle.transfer.specs.declared.WritePoint.TheVariants.{Send, Empty}
use Rattle.transfer.specs.declared.AbortPoint.TheVariants.{Source}
use Rattle.transfer.specs.declared.Caller.TheVariants.{Write}
use Rattle.regs_runs.specs.Inner.Reaches.{Reaches}
use Rattle.regs_runs.proofs.Reach.{did_read, did_write}

module _ (coded : Bool) (kinds lengths bytes : List ℕ) {readings : List ℕ} (t : Transfer) {s₀ : Transfer} {e₀ u₀ : ℕ}
    {l₀ b₀ : List ℕ} {i e u : ℕ} {l b : List ℕ} where
  pub byte_written : Reaches (machine coded kinds lengths bytes) readings s₀ e₀ u₀ l₀ b₀ (with_point t (WriteBlocking (Send i))) e u l b
      → e + 3 ≤ length l₀ / 2 → u + 2 ≤ length readings → tx_empty (get_or readings u 0) ≡ true → get_or readings (u + 1) 0 ≡ 0 → i + 1 < t.operation.len
      → Reaches (machine coded kinds lengths bytes) readings s₀ e₀ u₀ l₀ b₀ (with_point t (WriteBlocking (Send (i + 1)))) (e + 3) (u + 2)
      (entered (entered (entered l e (0x200 + DATA_CMD) (command_word (get_or bytes (t.operation.at + i) 0) false false false))
      (e + 1) (0x100 + RAW_INTR_STAT) (get_or readings u 0))
      (e + 2) (0x100 + TX_ABRT_SOURCE) (get_or readings (u + 1) 0))
      b
  unfolding next_at next_write next_abort write_word store_at step_of step_write step_abort returned closes
  byte_written g room left sent quiet more =
      let M = machine coded kinds lengths bytes in
      let last : eqb i (t.operation.len - 1) ≡ false = ne_eqb i (t.operation.len - 1) (λ (z : i ≡ t.operation.len - 1). omega (arith, more, z)) in
      let g₁ = did_write g {r = DATA_CMD} {x = command_word (get_or bytes (t.operation.at + i) 0) false false false}
      (rw (last, and-false)) (omega (arith, room)) refl refl in
      let q₂ : e + 2 ≡ e + 1 + 1 = omega arith in
      let a₂ : M.advance (with_point t (WriteBlocking (Empty i))) (get_or readings u 0) ≡ with_point t (Abort Source (Write i)) = rw sent in
      let g₂ = did_read g₁ refl (omega (arith, room)) (omega (arith, left)) a₂ q₂ refl in
      let v₃ : u + 2 ≡ u + 1 + 1 = omega arith in
      let q₃ : e + 3 ≡ e + 2 + 1 = omega arith in
      let a₃ : M.advance (with_point t (Abort Source (Write i))) (get_or readings (u + 1) 0) ≡ with_point t (WriteBlocking (Send (i + 1))) =
      rw (
        eq-eqb (get_or readings (u + 1) 0) 0 quiet,
        last,
        and-false,
        lt-ltb i t.operation.len (omega (arith, more)),
        lt-ltb (i + 1) t.operation.len more,
      ) in
      did_read g₂ refl (omega (arith, room)) (omega (arith, left)) a₃ q₃ v₃
