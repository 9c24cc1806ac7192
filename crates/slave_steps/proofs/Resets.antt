-- The machine's points of a reset do what `reset` does.
use Prim.Native.Nat.{ℕ, ◌≤◌}
use mathlib.Core.Bool.{Bool, true}
use mathlib.Core.List.{List}
use mathlib.Core.Path.{refl, ◌≡◌}
use lib.Dec.{eqb}
use Rattle.regs.proofs.Tests.{by_test}
use Rattle.regs.specs.Program.{ends}
use Rattle.regs.specs.Steps.{Machine}
use Rattle.regs.proofs.Refine.{Agree, ends_agree, reads_agree, writes_agree, marks_agree, asks_agree, keeps_agree}
use Rattle.slave.specs.I2cSlave.{reset, reset_call}
use Rattle.slave_steps.specs.Inner.Machine.{machine, start_reset, next_reset}
use Rattle.slave_steps.specs.declared.reset.ResetPoint.TheVariants as R
use Rattle.regs.specs.declared.access.Next.TheVariants as N
use Rattle.regs.specs.Registers.{CON}
use Rattle.regs.specs.Fields.{con_slave}
use Rattle.slave.specs.declared.SlaveState.{SlaveState}

-- The word that CON is set to. At one word first: were another one written, to compare both at every word would take too long.
con_back : (address : ℕ) (g : Bool) (w : ℕ) → next_reset address g (R.ConBack w) ≡ N.Write CON (con_slave g w)
con_back address g w =
    let e : next_reset 0 true (R.ConBack 0) ≡ N.Write CON (con_slave true 0) = refl in refl

module _ (bytes : List ℕ) where
  abbrev M : Machine
  M = machine bytes

  pub reset_agrees : (address : ℕ) (g : Bool) (me : SlaveState) (b : List ℕ) (m n : ℕ) → m ≤ n
      → Agree M m (start_reset me address g) b b me (reset_call address g n ends)
  unfolding reset_call reset
  reset_agrees address g me b m n h =
      by_test (eqb address 0)
      (λ q. rw q (ends_agree M m refl))
      (λ q. rw q
      (marks_agree M m refl (λ m₁ l₁.
      asks_agree M m₁ (keeps_agree M m₁ (asks_agree M m₁
      (writes_agree M m₁ refl (λ m₂ l₂.
      writes_agree M m₂ refl (λ m₃ l₃.
      reads_agree M m₃ refl (λ m₄ l₄ w.
      writes_agree M m₄ (con_back address g w) (λ m₅ l₅.
      writes_agree M m₅ refl (λ m₆ l₆.
      writes_agree M m₆ refl (λ m₇ l₇.
      writes_agree M m₇ refl (λ m₈ l₈.
      reads_agree M m₈ refl (λ m₉ l₉ v.
      writes_agree M m₉ refl (λ m₁₀ l₁₀.
      writes_agree M m₁₀ refl (λ m₁₁ l₁₁.
      ends_agree M m₁₁ refl))))))))))))))))
