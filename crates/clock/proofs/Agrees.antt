-- The machine does what `set_config` does.
use Prim.Native.Nat.{ℕ, ◌+◌, ◌-◌, ◌<◌, ◌≤◌}
use native.Mathlib.Omega.{arith}
use mathlib.Core.Bool.{false}
use mathlib.Core.List.{List}
use mathlib.Core.Path.{◌≡◌, refl}
use lib.Dec.{eqb, ltb}
use borrow.Author.Tests.{ltb-true, ltb-false, lt-ltb, le-ltb}
use Rattle.regs.proofs.Tests.{by_test}
use Rattle.regs.specs.Program.{ends}
use Rattle.regs.specs.declared.answers.Refusal.TheVariants.{ClockTooSlow}
use Rattle.regs.proofs.Refine.{Agree, ends_agree, reads_agree, writes_agree}
use Rattle.clock_setting.specs.SetConfig.{set_config, set_counts, set_registers, period, lcnt_of, hcnt_of}
use Rattle.clock_setting.specs.SetConfig.{hold_below_1_mhz, hold_at_1_mhz, spklen, as_u16}
use Rattle.clock_setting.specs.Datasheet.{hcnt, lcnt, hold}
use Rattle.clock_setting.proofs.Table.{small}
use Rattle.clock.specs.Inner.Machine.{machine, setting, fits, reaches, holds, unless, start_of, after_disable}
use Rattle.clock.specs.declared.Counts.{Counts}
use Rattle.regs.specs.declared.answers.Refusal.{Refusal}
use Rattle.std.specs.Prelude.{Result, Ok, Err}

-- the machine at two limits of row 5, computed: a high count of 7, and 1 MHz at 32,000,000 Hz
limits : (setting 100000 1700000 ≡ Err ClockTooSlow) × (setting 1000000 32000000 ≡ Err ClockTooSlow)
unfolding fits reaches holds hold hold_below_1_mhz hold_at_1_mhz period lcnt_of hcnt_of
limits = (refl, refl)

-- the hold rule as the machine tests it
hold_test : (l d : ℕ) → 0 < d → ltb l (d + 2) ≡ ltb (l - 2) d
hold_test l d h =
    by_test (ltb (l - 2) d)
    (λ q. let a : l - 2 < d = ltb-true (l - 2) d q in rw (q, lt-ltb l (d + 2) (omega arith)))
    (λ q. let a : d ≤ l - 2 = ltb-false (l - 2) d q in rw (q, le-ltb l (d + 2) (omega arith)))

module _ (f clk h l : ℕ) where
  abbrev legal : ℕ → Result Counts Refusal
  legal d = Ok (record { hcnt = h; lcnt = l; spklen = spklen l; hold = d })

  -- the counts are written
  written : (d m n : ℕ) (b : List ℕ)
      → ltb 0xffff h ≡ false
      → ltb 0xffff l ≡ false
      → ltb (l - 2) d ≡ false
      → Agree machine m (after_disable (legal d)) b b tt (set_registers h l d n ends)
  written d m n b qh ql qd =
      let a : d ≤ l - 2 = ltb-false (l - 2) d qd in
      let c : l ≤ 65535 = ltb-false 65535 l ql in
      let e : as_u16 d ≡ d = omega arith in
      rw (small h qh, small l ql, e)
      (writes_agree machine m refl (λ m₁ l₁. writes_agree machine m₁ refl (λ m₂ l₂. writes_agree machine m₂ refl (λ m₃ l₃.
      reads_agree machine m₃ refl (λ m₄ l₄ v. writes_agree machine m₄ refl
      (λ m₅ l₅. writes_agree machine m₅ refl (λ m₆ l₆. ends_agree machine m₆ refl)))))))

  -- the tests of the counts, in the Rust's order
  tested : (m n : ℕ) (b : List ℕ)
      → Agree machine m (after_disable (unless (fits h l) (unless (reaches h l) (unless (holds f clk l (hold f clk)) (legal (hold f clk)))))) b
      b tt (set_counts f clk h l n ends)
  unfolding fits reaches holds hold hold_below_1_mhz hold_at_1_mhz
  tested m n b =
      by_test (ltb 0xffff h) (λ q. rw q (ends_agree machine m refl)) (λ qh. rw qh
      (by_test (ltb 0xffff l) (λ q. rw q (ends_agree machine m refl)) (λ ql. rw ql
      (by_test (ltb h 8) (λ q. rw q (ends_agree machine m refl)) (λ q₃. rw q₃
      (by_test (ltb l 8) (λ q. rw q (ends_agree machine m refl)) (λ q₄. rw q₄
      (by_test (ltb f 1000000)
      (λ q. rw (q, hold_test l (hold_below_1_mhz clk) (omega arith))
      (by_test (ltb (l - 2) (hold_below_1_mhz clk)) (λ q. rw q (ends_agree machine m refl))
      (λ qd. rw qd (written (hold_below_1_mhz clk) m n b qh ql qd))))
      (λ q. rw q
      (by_test (ltb clk 32000001) (λ q. rw q (ends_agree machine m refl)) (λ q₆. rw (q₆, hold_test l (hold_at_1_mhz clk) (omega arith))
      (by_test (ltb (l - 2) (hold_at_1_mhz clk)) (λ q. rw q (ends_agree machine m refl))
      (λ qd. rw qd (written (hold_at_1_mhz clk) m n b qh ql qd))))))))))))))

pub set_config_agrees : (f clk m n : ℕ) → m ≤ n → (b : List ℕ) → Agree machine m (start_of f clk) b b tt (set_config f clk n ends)
unfolding set_config
set_config_agrees f clk m n h b =
    by_test (ltb 1000000 f) (λ q. rw q (ends_agree machine m refl)) (λ q₁. rw q₁
    (by_test (eqb f 0) (λ q. rw q (ends_agree machine m refl)) (λ q₂. rw q₂
    (by_test (ltb 1431655765 clk) (λ q. rw q (ends_agree machine m refl)) (λ q₃. rw q₃
    (writes_agree machine m refl (λ m₁ l₁. tested f clk (hcnt f clk) (lcnt f clk) m₁ n b)))))))
