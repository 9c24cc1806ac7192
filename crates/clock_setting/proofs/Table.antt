-- The number and the log of every setting are those of the first row of the table of refusals that applies.
use Prim.Native.Nat.{ℕ, zero, suc, ◌-◌, ◌/◌, ◌<◌, ◌≤◌}
use native.Mathlib.Omega.{arith}
use mathlib.Core.Bool.{true, false}
use mathlib.Core.List.{List, [], ◌∷◌}
use mathlib.Core.Logic.{◌⊎◌, inl, inr}
use mathlib.Core.Path.{◌≡◌, refl}
use lib.Dec.{eqb, ltb}
use lib.ListN.{length}
use borrow.Author.Tests.{ltb-true, ltb-false, eqb-true, eqb-false}
use Rattle.regs.proofs.Tests.{by_test}
use Rattle.regs.specs.Program.{Behaviour, ends, reads, writes, Outcome, outcome}
use Rattle.regs.specs.Registers.{ENABLE, FS_SCL_HCNT, FS_SCL_LCNT, FS_SPKLEN, SDA_HOLD}
use Rattle.regs.specs.Fields.{set_ic_sda_tx_hold}
use Rattle.regs.specs.Answers.{number}
use Rattle.regs.specs.Log.{expected, reads_in}
use Rattle.regs.specs.declared.answers.Answer.{Answer}
use Rattle.regs.specs.declared.answers.Answer.TheVariants.{Accepted, Refused}
use Rattle.regs.specs.declared.answers.Refusal.TheVariants.{FrequencyTooHigh, FrequencyZero, ClockOutOfRange, ClockTooFast, ClockTooSlow}
use Rattle.regs.specs.declared.answers.Reply.{Reply}
use Rattle.regs.specs.declared.answers.Reply.TheVariants.{Answered, LogFull, OutOfReadings}
use Rattle.clock_setting.specs.SetConfig.{set_config, set_counts, hold_below_1_mhz, hold_at_1_mhz, spklen, as_u16}
use Rattle.clock_setting.specs.Datasheet.{hcnt, lcnt, hold}
use Rattle.clock_setting.specs.Table.{Cause, row, FirstRow, log_of, ByTable}
use Rattle.clock_setting.specs.Table.Cause.{frequency_above, frequency_zero, clock_above, hcnt_above, lcnt_above, hcnt_below}
use Rattle.clock_setting.specs.Table.Cause.{lcnt_below, clock_not_above, hold_above}

-- 1 and 2 come before 3: with a clock out of range, computed
pub before_3 : (number (expected (set_config 1000001 1431655766) [] [] [] tt).answer ≡ 1)
    × (number (expected (set_config 0 1431655766) [] [] [] tt).answer ≡ 2)
unfolding outcome set_config
before_3 = (refl, refl)

pub small : (n : ℕ) → ltb 0xffff n ≡ false → as_u16 n ≡ n
small n q = let h : n ≤ 65535 = ltb-false 65535 n q in omega arith

-- what a setting does whose first row is k
abbrev pub does : ℕ → ℕ → ℕ → Behaviour (Unit {0}) Answer
does zero f clk =
    writes ENABLE 0 (writes FS_SCL_HCNT (hcnt f clk) (writes FS_SCL_LCNT (lcnt f clk) (writes FS_SPKLEN (spklen (lcnt f clk))
    (reads SDA_HOLD (λ v. writes SDA_HOLD (set_ic_sda_tx_hold (hold f clk) v) (writes ENABLE 1 (ends Accepted)))))))
does (suc zero) f clk = ends (Refused FrequencyTooHigh)
does (suc (suc zero)) f clk = ends (Refused FrequencyZero)
does (suc (suc (suc zero))) f clk = ends (Refused ClockOutOfRange)
does (suc (suc (suc (suc zero)))) f clk = writes ENABLE 0 (ends (Refused ClockTooFast))
does (suc (suc (suc (suc (suc k))))) f clk = writes ENABLE 0 (ends (Refused ClockTooSlow))

hold_below : (f clk : ℕ) → ltb f 1000000 ≡ true → hold_below_1_mhz clk ≡ hold f clk
unfolding hold
hold_below f clk q = rw q

hold_at : (f clk : ℕ) → ltb f 1000000 ≡ false → hold_at_1_mhz clk ≡ hold f clk
unfolding hold
hold_at f clk q = rw q

module _ (f clk : ℕ) where
  -- what holds if row k applies
  abbrev Says : ℕ → Type 0
  Says k =
      (1 ≤ k) × (k ≤ 5) × (k ≡ 1 → 1000000 < f) × (k ≡ 2 → f ≡ 0) × (k ≡ 3 → 1431655765 < clk)
      × (k ≡ 4 → hcnt f clk ≤ 65535 → 65535 < lcnt f clk)
      × (k ≡ 5 → 8 ≤ hcnt f clk → 8 ≤ lcnt f clk → (f ≡ 1000000 → 32000000 < clk) → lcnt f clk - 2 < hold f clk)

  says : (c : Cause f clk) → Says (row c)
  says (frequency_above h) = omega arith
  says (frequency_zero h) = omega arith
  says (clock_above h) = omega arith
  says (hcnt_above h) = omega arith
  says (lcnt_above h) = omega arith
  says (hcnt_below h) = omega arith
  says (lcnt_below h) = omega arith
  says (clock_not_above e h) =
      (omega arith, omega arith, omega arith, omega arith, omega arith, omega arith, λ k a b w. omega (arith, w e))
  says (hold_above h) = omega arith

  -- no row before k applies
  abbrev From : ℕ → Type 0
  From k = (c : Cause f clk) → k ≤ row c

  from_1 : From 1
  from_1 c = (says c).0

  next : (k : ℕ) → From k → ((c : Cause f clk) → row c ≡ k → ⊥) → From (suc k)
  next k g n c = omega (arith, g c, n c)

  from_2 : ltb 1000000 f ≡ false → From 2
  from_2 q = next 1 from_1 (λ c e. omega (arith, ltb-false 1000000 f q, (says c).2 e))

  from_3 : From 2 → eqb f 0 ≡ false → From 3
  from_3 g q = next 2 g (λ c e. eqb-false f 0 q ((says c).3 e))

  from_4 : From 3 → ltb 1431655765 clk ≡ false → From 4
  from_4 g q = next 3 g (λ c e. omega (arith, ltb-false 1431655765 clk q, (says c).4 e))

  from_5 : From 4 → ltb 0xffff (hcnt f clk) ≡ false → ltb 0xffff (lcnt f clk) ≡ false → From 5
  from_5 g q₁ q₂ = next 4 g (λ c e.
      omega (arith, ltb-false 65535 (lcnt f clk) q₂, (says c).5 e (ltb-false 65535 (hcnt f clk) q₁)))

  none : From 5
      → ltb (hcnt f clk) 8 ≡ false
      → ltb (lcnt f clk) 8 ≡ false
      → (f ≡ 1000000 → 32000000 < clk)
      → ltb (lcnt f clk - 2) (hold f clk) ≡ false
      → FirstRow 0 f clk
  none g q₁ q₂ w q₃ c =
      let e : row c ≡ 5 = omega (arith, g c, (says c).1) in
      omega (
        arith,
        ltb-false (lcnt f clk - 2) (hold f clk) q₃,
        (says c).6 e (ltb-false (hcnt f clk) 8 q₁) (ltb-false (lcnt f clk) 8 q₂) w,
      )

  -- a behaviour is that of the first row
  abbrev pub First : Behaviour (Unit {0}) Answer → Type 0
  First p = (k : ℕ) × (k ≤ 5) × (FirstRow k f clk) × (p ≡ does k f clk)

  -- nothing is cut off in the registers
  uncut : ltb 0xffff (hcnt f clk) ≡ false
      → ltb 0xffff (lcnt f clk) ≡ false
      → ltb (lcnt f clk - 2) (hold f clk) ≡ false
      → (as_u16 (hcnt f clk) ≡ hcnt f clk) × (as_u16 (lcnt f clk) ≡ lcnt f clk) × (as_u16 (hold f clk) ≡ hold f clk)
  uncut qh ql qd =
      let w : hold f clk ≤ lcnt f clk - 2 = ltb-false (lcnt f clk - 2) (hold f clk) qd in
      let l : lcnt f clk ≤ 65535 = ltb-false 65535 (lcnt f clk) ql in (
        small (hcnt f clk) qh,
        small (lcnt f clk) ql,
        omega arith,
      )

  -- the tests of the counts in the driver's order
  counted : (n : ℕ) → ltb 1000000 f ≡ false → From 4
      → First (writes ENABLE 0 (set_counts f clk (hcnt f clk) (lcnt f clk) n ends))
  counted n q₁ g₄ =
      by_test (ltb 0xffff (hcnt f clk))
      (λ q. rw q (4, omega arith, ((hcnt_above (ltb-true 65535 (hcnt f clk) q), refl), g₄), refl))
      (λ qh. rw qh
      (by_test (ltb 0xffff (lcnt f clk))
      (λ q. rw q (4, omega arith, ((lcnt_above (ltb-true 65535 (lcnt f clk) q), refl), g₄), refl))
      (λ ql. let g₅ = from_5 g₄ qh ql in rw ql
      (by_test (ltb (hcnt f clk) 8)
      (λ q. rw q (5, omega arith, ((hcnt_below (ltb-true (hcnt f clk) 8 q), refl), g₅), refl))
      (λ q₆. rw q₆
      (by_test (ltb (lcnt f clk) 8)
      (λ q. rw q (5, omega arith, ((lcnt_below (ltb-true (lcnt f clk) 8 q), refl), g₅), refl))
      (λ q₇. rw q₇
      (by_test (ltb f 1000000)
      (λ q. rw (q, hold_below f clk q)
      (by_test (ltb (lcnt f clk - 2) (hold f clk))
      (λ qd. rw qd (5, omega arith, ((hold_above (ltb-true (lcnt f clk - 2) (hold f clk) qd), refl), g₅), refl))
      (λ qd. let u = uncut qh ql qd in rw (qd, u.0, u.1, u.2)
      (0, omega arith, none g₅ q₆ q₇ (λ e. absurd (omega (arith, ltb-true f 1000000 q))) qd, refl))))
      (λ q. rw q
      (by_test (ltb clk 32000001)
      (λ q₉. rw q₉ (
        5,
        omega arith,
        (
          (
            clock_not_above (omega (arith, ltb-false f 1000000 q, ltb-false 1000000 f q₁))
                (omega (arith, ltb-true clk 32000001 q₉)),
            refl,
          ),
          g₅,
        ),
        refl,
      ))
      (λ q₉. rw (q₉, hold_at f clk q)
      (by_test (ltb (lcnt f clk - 2) (hold f clk))
      (λ qd. rw qd (5, omega arith, ((hold_above (ltb-true (lcnt f clk - 2) (hold f clk) qd), refl), g₅), refl))
      (λ qd. let u = uncut qh ql qd in rw (qd, u.0, u.1, u.2)
      (0, omega arith, none g₅ q₆ q₇ (λ e. omega (arith, ltb-false clk 32000001 q₉)) qd, refl))))))))))))))

  -- all tests in the driver's order
  pub first : (n : ℕ) → First (set_config f clk n ends)
  unfolding set_config
  first n =
      by_test (ltb 1000000 f)
      (λ q. rw q (1, omega arith, ((frequency_above (ltb-true 1000000 f q), refl), from_1), refl))
      (λ q₁. let g₂ = from_2 q₁ in rw q₁
      (by_test (eqb f 0)
      (λ q. rw q (2, omega arith, ((frequency_zero (eqb-true f 0 q), refl), g₂), refl))
      (λ q₂. let g₃ = from_3 g₂ q₂ in rw q₂
      (by_test (ltb 1431655765 clk)
      (λ q. rw q (3, omega arith, ((clock_above (ltb-true 1431655765 clk q), refl), g₃), refl))
      (λ q₃. rw q₃ (counted n q₁ (from_4 g₃ q₃)))))))

-- the row's outcome, if there is room for its log and a reading for each of its reads
abbrev Room : ℕ → ℕ → ℕ → ℕ → List ℕ → Type 0
Room k f clk room rs = (length (log_of k f clk rs) ≤ room) × (reads_in (log_of k f clk rs) ≤ length rs)

abbrev pub of : ℕ → ℕ → ℕ → ℕ → List ℕ → Outcome (Unit {0}) Reply
of k f clk room rs = outcome Answered LogFull OutOfReadings (does k f clk) room rs [] tt

-- either the row's number and log, or 18 or 19 for want of room
abbrev Ends : ℕ → ℕ → ℕ → ℕ → List ℕ → Type 0
Ends k f clk room rs =
    ((number (of k f clk room rs).answer ≡ k) × ((of k f clk room rs).log ≡ log_of k f clk rs))
    ⊎ ((5 < number (of k f clk room rs).answer) × (Room k f clk room rs → ⊥))

module _ (f clk : ℕ) where
  accepted : (room : ℕ) (rs : List ℕ) → Ends 0 f clk room rs
  unfolding outcome
  accepted zero rs = inr (omega arith, λ h. omega (arith, h.0))
  accepted (suc zero) rs = inr (omega arith, λ h. omega (arith, h.0))
  accepted (suc (suc zero)) rs = inr (omega arith, λ h. omega (arith, h.0))
  accepted (suc (suc (suc zero))) rs = inr (omega arith, λ h. omega (arith, h.0))
  accepted (suc (suc (suc (suc zero)))) rs = inr (omega arith, λ h. omega (arith, h.0))
  accepted (suc (suc (suc (suc (suc n))))) [] = inr (omega arith, λ h. omega (arith, h.1))
  accepted (suc (suc (suc (suc (suc zero))))) (v ∷ rs) = inr (omega arith, λ h. omega (arith, h.0))
  accepted (suc (suc (suc (suc (suc (suc zero)))))) (v ∷ rs) = inr (omega arith, λ h. omega (arith, h.0))
  accepted (suc (suc (suc (suc (suc (suc (suc n))))))) (v ∷ rs) = inl (refl, refl)

  ended : (k room : ℕ) (rs : List ℕ) → k ≤ 5 → Ends k f clk room rs
  unfolding outcome
  ended zero room rs h = accepted room rs
  ended (suc zero) room rs h = inl (refl, refl)
  ended (suc (suc zero)) room rs h = inl (refl, refl)
  ended (suc (suc (suc zero))) room rs h = inl (refl, refl)
  ended (suc (suc (suc (suc zero)))) zero rs h = inr (omega arith, λ h. omega (arith, h.0))
  ended (suc (suc (suc (suc zero)))) (suc n) rs h = inl (refl, refl)
  ended (suc (suc (suc (suc (suc zero))))) zero rs h = inr (omega arith, λ h. omega (arith, h.0))
  ended (suc (suc (suc (suc (suc zero))))) (suc n) rs h = inl (refl, refl)
  ended (suc (suc (suc (suc (suc (suc k)))))) room rs h = absurd (omega arith)

  -- a setting has one first row
  pub one : (j k : ℕ) → FirstRow j f clk → FirstRow k f clk → j ≡ k
  one zero zero a b = refl
  one zero (suc k) a b = absurd (a b.0.0)
  one (suc j) zero a b = absurd (b a.0.0)
  one (suc j) (suc k) a b = omega (arith, a.0.1, b.0.1, a.1 b.0.0, b.1 a.0.0)

-- the first row is j, with its number and log or without room for them
settle : (k j f clk room : ℕ) (rs : List ℕ)
    → k ≤ 5
    → Room k f clk room rs
    → FirstRow j f clk
    → Ends j f clk room rs
    → ByTable k f clk rs (of j f clk room rs)
settle k j f clk room rs five r first_j (inl (n, l)) = record {
  exactly = ((λ e. let s : k ≡ j = omega (arith, e, n) in rw s first_j), (λ g. let s = one f clk k j g first_j in rw s n));
  log = λ g. let s = one f clk k j g first_j in rw s l;
}
settle k j f clk room rs five r first_j (inr (n, no_room)) = record {
  exactly = (
    (λ e. absurd (omega (arith, e, n, five))),
    (λ g. let s : j ≡ k = one f clk j k first_j g in absurd (no_room (rw s r))),
  );
  log = λ g. let s : j ≡ k = one f clk j k first_j g in absurd (no_room (rw s r));
}

-- THE CLAIM: the number is k exactly if k is the first row of the table that applies, 0 if none does, and the log is that row's
pub by_table : (k f clk : ℕ) (log readings : List ℕ)
    → k ≤ 5
    → length (log_of k f clk readings) ≤ length log / 2
    → reads_in (log_of k f clk readings) ≤ length readings
    → ByTable k f clk readings (expected (set_config f clk) log readings [] tt)
by_table k f clk log readings five room reading =
    let w = first f clk (suc (length log / 2)) in rw w.3
    (settle k w.0 f clk (length log / 2) readings five (room, reading) w.2
    (ended f clk w.0 (length log / 2) readings w.1))
