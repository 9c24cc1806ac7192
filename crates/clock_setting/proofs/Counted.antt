-- The counts of a setting that no row refuses are what the datasheet wants, and no others are; and UM10204's times that follow from them.
use Prim.Native.Nat.{ℕ, ◌+◌, ◌-◌, ◌*◌, ◌/◌, ◌%◌, ◌<◌, ◌≤◌}
use native.Mathlib.Omega.{arith}
use native.Mathlib.Nat.{div-lt_iff_lt-mul, div-mul-le_self, lt-div-mul-add, lt_of_mul-lt-mul_left, mul-le-mul_left}
use mathlib.Core.Bool.{Bool, true, false}
use mathlib.Core.List.{[], ◌∷◌}
use mathlib.Core.Path.{◌≡◌, refl}
use lib.Dec.{ltb}
use lib.ListN.{replicate}
use borrow.Author.Tests.{ltb-true, ltb-false, lt-ltb, le-ltb}
use Rattle.regs.proofs.Tests.{by_test}
use Rattle.regs.specs.Program.{outcome}
use Rattle.std.specs.Prelude.{if◌then◌else◌}
use Rattle.clock_setting.specs.SetConfig.{set_config, period, lcnt_of, hcnt_of, hold_below_1_mhz, hold_at_1_mhz, spklen}
use Rattle.clock_setting.specs.Datasheet.{hcnt, lcnt, hold, Lawful, Lasts, Timed, Ends, HeldInTime}
use Rattle.clock_setting.specs.Table.{FirstRow}
use Rattle.clock_setting.specs.Table.Cause.{frequency_zero, hcnt_below}
use Rattle.clock_setting.proofs.Table.{by_table}

-- three times the period is still below 2^32
pub period_fits : (frequency clk : ℕ) → 0 < frequency → frequency ≤ 1000000 → clk ≤ 1431655765 → period frequency clk ≤ 1431655765
unfolding period
period_fits frequency clk pos le fits =
    let q : period frequency clk < 1431655766 = (div-lt_iff_lt-mul pos).1 (omega arith) in
    omega arith

quotient : (n f q : ℕ) → 0 < f → q ≡ n / f → (q * f ≤ n) × (n < q * f + f)
quotient n f q pos e = rw e (div-mul-le_self n f, lt-div-mul-add pos)

-- the period is the number nearest to clk ÷ f, also for odd f
nearest : (f clk : ℕ) → 0 < f → (2 * period f clk * f ≤ 2 * clk + f) × (2 * clk < 2 * period f clk * f + f)
unfolding period
nearest f clk pos = let q = quotient _ f (period f clk) pos refl in omega (arith, q)

split : (p : ℕ) → (hcnt_of p + lcnt_of p ≡ p) × (2 * lcnt_of p ≤ 3 * hcnt_of p) × (3 * hcnt_of p ≤ 2 * lcnt_of p + 4)
unfolding hcnt_of lcnt_of
split p = omega arith

held_below : (f clk : ℕ) → f < 1000000 → (3 * clk < hold f clk * 10000000) × (hold f clk * 10000000 ≤ 3 * clk + 10000000)
unfolding hold hold_below_1_mhz
held_below f clk h = rw (lt-ltb f 1000000 h) (omega arith)

held_at : (f clk : ℕ) → f ≡ 1000000 → (3 * clk < hold f clk * 25000000) × (hold f clk * 25000000 ≤ 3 * clk + 25000000)
unfolding hold hold_at_1_mhz
held_at f clk h = rw (le-ltb f 1000000 (omega arith)) (omega arith)

spiked : (h l : ℕ) → 8 ≤ h → 2 * l ≤ 3 * h → 3 * h ≤ 2 * l + 4
    → (spklen l + 7 < l) × (spklen l + 5 < h) × (spklen l ≡ 0 → (16 ≤ l) × (l / 16 % 256 ≡ 0))
unfolding spklen
spiked h l a b c = go (ltb l 16) refl
  where
    go : (q : Bool) → ltb l 16 ≡ q
        → ((if q then 1 else l / 16 % 256) + 7 < l) × ((if q then 1 else l / 16 % 256) + 5 < h)
        × ((if q then 1 else l / 16 % 256) ≡ 0 → (16 ≤ l) × (l / 16 % 256 ≡ 0))
    go true q = let s : l < 16 = ltb-true l 16 q in omega arith
    go false q = let s : 16 ≤ l = ltb-false l 16 q in omega arith

-- what the rows say of a setting that they pass
pub not_zero : (f clk : ℕ) → FirstRow 0 f clk → 0 < f
not_zero f clk n = let a : f ≡ 0 → ⊥ = λ e. n (frequency_zero e) in omega (arith, a)

reached : (f clk : ℕ) → FirstRow 0 f clk → 8 ≤ hcnt f clk
reached f clk n = let a : hcnt f clk < 8 → ⊥ = λ h. n (hcnt_below h) in omega (arith, a)

-- THE CLAIM: every accepted setting has lawful counts
pub lawful : (f clk : ℕ) → FirstRow 0 f clk → Lawful f clk (hcnt f clk) (lcnt f clk) (hold f clk) (spklen (lcnt f clk))
lawful f clk n =
    let p = split (period f clk) in
    let m = nearest f clk (not_zero f clk n) in
    let s = spiked (hcnt f clk) (lcnt f clk) (reached f clk n) p.1 p.2 in
    record {
      period_not_long = rw p.0 m.0;
      period_not_short = rw p.0 m.1;
      low_not_long = p.1;
      low_not_short = p.2;
      hold_below_1_mhz = held_below f clk;
      hold_at_1_mhz = held_at f clk;
      low_over_spike = s.0;
      high_over_spike = s.1;
      spike_zero = s.2;
    }

pub between : (f clk p q : ℕ) → 2 * p * f ≤ 2 * clk + f → 2 * clk < 2 * q * f + f → p ≤ q
between f clk p q a b = let c : p < q + 1 = lt_of_mul-lt-mul_left f (omega arith) in omega arith

held_only : (f clk d : ℕ)
    → 0 < f
    → f ≤ 1000000
    → (f < 1000000 → (3 * clk < d * 10000000) × (d * 10000000 ≤ 3 * clk + 10000000))
    → (f ≡ 1000000 → (3 * clk < d * 25000000) × (d * 25000000 ≤ 3 * clk + 25000000))
    → d ≡ hold f clk
held_only f clk d pos le a b =
    by_test (ltb f 1000000) (λ q. let h = ltb-true f 1000000 q in omega (arith, a h, held_below f clk h))
    (λ q. let h : f ≡ 1000000 = omega (arith, ltb-false f 1000000 q) in omega (arith, b h, held_at f clk h))

-- THE CLAIM: lawful counts are these alone
pub lawful_only : (f clk h l d s : ℕ)
    → 0 < f
    → f ≤ 1000000
    → Lawful f clk h l d s
    → (h ≡ hcnt f clk) × (l ≡ lcnt f clk) × (d ≡ hold f clk)
lawful_only f clk h l d s pos le w =
    let p = split (period f clk) in
    let m = nearest f clk pos in
    let a : h + l ≤ period f clk = between f clk (h + l) (period f clk) w.period_not_long m.1 in
    let b : period f clk ≤ h + l = between f clk (period f clk) (h + l) m.0 w.period_not_short in
    let x : l ≡ lcnt f clk = omega (arith, a, b, p.0, p.1, p.2, w.low_not_long, w.low_not_short) in (
      omega (arith, a, b, x, p.0),
      x,
      held_only f clk d pos le w.hold_below_1_mhz w.hold_at_1_mhz,
    )

-- 2 clk < (2 p + 1) f, so it is below as many of each larger frequency
within : (f F clk : ℕ) → 0 < f → f ≤ F → 2 * clk < (2 * period f clk + 1) * F
within f F clk pos le = omega (arith, (nearest f clk pos).1, mul-le-mul_left (2 * period f clk + 1) le)

-- the last ground of row 5, the hold count, refuses nothing that the others pass
pub hold_always_fits : (f clk : ℕ) → 0 < f → f ≤ 1000000 → 8 ≤ hcnt f clk → hold f clk ≤ lcnt f clk - 2
hold_always_fits f clk pos le h =
    let s = split (period f clk) in
    let w = within f 1000000 clk pos le in
    by_test (ltb f 1000000) (λ q. omega (arith, s, w, held_below f clk (ltb-true f 1000000 q)))
    (λ q. let e : f ≡ 1000000 = omega (arith, ltb-false f 1000000 q) in omega (arith, s, w, held_at f clk e))

-- THE CLAIM: five of UM10204's six times follow from the counts, and the sixth in part
pub timed : (f clk : ℕ) → FirstRow 0 f clk → Timed f clk (hcnt f clk) (lcnt f clk)
timed f clk n =
    let s = split (period f clk) in
    let e = reached f clk n in
    let w : (F : ℕ) → f ≤ F → 2 * clk < (2 * period f clk + 1) * F = λ F h. within f F clk (not_zero f clk n) h in
    record {
      standard_low = λ h. omega (arith, s.0, s.1, s.2, w _ h);
      standard_high = λ h. omega (arith, s.0, s.1, s.2, w _ h);
      standard_high_short = λ h. omega (arith, s.0, s.1, s.2, w _ h);
      fast_low = λ h. omega (arith, s.0, s.1, s.2, w _ h);
      fast_high = λ h. omega (arith, s.0, s.1, s.2, w _ h);
      plus_low = λ h. omega (arith, s.0, s.1, s.2, w _ h);
      plus_high = λ h. omega (arith, s.0, s.1, s.2, w _ h);
    }

-- the limit of 97,561 Hz is the largest: at 97,562 Hz and a clock of 2,000,001 Hz high is shorter than 4,000 ns
pub standard_high_broken : FirstRow 0 97562 2000001 × (Lasts 2000001 (hcnt 97562 2000001) 4000 → ⊥)
unfolding outcome set_config period lcnt_of hcnt_of hold hold_below_1_mhz spklen
standard_high_broken = (
  (by_table 0 97562 2000001 (replicate 14 0) (0 ∷ []) (omega arith) (omega arith) (omega arith)).exactly.0 refl,
  (λ h. omega arith),
)

-- a high count of 8 at least makes 18 clock periods at least
pub periods_reach : (f clk : ℕ) → FirstRow 0 f clk → 18 ≤ hcnt f clk + lcnt f clk
periods_reach f clk n =
    let s = split (period f clk) in
    omega (arith, s.0, s.1, s.2, reached f clk n)

-- and so the clock is at least 17.5 times the frequency
clock_reaches : (f clk : ℕ) → FirstRow 0 f clk → 35 * f ≤ 2 * clk
clock_reaches f clk n =
    omega (arith, (lawful f clk n).period_not_long, mul-le-mul_left f (periods_reach f clk n))

-- below 1 MHz, and at it
held_by_mode : (f clk ns : ℕ)
    → (f < 1000000 → hold f clk * 10000000 ≤ 3 * clk + 10000000 → Ends clk (hold f clk) ns)
    → (f ≡ 1000000 → hold f clk * 25000000 ≤ 3 * clk + 25000000 → Ends clk (hold f clk) ns)
    → f ≤ 1000000
    → Ends clk (hold f clk) ns
held_by_mode f clk ns below at le =
    by_test (ltb f 1000000) (λ q. let h = ltb-true f 1000000 q in below h (held_below f clk h).1)
    (λ q. let e : f ≡ 1000000 = omega (arith, ltb-false f 1000000 q) in at e (held_at f clk e).1)

-- below 3,333,333 Hz the hold time is one period
one_period : (clk d : ℕ) → 289870 ≤ clk → d * 10000000 ≤ 3 * clk + 10000000 → Ends clk d 3450
one_period clk d c y =
    by_test (ltb clk 3333333)
    (λ q. let l = ltb-true clk 3333333 q in let one : d ≤ 1 = omega (arith, l, y) in omega (arith, one, c))
    (λ q. let l = ltb-false clk 3333333 q in omega (arith, l, y))

-- THE CLAIM: the hold time keeps to UM10204's data valid time in fast mode and fast mode plus, and in standard mode in part
pub held_in_time : (f clk : ℕ) → FirstRow 0 f clk → HeldInTime f clk (hold f clk)
held_in_time f clk n =
    let c = clock_reaches f clk n in
    record {
      standard = λ a b. held_by_mode f clk 3450 (λ h y. one_period clk (hold f clk) (omega (arith, c)) y)
          (λ e y. absurd (omega arith)) (omega arith);
      fast = λ a b. held_by_mode f clk 900 (λ h y. omega (arith, c)) (λ e y. absurd (omega arith)) (omega arith);
      plus = λ a b. held_by_mode f clk 450 (λ h y. omega (arith, c)) (λ e y. omega (arith, c)) b;
    }

-- 16,564 Hz is the smallest: at 16,563 Hz and a clock of 289,853 Hz one period is longer than 3,450 ns; and it is longest
-- where everything is slowest, at 1 Hz and 18 Hz
pub standard_hold_broken : (FirstRow 0 16563 289853 × (Ends 289853 (hold 16563 289853) 3450 → ⊥))
    × (FirstRow 0 1 18 × (Ends 18 (hold 1 18) 3450 → ⊥))
unfolding outcome set_config period lcnt_of hcnt_of hold hold_below_1_mhz spklen
standard_hold_broken = (
  (
    (by_table 0 16563 289853 (replicate 14 0) (0 ∷ []) (omega arith) (omega arith) (omega arith)).exactly.0 refl,
    (λ h. omega arith),
  ),
  (
    (by_table 0 1 18 (replicate 14 0) (0 ∷ []) (omega arith) (omega arith) (omega arith)).exactly.0 refl,
    (λ h. omega arith),
  ),
)
