-- The rate of a setting is that of the counts that `set_config` writes, has its number by the table of refusals, and is near the
-- wanted frequency. It rests on `first` (Table.antt): what a setting does is what its first row does; and on `lawful`
-- (Counted.antt): the counts are the clock periods nearest to clk ÷ frequency.
use Prim.Native.Nat.{ℕ, zero, suc, ◌+◌, ◌*◌, ◌/◌, ◌%◌, ◌<◌, ◌≤◌}
use native.Mathlib.Omega.{arith}
use native.Mathlib.Nat.{div-add-mod', mod-lt, lt-div-mul-add, lt_of_mul-lt-mul_left, mul-le-mul_left, mul-le-mul_right, mul-lt-mul_of_pos_left, mul-div_cancel_left, mul-mod_right}
use mathlib.Core.List.{List, [], ◌∷◌}
use mathlib.Core.Path.{◌≡◌, refl, sym}
use lib.Dec.{ltb}
use lib.ListN.{length}
use borrow.Author.Tests.{ltb-true, ltb-false}
use Rattle.regs.proofs.Tests.{by_test}
use Rattle.regs.specs.Program.{Behaviour, ends, outcome}
use Rattle.regs.specs.Registers.{FS_SCL_HCNT, FS_SCL_LCNT}
use Rattle.regs.specs.Fields.{set_field}
use Rattle.regs.specs.Answers.{number}
use Rattle.regs.specs.Log.{written_to, expected}
use Rattle.regs.proofs.RoundTrip.{read_back}
use Rattle.regs.specs.declared.access.Entry.{Entry}
use Rattle.regs.specs.declared.answers.Answer.{Answer}
use Rattle.regs.specs.declared.answers.Reply.TheVariants.{Answered, LogFull, OutOfReadings}
use Rattle.regs.specs.declared.answers.Refusal.TheVariants.{FrequencyTooHigh, FrequencyZero, ClockOutOfRange, ClockTooFast, ClockTooSlow}
use Rattle.clock_setting.specs.declared.Rate.{Rate}
use Rattle.std.specs.Prelude.{Result, Ok, Err}
use Rattle.regs.specs.declared.answers.Refusal.{Refusal}
use Rattle.clock_setting.specs.SetConfig.{set_config, period, lcnt_of, hcnt_of, hold_below_1_mhz, hold_at_1_mhz, spklen}
use Rattle.clock_setting.specs.Datasheet.{hcnt, lcnt}
use Rattle.clock_setting.specs.Table.{FirstRow}
use Rattle.clock_setting.specs.Table.Cause.{clock_not_above}
use Rattle.clock_setting.specs.BusRate.{answer_of, divided, unless_refused, rated, rate_number, RateOf, RatedAs, RatedAsSet, RatedByTable}
use Rattle.clock_setting.specs.BusRate.{Near, NearWanted, ExactOfMultiples, FastestByMode}
use Rattle.clock_setting.proofs.Table.{does, first, of, one}
use Rattle.clock_setting.proofs.Accesses.{every_access_legal}
use Rattle.clock_setting.proofs.Counted.{lawful, not_zero, between, periods_reach}

-- ---- by the first row

-- the clock periods of a period of the bus
abbrev periods : ℕ → ℕ → ℕ
periods f clk = hcnt f clk + lcnt f clk

abbrev by_row : ℕ → ℕ → ℕ → Result Rate Refusal
by_row zero f clk = divided clk (periods f clk)
by_row (suc zero) f clk = Err FrequencyTooHigh
by_row (suc (suc zero)) f clk = Err FrequencyZero
by_row (suc (suc (suc zero))) f clk = Err ClockOutOfRange
by_row (suc (suc (suc (suc zero)))) f clk = Err ClockTooFast
by_row (suc (suc (suc (suc (suc k))))) f clk = Err ClockTooSlow

-- what is answered with room for seven entries and a reading
answered : Behaviour (Unit {0}) Answer → Result Rate Refusal → Result Rate Refusal
answered b r = unless_refused (outcome Answered LogFull OutOfReadings b 7 (0 ∷ []) [] tt).answer r

answered_row : (k f clk : ℕ) → answered (does k f clk) (divided clk (periods f clk)) ≡ by_row k f clk
unfolding answered outcome
answered_row zero f clk = refl
answered_row (suc zero) f clk = refl
answered_row (suc (suc zero)) f clk = refl
answered_row (suc (suc (suc zero))) f clk = refl
answered_row (suc (suc (suc (suc zero)))) f clk = refl
answered_row (suc (suc (suc (suc (suc k))))) f clk = refl

-- and its number
numbered : Behaviour (Unit {0}) Answer → ℕ
numbered b = number (outcome Answered LogFull OutOfReadings b 7 (0 ∷ []) [] tt).answer

answer_numbered : (f clk : ℕ) → number (answer_of f clk) ≡ numbered (set_config f clk 8 ends)
unfolding numbered
answer_numbered f clk = refl

answer_row : (k f clk : ℕ) → k ≤ 5 → numbered (does k f clk) ≡ k
unfolding numbered outcome
answer_row zero f clk h = refl
answer_row (suc zero) f clk h = refl
answer_row (suc (suc zero)) f clk h = refl
answer_row (suc (suc (suc zero))) f clk h = refl
answer_row (suc (suc (suc (suc zero)))) f clk h = refl
answer_row (suc (suc (suc (suc (suc zero))))) f clk h = refl
answer_row (suc (suc (suc (suc (suc (suc k)))))) f clk h = absurd (omega arith)

rated_answered : (f clk : ℕ) → rated f clk ≡ answered (set_config f clk 8 ends) (divided clk (periods f clk))
unfolding rated answered
rated_answered f clk = refl

rated_row : (k f clk : ℕ) → set_config f clk 8 ends ≡ does k f clk → rated f clk ≡ by_row k f clk
rated_row k f clk e = rw (rated_answered f clk, e) (answered_row k f clk)

numbered_row : (k f clk : ℕ) → k ≤ 5 → rate_number (by_row k f clk) ≡ k
numbered_row zero f clk h = refl
numbered_row (suc zero) f clk h = refl
numbered_row (suc (suc zero)) f clk h = refl
numbered_row (suc (suc (suc zero))) f clk h = refl
numbered_row (suc (suc (suc (suc zero)))) f clk h = refl
numbered_row (suc (suc (suc (suc (suc zero))))) f clk h = refl
numbered_row (suc (suc (suc (suc (suc (suc k)))))) f clk h = absurd (omega arith)

-- a setting has a first row, and the rate is that row's
record Placed (f clk : ℕ) : Type 0 where
  k : ℕ
  small : k ≤ 5
  is_first : FirstRow k f clk
  rate : rated f clk ≡ by_row k f clk
  answer : number (answer_of f clk) ≡ k

placed : (f clk : ℕ) → Placed f clk
placed f clk =
    let w = first f clk 8 in
    record {
      k = w.0;
      small = w.1;
      is_first = w.2;
      rate = rated_row w.0 f clk w.3;
      answer = rw (answer_numbered f clk, w.3) (answer_row w.0 f clk w.1);
    }

-- THE CLAIM: the number is that of the first row that applies
pub rated_by_table : RatedByTable
rated_by_table f clk =
    let w = placed f clk in
    let n : rate_number (rated f clk) ≡ w.k = rw w.rate (numbered_row w.k f clk w.small) in
    record {
      exactly = λ k. (
        (λ e. let s : k ≡ w.k = omega (arith, e, n) in rw s w.is_first),
        (λ g. let s = one f clk k w.k g w.is_first in rw s n),
      );
      at_most_5 = omega (arith, n, w.small);
      as_answered = omega (arith, n, w.answer);
    }

-- ---- by the log

-- a period of the bus has clock periods where a setting is accepted
divided_of : (f clk : ℕ) {log : List Entry} → FirstRow 0 f clk
    → written_to FS_SCL_HCNT log ≡ hcnt f clk ∷ []
    → written_to FS_SCL_LCNT log ≡ lcnt f clk ∷ []
    → RateOf clk log (record { hz = clk / periods f clk; remainder = clk % periods f clk })
divided_of f clk n h l = record {
  high = hcnt f clk;
  low = lcnt f clk;
  high_written = h;
  low_written = l;
  whole = sym (div-add-mod' clk (periods f clk));
  below = mod-lt clk (omega (arith, periods_reach f clk n));
}

abbrev As : ℕ → ℕ → ℕ → ℕ → List ℕ → Type 0
As k f clk room rs = RatedAs clk (of k f clk room rs).answer (of k f clk room rs).log (by_row k f clk)

-- the log is cut short, or it has the counts
accepted_as : (f clk room : ℕ) (rs : List ℕ) → FirstRow 0 f clk → As 0 f clk room rs
unfolding outcome written_to
accepted_as f clk zero rs n = tt
accepted_as f clk (suc zero) rs n = tt
accepted_as f clk (suc (suc zero)) rs n = tt
accepted_as f clk (suc (suc (suc zero))) rs n = tt
accepted_as f clk (suc (suc (suc (suc zero)))) rs n = tt
accepted_as f clk (suc (suc (suc (suc (suc m))))) [] n = tt
accepted_as f clk (suc (suc (suc (suc (suc zero))))) (v ∷ rs) n = tt
accepted_as f clk (suc (suc (suc (suc (suc (suc zero)))))) (v ∷ rs) n = tt
accepted_as f clk (suc (suc (suc (suc (suc (suc (suc m))))))) (v ∷ rs) n = (_, (refl, divided_of f clk n refl refl))

as_row : (k f clk room : ℕ) (rs : List ℕ) → k ≤ 5 → FirstRow k f clk → As k f clk room rs
unfolding outcome
as_row zero f clk room rs h n = accepted_as f clk room rs n
as_row (suc zero) f clk room rs h n = refl
as_row (suc (suc zero)) f clk room rs h n = refl
as_row (suc (suc (suc zero))) f clk room rs h n = refl
as_row (suc (suc (suc (suc zero)))) f clk zero rs h n = tt
as_row (suc (suc (suc (suc zero)))) f clk (suc m) rs h n = refl
as_row (suc (suc (suc (suc (suc zero))))) f clk zero rs h n = tt
as_row (suc (suc (suc (suc (suc zero))))) f clk (suc m) rs h n = refl
as_row (suc (suc (suc (suc (suc (suc k)))))) f clk room rs h n = absurd (omega arith)

as_outcome : (f clk : ℕ) (log readings : List ℕ)
    → RatedAs clk (expected (set_config f clk) log readings [] tt).answer (expected (set_config f clk) log readings [] tt).log (rated f clk)
as_outcome f clk log readings =
    let w = first f clk (suc (length log / 2)) in
    let p = placed f clk in
    let s : p.k ≡ w.0 = one f clk p.k w.0 p.is_first w.2 in
    let r : rated f clk ≡ by_row w.0 f clk = rw s at p.rate in
    rw (w.3, r) (as_row w.0 f clk (length log / 2) readings w.1 w.2)

-- THE CLAIM: the rate is that of the counts in the log that `set_config` left, or the refusal is the one that it returned
pub rated_as_set : RatedAsSet
rated_as_set f clk before after readings ran left =
    rw (left.reply, read_back left (every_access_legal f clk before readings [] tt)) (as_outcome f clk before readings)

-- ---- by the frequency

-- what a rate is, and that its setting is accepted
record Given (f clk : ℕ) (rate : Rate) : Type 0 where
  passes : FirstRow 0 f clk
  value : rate ≡ record { hz = clk / periods f clk; remainder = clk % periods f clk }

given : (f clk : ℕ) (rate : Rate) → rated f clk ≡ Ok rate → Given f clk rate
given f clk rate e =
    let n : FirstRow 0 f clk = ((rated_by_table f clk).exactly 0).0 (rw e refl) in
    let p = placed f clk in
    let s : p.k ≡ 0 = one f clk p.k 0 p.is_first n in
    let r : rated f clk ≡ divided clk (periods f clk) = rw s at p.rate in
    record { passes = n; value = cc }

-- with N clock periods at least, the rate is less than one part in 2 N too large
not_fast_by : (N n f clk q : ℕ) → N ≤ n → 0 < N → q * n ≤ clk → 2 * clk < 2 * n * f + f → 2 * N * q < (2 * N + 1) * f
not_fast_by N n f clk q h pos a b =
    lt_of_mul-lt-mul_left n
    (omega (arith, mul-le-mul_right f h, mul-le-mul_left N a, mul-lt-mul_of_pos_left b pos))

not_slow_by : (n f clk q : ℕ) → 18 ≤ n → 0 < f → clk < q * n + n → 2 * n * f ≤ 2 * clk + f → 35 * f + 1 < 36 * (q + 1)
not_slow_by n zero clk q h pos a b = absurd (omega arith)
not_slow_by n (suc g) clk q h pos a b = lt_of_mul-lt-mul_left n (omega (arith, mul-le-mul_right g h))

-- the same without the periods
not_fast_by_clk : (n f clk q : ℕ) → 0 < q → q * n ≤ clk → 2 * clk < 2 * n * f + f → 2 * clk * q < 2 * clk * f + q * f
not_fast_by_clk n f clk q pos a b = omega (arith, mul-lt-mul_of_pos_left b pos, mul-le-mul_right f a)

not_slow_by_clk : (n f clk q : ℕ) → 0 < f → clk < q * n + n → 2 * n * f ≤ 2 * clk + f → 2 * clk * f < (2 * clk + f) * (q + 1)
not_slow_by_clk n f clk q pos a b = omega (arith, mul-le-mul_left (q + 1) b, mul-lt-mul_of_pos_left a pos)

near_by : (f clk : ℕ) → FirstRow 0 f clk
    → Near f clk (periods f clk) (record { hz = clk / periods f clk; remainder = clk % periods f clk })
near_by f clk n =
    let w = lawful f clk n in
    let h = periods_reach f clk n in
    let pos = not_zero f clk n in
    let e = div-add-mod' clk (periods f clk) in
    let q = clk / periods f clk in
    let under : q * periods f clk ≤ clk = omega (arith, e) in
    let over : clk < q * periods f clk + periods f clk = lt-div-mul-add (omega arith) in
    let slow = not_slow_by (periods f clk) f clk q h pos over w.period_not_long in
    record {
      not_fast = rw e w.period_not_short;
      not_slow = rw e w.period_not_long;
      hz_not_fast = omega (arith, not_fast_by 18 (periods f clk) f clk q h (omega arith) under w.period_not_short);
      hz_not_slow = omega (arith, slow);
      some_hz = omega (arith, slow, pos);
      hz_not_fast_by_clk = not_fast_by_clk (periods f clk) f clk q (omega arith) under w.period_not_short;
      hz_not_slow_by_clk = not_slow_by_clk (periods f clk) f clk q pos over w.period_not_long;
    }

-- THE CLAIM: how far a rate is from the wanted frequency
pub near_wanted : NearWanted
near_wanted f clk rate e = let g = given f clk rate e in rw g.value (near_by f clk g.passes)

-- a clock that is a multiple has that multiple as its periods
multiple_of : (f clk k : ℕ) → FirstRow 0 f clk → clk ≡ k * f → clk ≡ periods f clk * f
multiple_of f clk k n e =
    let w = lawful f clk n in
    let a : periods f clk ≤ k = between f clk (periods f clk) k w.period_not_long (omega (arith, not_zero f clk n)) in
    let b : k ≤ periods f clk = between f clk k (periods f clk) (omega arith) w.period_not_short in
    let s : k ≡ periods f clk = omega arith in
    rw s at e

-- THE CLAIM: which clocks give the wanted frequency exactly
pub exact_of_multiples : ExactOfMultiples
exact_of_multiples f clk rate e =
    let g = given f clk rate e in
    let pos : 0 < periods f clk = omega (arith, periods_reach f clk g.passes) in
    let d : rate.hz * periods f clk + rate.remainder ≡ clk = rw g.value (div-add-mod' clk (periods f clk)) in (
      (λ x. (periods f clk, exactly f (periods f clk) clk rate d x)),
      (λ x. rw g.value (whole f (periods f clk) clk pos (multiple_of f clk x.0 g.passes x.1))),
    )
  where
    exactly : (f n clk : ℕ) (rate : Rate) → rate.hz * n + rate.remainder ≡ clk → (rate.hz ≡ f) × (rate.remainder ≡ 0) → clk ≡ n * f
    exactly f n clk rate d x = let h : f * n + 0 ≡ clk = rw (x.0, x.1) at d in omega (arith, h)

    whole : (f n clk : ℕ) → 0 < n → clk ≡ n * f → (clk / n ≡ f) × (clk % n ≡ 0)
    whole f n clk pos e = rw e (mul-div_cancel_left f pos, mul-mod_right n f)

-- ---- the fastest

-- at 1 MHz the clock is above 32,000,000, so that there are 32 periods at least
periods_at_1_mhz : (f clk n : ℕ) → f ≡ 1000000 → 32000000 < clk → 2 * clk < 2 * n * f + f → 32 ≤ n
periods_at_1_mhz f clk n e c h = let s : 2 * clk < 2 * n * 1000000 + 1000000 = rw e at h in omega arith

at_1_mhz : (f clk : ℕ) → FirstRow 0 f clk → f ≡ 1000000 → 64 * (clk / periods f clk) < 65 * f
at_1_mhz f clk n e =
    let w = (lawful f clk n).period_not_short in
    let c : clk ≤ 32000000 → ⊥ = λ h. n (clock_not_above e h) in
    not_fast_by 32 (periods f clk) f clk (clk / periods f clk) (periods_at_1_mhz f clk (periods f clk) e (omega (arith, c)) w)
    (omega arith) (omega (arith, div-add-mod' clk (periods f clk))) w

-- a 36th above the limit
a_36th : (most hz f clk : ℕ) (rate : Rate) → 37 * most ≤ 36 * (hz + 1) → f ≤ most → rated f clk ≡ Ok rate → rate.hz ≤ hz
a_36th most hz f clk rate b h e = omega (arith, (near_wanted f clk rate e).hz_not_fast)

a_64th : (f clk : ℕ) (rate : Rate) → f ≡ 1000000 → rated f clk ≡ Ok rate → rate.hz ≤ 1015624
a_64th f clk rate h e = let g = given f clk rate e in rw g.value (omega (arith, at_1_mhz f clk g.passes h))

-- THE CLAIM: the fastest rates of UM10204's modes, and at 1 MHz
pub fastest_by_mode : FastestByMode
unfolding rated outcome set_config period lcnt_of hcnt_of hold_below_1_mhz hold_at_1_mhz spklen set_field
fastest_by_mode = (
  record {
    none_faster = λ f clk rate l h e. a_36th _ _ f clk rate (omega arith) h e;
    frequency = 100000;
    clk = 1849999;
    remainder = 13;
    within = omega arith;
    reached = refl;
  },
  record {
    none_faster = λ f clk rate l h e. a_36th _ _ f clk rate (omega arith) h e;
    frequency = 400000;
    clk = 7399999;
    remainder = 1;
    within = omega arith;
    reached = refl;
  },
  record {
    none_faster = λ f clk rate l h e. by_test (ltb f 1000000)
        (λ q. a_36th 999999 _ f clk rate (omega arith) (omega (arith, ltb-true f 1000000 q)) e)
        (λ q. omega (arith, a_64th f clk rate (omega (arith, ltb-false f 1000000 q)) e));
    frequency = 999999;
    clk = 18499981;
    remainder = 13;
    within = omega arith;
    reached = refl;
  },
  record {
    none_faster = λ f clk rate l h e. a_64th f clk rate (omega arith) e;
    frequency = 1000000;
    clk = 32499999;
    remainder = 31;
    within = omega arith;
    reached = refl;
  },
)
