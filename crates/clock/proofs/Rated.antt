-- The rate by what the code computes: in range, and legal. It rests on `stepped_set_config`: the machine, stepped from where
-- these put it, answers what `set_config` answers.
use Prim.Native.Nat.{ℕ, ◌+◌, ◌≤◌}
use mathlib.Core.List.{[], ◌∷◌}
use mathlib.Core.Path.{◌≡◌, refl, sym, ap, ◌∙◌}
use lib.Dec.{ltb}
use lib.ListN.{replicate}
use borrow.Author.Tests.{ltb-false}
use Rattle.regs.proofs.Tests.{by_test}
use Rattle.regs.specs.Program.{Outcome}
use Rattle.regs.specs.Steps.{stepped, with_room, without_room}
use Rattle.regs.specs.declared.answers.Refusal.{Refusal}
use Rattle.regs.specs.declared.answers.Reply.{Reply}
use Rattle.clock_setting.specs.Datasheet.{hcnt, lcnt, hold}
use Rattle.clock_setting.specs.BusRate.{divided, unless_refused, rated}
use Rattle.clock_setting.specs.declared.Rate.{Rate}
use Rattle.std.specs.Prelude.{Result, Ok, Err}
use Rattle.clock.specs.declared.Counts.{Counts}
use Rattle.clock.specs.Inner.Machine.{machine, counts, fits, reaches, holds, unless, setting, range, start_in}
use Rattle.clock.proofs.Stepped.{stepped_set_config}

-- ---- what a setting says

refused_is_not : {A : Type 0} {why : Refusal} {a : A} → Err why ≡ Ok a → ⊥
refused_is_not e = cc

fitting : (h l : ℕ) (s : Result Counts Refusal) (n : Counts) → unless (fits h l) s ≡ Ok n → (h ≤ 65535) × (l ≤ 65535) × (s ≡ Ok n)
unfolding fits
fitting h l s n e =
    by_test (ltb 0xffff h) (λ q. absurd (refused_is_not (rw q at e))) (λ q₁.
    by_test (ltb 0xffff l) (λ q. absurd (refused_is_not (rw (q₁, q) at e))) (λ q₂.
    (ltb-false 65535 h q₁, ltb-false 65535 l q₂, rw (q₁, q₂) at e)))

reaching : (h l : ℕ) (s : Result Counts Refusal) (n : Counts) → unless (reaches h l) s ≡ Ok n → (8 ≤ h) × (8 ≤ l) × (s ≡ Ok n)
unfolding reaches
reaching h l s n e =
    by_test (ltb h 8) (λ q. absurd (refused_is_not (rw q at e))) (λ q₁.
    by_test (ltb l 8) (λ q. absurd (refused_is_not (rw (q₁, q) at e))) (λ q₂. (ltb-false h 8 q₁, ltb-false l 8 q₂, rw (q₁, q₂) at e)))

holding : (f clk l d : ℕ) (s : Result Counts Refusal) (n : Counts) → unless (holds f clk l d) s ≡ Ok n → s ≡ Ok n
unfolding holds
holding f clk l d s n e =
    by_test (ltb f 1000000)
    (λ q₁. by_test (ltb l (d + 2)) (λ q. absurd (refused_is_not (rw (q₁, q) at e))) (λ q. rw (q₁, q) at e))
    (λ q₁. by_test (ltb clk 32000001) (λ q. absurd (refused_is_not (rw (q₁, q) at e))) (λ q₂.
    by_test (ltb l (d + 2)) (λ q. absurd (refused_is_not (rw (q₁, q₂, q) at e))) (λ q. rw (q₁, q₂, q) at e)))

-- the counts of a legal setting: a clock can be divided by their sum
pub record LegalCounts (f clk : ℕ) (n : Counts) : Type 0 where
  pub high : n.hcnt ≡ hcnt f clk
  pub low : n.lcnt ≡ lcnt f clk
  pub high_reaches : 8 ≤ n.hcnt
  pub low_reaches : 8 ≤ n.lcnt
  pub high_fits : n.hcnt ≤ 65535
  pub low_fits : n.lcnt ≤ 65535

pub legal_counts : (f clk : ℕ) (n : Counts) → setting f clk ≡ Ok n → LegalCounts f clk n
legal_counts f clk n e =
    let a = fitting (hcnt f clk) (lcnt f clk) _ n e in
    let b = reaching (hcnt f clk) (lcnt f clk) _ n a.2 in
    let c : counts f clk ≡ n = cc (holding f clk (lcnt f clk) (hold f clk) _ n b.2) in
    let g : LegalCounts f clk (counts f clk) =
    record { high = refl; low = refl; high_reaches = b.0; low_reaches = b.1; high_fits = a.0; low_fits = a.1 } in
    rw c at g

-- ---- the rate

abbrev rated_in : Result (Unit {0}) Refusal → Result Counts Refusal → Result Rate Refusal → Result Rate Refusal
rated_in (Err why) s r = Err why
rated_in (Ok u) (Err why) r = Err why
rated_in (Ok u) (Ok n) r = r

-- the machine's answer, with room for seven entries and a reading
stepped_in : (x : Result (Unit {0}) Refusal) (s : Result Counts Refusal) (r : Result Rate Refusal)
    → unless_refused (stepped machine 7 (start_in x s) (0 ∷ []) []).answer r ≡ rated_in x s r
unfolding stepped with_room without_room
stepped_in (Err why) s r = refl
stepped_in (Ok u) (Err why) r = refl
stepped_in (Ok u) (Ok n) r = refl

rated_is : (f clk : ℕ) → rated f clk ≡ rated_in (range f clk) (setting f clk) (divided clk (hcnt f clk + lcnt f clk))
unfolding rated
rated_is f clk =
    ap (λ (o : Outcome (Unit {0}) Reply). unless_refused o.answer (divided clk (hcnt f clk + lcnt f clk)))
    (sym (stepped_set_config f clk (replicate 14 0) (0 ∷ []) [] tt))
    ∙ stepped_in (range f clk) (setting f clk) (divided clk (hcnt f clk + lcnt f clk))

pub rated_outside : (f clk : ℕ) (why : Refusal) → range f clk ≡ Err why → rated f clk ≡ Err why
rated_outside f clk why e = rw (rated_is f clk, e)

pub rated_illegal : (f clk : ℕ) (why : Refusal) → range f clk ≡ Ok tt → setting f clk ≡ Err why → rated f clk ≡ Err why
rated_illegal f clk why e g = rw (rated_is f clk, e, g)

pub rated_legal : (f clk : ℕ) (n : Counts)
    → range f clk ≡ Ok tt
    → setting f clk ≡ Ok n
    → rated f clk ≡ divided clk (n.hcnt + n.lcnt)
rated_legal f clk n e g = let c = legal_counts f clk n g in rw (rated_is f clk, e, g, c.high, c.low)
