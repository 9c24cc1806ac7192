-- The lengths of each kind, added one after the other, are the totals of the definitions.
use Prim.Native.Nat.{ℕ, ◌+◌, ◌*◌, ◌≤◌, ◌<◌}
use native.Mathlib.Omega.{arith}
use native.Mathlib.Nat.{add_assoc, add-zero}
use native.Mathlib.Numerals.{add-one}
use mathlib.Core.Bool.{false}
use mathlib.Core.List.{List, [], ◌∷◌}
use mathlib.Core.Path.{◌≡◌, sym, ◌∙◌}
use lib.Dec.{eqb}
use lib.ListN.{length, get_or, drop, drop_of_length-le}
use lib.Seq.{drop-cons}
use borrow.Author.Tests.{eqb-true, ne_eqb}
use Rattle.regs.proofs.Tests.{by_test}
use Rattle.std.specs.Prelude.{if◌then◌else◌, Some, None, option_and_then}
use Rattle.std.proofs.lemmas.Option.{none-some, same_Some}
use Rattle.master.specs.Operations.{total, known, READ, WRITE}
use Rattle.i2c.specs.Inner.Limits.{sums_with, sums_of}
use Rattle.i2c.specs.declared.limits.Sums.{Sums}

pub sums_are : (kinds lengths : List ℕ) (s : Sums) → length kinds ≡ length lengths
    → sums_of s kinds lengths
    ≡ (if known kinds
    then Some (record { written = s.written + total WRITE kinds lengths; room = s.room + total READ kinds lengths })
    else None)
unfolding sums_of sums_with known total
sums_are [] lengths s e = rw (add-zero s.written, add-zero s.room)
sums_are (kind ∷ kinds) [] s e = absurd (omega (arith, e))
sums_are (kind ∷ kinds) (n ∷ lengths) s e =
    by_test (eqb kind WRITE)
    (λ q. let z : eqb kind READ ≡ false = ne_eqb kind READ (λ y. absurd (omega (arith, eqb-true kind WRITE q, y))) in
    rw (q, z, ← add_assoc s.written n (total WRITE kinds lengths))
    (sums_are kinds lengths (record s { written = s.written + n }) (omega (arith, e))))
    (λ q. by_test (eqb kind READ)
    (λ z. rw (q, z, ← add_assoc s.room n (total READ kinds lengths))
    (sums_are kinds lengths (record s { room = s.room + n }) (omega (arith, e))))
    (λ z. rw (q, z)))

-- the loop that adds: what is added from here on is all of it
pub record Adding (kinds lengths : List ℕ) (s : Sums) (i : ℕ) : Type 0 where
  pub same : sums_of s (drop i kinds) (drop i lengths) ≡ sums_of (record { written = 0; room = 0 }) kinds lengths
  pub few_written : s.written ≤ 65535 * i
  pub few_read : s.room ≤ 65535 * i

grown : (s s' : Sums) (kind n : ℕ) → Some s' ≡ sums_with s kind n → (s'.written ≤ s.written + n) × (s'.room ≤ s.room + n)
unfolding sums_with
grown s s' kind n e =
    by_test (eqb kind WRITE)
    (λ q. let f : s' ≡ record s { written = s.written + n } = same_Some _ _ (rw q at e) in rw f (omega arith, omega arith))
    (λ q. by_test (eqb kind READ)
    (λ z. let f : s' ≡ record s { room = s.room + n } = same_Some _ _ (rw (q, z) at e) in rw f (omega arith, omega arith))
    (λ z. absurd (none-some s' (sym (rw (q, z) at e)))))

-- the operation that comes next
module _ (kinds lengths : List ℕ) (s : Sums) (i kind n : ℕ) (a : Adding kinds lengths s i) (h : i < length kinds)
    (h' : i < length lengths) (ek : kind ≡ get_or kinds i 0) (en : n ≡ get_or lengths i 0) where
  next : sums_of s (drop i kinds) (drop i lengths)
      ≡ option_and_then (λ (more : Sums). sums_of more (drop (i + 1) kinds) (drop (i + 1) lengths)) (sums_with s kind n)
  unfolding sums_of
  next =
      let first_kind : drop i kinds ≡ kind ∷ drop (i + 1) kinds = rw (ek, add-one i) (drop-cons kinds i 0 h) in
      let first_length : drop i lengths ≡ n ∷ drop (i + 1) lengths = rw (en, add-one i) (drop-cons lengths i 0 h') in
      rw (first_kind, first_length)

  pub adding_more : (s' : Sums) → n ≤ 65535 → Some s' ≡ sums_with s kind n → Adding kinds lengths s' (i + 1)
  adding_more s' few e =
      let g = grown s s' kind n e in
      record {
        same = sym (rw (← e) at next) ∙ a.same;
        few_written = omega (arith, g.0, a.few_written);
        few_read = omega (arith, g.1, a.few_read);
      }

  pub unknown : None ≡ sums_with s kind n → None ≡ sums_of (record { written = 0; room = 0 }) kinds lengths
  unknown e = sym (rw (← e) at next) ∙ a.same

pub all_added : (kinds lengths : List ℕ) (s : Sums) (i : ℕ)
    → Adding kinds lengths s i
    → i ≡ length kinds
    → Some s ≡ sums_of (record { written = 0; room = 0 }) kinds lengths
unfolding sums_of
all_added kinds lengths s i a h =
    let all : length kinds ≤ i = omega (arith, h) in
    rw (drop_of_length-le kinds all) at a.same
