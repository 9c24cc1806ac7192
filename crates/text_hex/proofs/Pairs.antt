-- Pairs of digits, digit by digit and byte by byte.
use Prim.Native.Nat.{ℕ, zero, suc, ◌+◌, ◌*◌, ◌-◌, ◌/◌, ◌%◌, ◌<◌, ◌≤◌}
use native.Mathlib.Omega.{arith}
use native.Mathlib.Numerals.{add-one}
use mathlib.Core.Bool.{Bool, true, false, ◌&&◌}
use mathlib.Core.List.{List, [], ◌∷◌, ◌++◌, append-nil, append_assoc}
use mathlib.Core.Path.{◌≡◌, refl, sym, ◌∙◌}
use lib.Dec.{eqb, ltb}
use lib.ListN.{length, take, drop, get_or, set, length-set, drop_of_length-le}
use lib.Seq.{drop-cons, take-suc, take-suc-set, take-set-le, take_all}
use borrow.Author.Tests.{ltb-true, ltb-false}
use Rattle.regs.proofs.Tests.{both_of}
use Rattle.std.specs.Prelude.{if◌then◌else◌, Option, Some, None}
use Rattle.text_hex.specs.Text.{LF, digit_of, and_bytes, bytes_of}
use Rattle.text_hex.specs.Pairs.{all_digits, whole_pairs, values, PutAt}

-- ---- every byte a digit

pub digit_next : (ds : List ℕ) (i : ℕ)
    → i < length ds
    → all_digits (drop i ds) ≡ ltb (digit_of (get_or ds i 0)) 16 && all_digits (drop (i + 1) ds)
unfolding all_digits
digit_next ds i h = rw (drop-cons ds i 0 h, add-one)

-- one more byte is looked at, after what was found of those before
pub digit_more : (b : Bool) (ds : List ℕ) (i : ℕ)
    → i < length ds
    → (b && ltb (digit_of (get_or ds i 0)) 16) && all_digits (drop (i + 1) ds) ≡ b && all_digits (drop i ds)
digit_more true ds i h = sym (digit_next ds i h)
digit_more false ds i h = refl

pub digits_end : (b : Bool) (ds : List ℕ) (i : ℕ) → length ds ≤ i → b && all_digits (drop i ds) ≡ b
unfolding all_digits
digits_end true ds i h = rw (drop_of_length-le ds h)
digits_end false ds i h = refl

pub digit_at : (ds : List ℕ) (i : ℕ) → all_digits ds ≡ true → i < length ds → digit_of (get_or ds i 0) < 16
unfolding all_digits
digit_at [] i e h = absurd (omega arith)
digit_at (c ∷ cs) zero e h = ltb-true _ _ (both_of (ltb (digit_of c) 16) (all_digits cs) e).0
digit_at (c ∷ cs) (suc i) e h = digit_at cs i (both_of (ltb (digit_of c) 16) (all_digits cs) e).1 (omega arith)

pub digits_joined : (ds es : List ℕ) → all_digits (ds ++ es) ≡ all_digits ds && all_digits es
unfolding all_digits
digits_joined [] es = refl
digits_joined (c ∷ cs) es = rw (digits_joined cs es) (go (ltb (digit_of c) 16) (all_digits cs) (all_digits es))
  where
    go : (a b e : Bool) → a && (b && e) ≡ (a && b) && e
    go true b e = refl
    go false b e = refl

-- an LF is no digit
pub lf_none : {x : ℕ} → digit_of x < 16 → x ≡ LF → ⊥
unfolding digit_of
lf_none h e = let k : digit_of 10 < 16 = rw e at h in omega (arith, k)

-- the value of a digit, with no test
pub digit_plain : (c : ℕ) → digit_of c < 16 → c % 16 + c / 64 * 9 ≡ digit_of c
unfolding digit_of
digit_plain c = go (ltb c 48) (ltb c 58) (ltb c 65) (ltb c 71) refl refl refl refl
  where
    go : (p q r t : Bool) → ltb c 48 ≡ p → ltb c 58 ≡ q → ltb c 65 ≡ r → ltb c 71 ≡ t
        → (if p then 16 else (if q then c - 48 else (if r then 16 else (if t then c - 55 else 16)))) < 16
        → c % 16 + c / 64 * 9
        ≡ (if p then 16 else (if q then c - 48 else (if r then 16 else (if t then c - 55 else 16))))
    go true q r t a b d e h = absurd (omega arith)
    go false true r t a b d e h = omega (arith, ltb-false c 48 a, ltb-true c 58 b)
    go false false true t a b d e h = absurd (omega arith)
    go false false false true a b d e h = omega (arith, ltb-false c 65 d, ltb-true c 71 e)
    go false false false false a b d e h = absurd (omega arith)

-- ---- by pairs

half : (n : ℕ) → (n + 2) / 2 ≡ n / 2 + 1
half n = omega arith

rest : (n : ℕ) → (n + 2) % 2 ≡ n % 2
rest n = omega arith

pub length_values : (ds : List ℕ) → length (values ds) ≡ length ds / 2
unfolding values
length_values [] = refl
length_values (c ∷ []) = refl
length_values (c ∷ d ∷ cs) = omega (arith, length_values cs, half (length cs))

pub value_at : (ds : List ℕ) (i : ℕ)
    → i < length ds / 2
    → get_or (values ds) i 0 ≡ digit_of (get_or ds (2 * i) 0) * 16 + digit_of (get_or ds (2 * i + 1) 0)
unfolding values
value_at [] i h = absurd (omega arith)
value_at (c ∷ []) i h = absurd (omega arith)
value_at (c ∷ d ∷ cs) zero h = refl
value_at (c ∷ d ∷ cs) (suc i) h =
    let e : 2 * suc i ≡ suc (suc (2 * i)) = omega arith in
    let f : suc (suc (2 * i)) + 1 ≡ suc (suc (2 * i + 1)) = omega arith in
    rw (e, f) (value_at cs i (omega (arith, half (length cs))))

pub pair_digits : (ds : List ℕ) (i : ℕ)
    → whole_pairs ds ≡ true
    → i < length ds / 2
    → (digit_of (get_or ds (2 * i) 0) < 16) × (digit_of (get_or ds (2 * i + 1) 0) < 16)
pair_digits ds i e h =
    let f : all_digits ds ≡ true = (both_of (eqb (length ds % 2) 0) (all_digits ds) e).1 in
    (digit_at ds (2 * i) f (omega arith), digit_at ds (2 * i + 1) f (omega arith))

-- what pairs of digits write, and that nothing else writes bytes
abbrev told : List ℕ → Bool → Option (List ℕ)
told ds b = if b then Some (values ds) else None

pub bytes_told : (ds : List ℕ) → bytes_of ds ≡ told ds (whole_pairs ds)
unfolding bytes_of all_digits values
bytes_told [] = refl
bytes_told (c ∷ []) = refl
bytes_told (c ∷ d ∷ cs) = rw (bytes_told cs, even)
    (go (ltb (digit_of c) 16) (ltb (digit_of d) 16) (eqb (length cs % 2) 0) (all_digits cs) refl refl refl refl)
  where
    even : length (c ∷ d ∷ cs) % 2 ≡ length cs % 2
    even = omega (arith, rest (length cs))

    go : (a b e f : Bool) → ltb (digit_of c) 16 ≡ a → ltb (digit_of d) 16 ≡ b → eqb (length cs % 2) 0 ≡ e → all_digits cs ≡ f
        → and_bytes (digit_of c) (digit_of d) (told cs (eqb (length cs % 2) 0 && all_digits cs))
        ≡ told (c ∷ d ∷ cs) (eqb (length cs % 2) 0 && (ltb (digit_of c) 16 && (ltb (digit_of d) 16 && all_digits cs)))
    go true true true true p q r t = rw (r, t, p, q)
    go true true true false p q r t = rw (r, t, p, q)
    go true false true true p q r t = rw (r, t, p, q)
    go true false true false p q r t = rw (r, t, p, q)
    go false b true true p q r t = rw (r, t, p)
    go false b true false p q r t = rw (r, t, p)
    go a b false f p q r t = rw r

pub written : (ds : List ℕ) → whole_pairs ds ≡ true → bytes_of ds ≡ Some (values ds)
written ds e = bytes_told ds ∙ rw e

pub unwritten : (ds : List ℕ) → whole_pairs ds ≡ false → bytes_of ds ≡ None
unwritten ds e = bytes_told ds ∙ rw e

-- ---- put into a buffer

-- what holds after i of the pairs
pub record Putting (ds : List ℕ) (at : ℕ) (before after : List ℕ) (i : ℕ) : Type 0 where
  pub stored : at + i ≤ length before → take (at + i) after ≡ take at before ++ take i (values ds)
  pub below : take at after ≡ take at before
  pub size : length after ≡ length before
  pub within : i ≤ length ds / 2

pub none_put : (ds : List ℕ) (at : ℕ) (before : List ℕ) → Putting ds at before before 0
none_put ds at before =
    let z : at + 0 ≡ at = omega arith in
    record { stored = λ h. rw z (sym (append-nil (take at before))); below = refl; size = refl; within = omega arith }

-- where there is no room for all, nothing is put
pub not_put : (ds : List ℕ) (at : ℕ) (before : List ℕ) → length before < at + length ds / 2 → PutAt ds at before before
not_put ds at before h = record { stored = λ l. absurd (omega arith); below = refl; size = refl }

module _ {ds before after : List ℕ} {at i : ℕ} (p : Putting ds at before after i) where
  pub one_put : (v : ℕ) → i < length ds / 2 → v ≡ get_or (values ds) i 0 → Putting ds at before (set after (at + i) v) (i + 1)
  one_put v h e =
      let z : at + (i + 1) ≡ at + i + 1 = omega arith in
      record {
        stored =
            λ l. rw (
              z,
              add-one (at + i),
              take-suc-set after (at + i) v (omega (arith, p.size)),
              p.stored (omega arith),
              append_assoc,
              add-one i,
              take-suc (values ds) i 0 (omega (arith, length_values ds)),
              e,
            );
        below = take-set-le at after (at + i) v (omega arith) ∙ p.below;
        size = length-set after (at + i) v ∙ p.size;
        within = omega arith;
      }

  pub all_put : length ds / 2 ≤ i → PutAt ds at before after
  all_put h =
      let all : i ≡ length ds / 2 = omega (arith, p.within) in
      let whole : take i (values ds) ≡ values ds = take_all i (values ds) (omega (arith, length_values ds)) in
      record { stored = λ l. rw (← all, p.stored (omega arith), whole); below = p.below; size = p.size }
