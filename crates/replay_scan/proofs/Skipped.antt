-- Digits skipped one after the other.
use Prim.Native.Nat.{ℕ, ◌+◌, ◌%◌, ◌<◌, ◌≤◌}
use native.Mathlib.Omega.{arith}
use native.Mathlib.Numerals.{add-one}
use mathlib.Core.Bool.{Bool, true, false, not}
use mathlib.Core.List.{List, [], ◌∷◌, ◌++◌, append_assoc, append-nil}
use mathlib.Core.Path.{◌≡◌, refl, sym, ap, ◌∙◌}
use lib.Dec.{ltb}
use lib.ListN.{length, take, drop, get_or, length-append, take-append-drop}
use lib.Seq.{take-suc, length-take-le}
use borrow.Author.Tests.{lt-ltb, ltb-true, ne_eqb}
use Rattle.regs.proofs.Tests.{both_of}
use Rattle.text_hex.specs.Text.{lines_after, digit_of}
use Rattle.text_hex.specs.Pairs.{all_digits}
use Rattle.text_hex.proofs.Pairs.{digits_joined, lf_none}
use Rattle.replay_session.specs.Inner.Bounded.{Held}
use Rattle.replay_session.specs.Inner.Enter.{longest_kept}
use Rattle.replay_state.specs.Inner.Rest.{digits_more, from_line, long_line}
use Rattle.replay_state.proofs.Long.{as_good}
use Rattle.replay_scan.specs.Inner.Bytes.{DigitsAhead}

pub skipped_none : (chunk : List ℕ) → DigitsAhead chunk 0
unfolding all_digits
skipped_none chunk = record { digits = refl; inside = omega arith }

pub skipped_more : {chunk : List ℕ} {k : ℕ}
    → DigitsAhead chunk k
    → k < length chunk
    → digit_of (get_or chunk k 0) < 16
    → DigitsAhead chunk (k + 1)
unfolding all_digits
skipped_more {chunk} {k} p h l =
    record {
      digits = rw (add-one, take-suc chunk k 0 h, digits_joined, p.digits, lt-ltb _ _ l);
      inside = omega arith;
    }

-- digits are no LF, so that the line goes on with them
on : (ds begun input : List ℕ) → all_digits ds ≡ true → lines_after begun (ds ++ input) ≡ lines_after (begun ++ ds) input
unfolding lines_after all_digits
on [] begun input e = rw append-nil
on (d ∷ ds) begun input e =
    let b = both_of (ltb (digit_of d) 16) (all_digits ds) e in
    rw (ne_eqb d 10 (lf_none (ltb-true (digit_of d) 16 b.0)), ← append_assoc begun (d ∷ []) ds) (on ds (begun ++ (d ∷ [])) input b.1)

zero_digit : all_digits (48 ∷ []) ≡ true
unfolding all_digits digit_of
zero_digit = refl

zero_digits : all_digits (48 ∷ 48 ∷ []) ≡ true
unfolding all_digits digit_of
zero_digits = refl

module _ (text : List ℕ) (size : length text ≡ longest_kept) (long : long_line text ≡ true) (chunk : List ℕ)
    (k : ℕ) (p : DigitsAhead chunk k) where
  -- behind k digits the line is as good as with one digit waiting, or two, by their number
  pub skipped : (odd to : Bool) → (length (digits_more odd) + k) % 2 ≡ length (digits_more to) % 2 → (line : ℕ) (h : Held) (input : List ℕ)
      → from_line line h (text ++ digits_more odd) (chunk ++ input)
      ≡ from_line line h (text ++ digits_more to) (drop k chunk ++ input)
  skipped odd to par line h input =
      ap (λ (x : List ℕ). from_line line h (text ++ digits_more odd) (x ++ input)) (sym (take-append-drop k chunk))
      ∙ (rw (
        append_assoc ds (drop k chunk) input,
        on ds (text ++ digits_more odd) (drop k chunk ++ input) p.digits,
        append_assoc text (digits_more odd) ds,
      )
      (as_good text size long h (digits_more odd ++ ds) (digits_more to) (rw length-append (some odd)) (plenty to)
      (rw (length-append, count) par) (digits_joined (digits_more odd) ds ∙ rw (zeros odd, p.digits))
      (zeros to) line (drop k chunk ++ input)))
    where
      ds : List ℕ
      ds = take k chunk

      count : length ds ≡ k
      count = length-take-le k chunk p.inside

      plenty : (o : Bool) → 0 < length (digits_more o)
      plenty true = omega arith
      plenty false = omega arith

      some : (o : Bool) → 0 < length (digits_more o) + length ds
      some true = omega arith
      some false = omega arith

      zeros : (o : Bool) → all_digits (digits_more o) ≡ true
      zeros true = zero_digit
      zeros false = zero_digits

pub even_more : (odd : Bool) (k : ℕ) → k % 2 ≡ 0 → (length (digits_more odd) + k) % 2 ≡ length (digits_more odd) % 2
even_more true k e = omega arith
even_more false k e = omega arith

pub odd_more : (odd : Bool) (k : ℕ) → (k % 2 ≡ 0 → ⊥) → (length (digits_more odd) + k) % 2 ≡ length (digits_more (not odd)) % 2
odd_more true k e = let o : k % 2 ≡ 1 = omega (arith, e) in omega arith
odd_more false k e = let o : k % 2 ≡ 1 = omega (arith, e) in omega arith
