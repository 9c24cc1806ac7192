-- Bytes kept one after the other.
use Prim.Native.Nat.{ℕ, ◌+◌, ◌<◌, ◌≤◌}
use native.Mathlib.Omega.{arith}
use native.Mathlib.Numerals.{add-one}
use mathlib.Core.List.{List, [], ◌∷◌, ◌++◌, append_assoc, append-nil}
use mathlib.Core.Path.{◌≡◌, refl, sym, ◌∙◌}
use lib.ListN.{length, take, drop, get_or, set, length-set}
use lib.Seq.{drop-cons, take-suc-set}
use borrow.Author.Tests.{ne_eqb}
use Rattle.text_hex.specs.Text.{lines_after}
use Rattle.replay_scan.specs.Inner.Bytes.{KeptAhead}

pub kept_none : (chunk room : List ℕ) → KeptAhead chunk room room 0
kept_none chunk room = record {
  same = λ begun input. rw append-nil;
  fits = omega arith;
  size = refl;
  inside = omega arith;
  none = λ e. refl;
}

module _ {chunk room₀ room : List ℕ} {k : ℕ} (p : KeptAhead chunk room₀ room k) (h : k < length chunk)
    (l : k < length room) where
  next_byte : drop k chunk ≡ get_or chunk k 0 ∷ drop (k + 1) chunk
  next_byte = rw (add-one k) (drop-cons chunk k 0 h)

  grown : (begun : List ℕ) (x : ℕ) → begun ++ take (k + 1) (set room k x) ≡ (begun ++ take k room) ++ (x ∷ [])
  grown begun x = rw (add-one k, take-suc-set room k x l) (sym (append_assoc begun (take k room) (x ∷ [])))

  pub kept_more : {x : ℕ} → x ≡ get_or chunk k 0 → (x ≡ 10 → ⊥) → KeptAhead chunk room₀ (set room k x) (k + 1)
  unfolding lines_after
  kept_more {x} e nl =
      record {
        same = λ begun input. p.same begun input ∙ rw (next_byte, ← e, ne_eqb x 10 nl, grown begun x);
        fits = rw length-set (omega arith);
        size = length-set room k x ∙ p.size;
        inside = omega arith;
        none = λ z. absurd (omega arith);
      }
