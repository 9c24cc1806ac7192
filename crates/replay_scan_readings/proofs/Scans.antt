-- Lines ahead in a chunk.
use Prim.Native.Nat.{ℕ, ◌+◌, ◌<◌, ◌≤◌}
use native.Mathlib.Omega.{arith}
use native.Mathlib.Numerals.{add-one}
use mathlib.Core.List.{List, [], ◌∷◌, ◌++◌}
use mathlib.Core.Path.{◌≡◌, refl, ◌∙◌}
use lib.ListN.{length, take, drop, get_or}
use lib.Seq.{take-suc, drop-cons}
use borrow.Author.Tests.{ne_eqb}
use Rattle.text_hex.specs.Text.{lines_after}
use Rattle.replay_state.specs.Inner.Rest.{Ahead}

-- no LF is among the first n bytes
pub record Scanned (chunk : List ℕ) (n : ℕ) : Type 0 where
  pub same : (input : List ℕ) → lines_after [] (chunk ++ input) ≡ lines_after (take n chunk) (drop n chunk ++ input)
  pub within : n ≤ length chunk

pub scan_none : (chunk : List ℕ) → Scanned chunk 0
scan_none chunk = record { same = λ input. refl; within = omega arith }

module _ {chunk : List ℕ} {n : ℕ} (p : Scanned chunk n) (h : n < length chunk) where
  next_byte : drop n chunk ≡ get_or chunk n 0 ∷ drop (n + 1) chunk
  next_byte = rw (add-one n) (drop-cons chunk n 0 h)

  grown : take (n + 1) chunk ≡ take n chunk ++ (get_or chunk n 0 ∷ [])
  grown = rw (add-one, take-suc chunk n 0 h)

  pub scan_found : get_or chunk n 0 ≡ 10 → Ahead chunk n
  unfolding lines_after
  scan_found e = record { found = λ l input. p.same input ∙ rw (next_byte, e); inside = λ l. h }

  pub scan_more : (get_or chunk n 0 ≡ 10 → ⊥) → Scanned chunk (n + 1)
  unfolding lines_after
  scan_more e = record { same = λ input. p.same input ∙ rw (next_byte, ne_eqb (get_or chunk n 0) 10 e, grown); within = omega arith }
