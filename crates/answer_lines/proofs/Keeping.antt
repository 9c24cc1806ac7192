-- The log after a line, from the contract of `explain_bus::kept::keep`: where its end is past the log's room it is cut there,
-- and the words up to it are the same. And the log of words that are handed over, as far as there is room.
use Prim.Native.Nat.{ℕ, min, ◌≤◌}
use native.Mathlib.Omega.{arith}
use mathlib.Core.Bool.{Bool, true, false}
use mathlib.Core.List.{List, ◌++◌}
use mathlib.Core.Path.{◌≡◌, refl, sym, ap, ◌∙◌}
use lib.Dec.{ltb}
use lib.ListN.{length, take}
use lib.Seq.{length-take-le, take_all, take-append-le}
use borrow.Author.Tests.{ltb-true, ltb-false}
use Rattle.text_hex.specs.Appended.{Appended}
use Rattle.explain_bus.specs.Line.{kept}
use Rattle.answer_lines.specs.Lines.{LOG_WORDS, KeptOn}

cut : (n end : ℕ) (l : List ℕ) (b : Bool) → n ≡ min end (length l) → ltb end (length l) ≡ b → take n l ≡ take end l
cut n end l true e t =
    let s : n ≡ end = omega (arith, ltb-true end (length l) t) in
    rw s
cut n end l false e t =
    let g : length l ≤ end = ltb-false end (length l) t in
    take_all n l (omega arith) ∙ sym (take_all end l g)

pub keeps : {log line after : List ℕ} {used end n : ℕ}
    → length log ≡ LOG_WORDS
    → used ≤ LOG_WORDS
    → Appended log used (kept line used (length log)) 2 after end
    → length after ≡ length log
    → n ≡ min end (length after)
    → KeptOn log used line after n
keeps {log} {line} {after} {used} {end} {n} z u a s e =
    let l : length (take used log) ≡ used = length-take-le used log (omega arith) in
    record {
      same = cut n end after (ltb end (length after)) e refl
          ∙ (a.same ∙ ap (λ (t : List ℕ). take used log ++ t) (rw (l, z)));
      room = omega arith;
    }

pub handed_over : (n : ℕ) (words : List ℕ) {first : List ℕ} (rest : List ℕ)
    → n ≡ min LOG_WORDS (length words)
    → first ≡ take n words
    → take n (first ++ rest) ≡ take LOG_WORDS words
handed_over n words {first} rest m e =
    let l : length first ≡ n = ap length e ∙ length-take-le n words (omega arith) in
    take-append-le n first rest (omega arith)
    ∙ (take_all n first (omega arith) ∙ (e ∙ cut n LOG_WORDS words (ltb LOG_WORDS (length words)) m refl))
