-- The turn of a line, from the texts that the functions put into their buffers.
use Prim.Native.Nat.{ℕ, ◌≤◌}
use native.Mathlib.Omega.{arith}
use mathlib.Core.Bool.{Bool, true, false, true≢false}
use mathlib.Core.List.{List, [], ◌∷◌}
use mathlib.Core.Path.{◌≡◌, refl, sym, ap, ◌∙◌}
use lib.Dec.{ltb}
use lib.ListN.{length, take, drop}
use lib.Seq.{length-take-le}
use borrow.Author.Tests.{le-ltb, lt-ltb, ne_eqb}
use Rattle.std.specs.Prelude.{if◌then◌else◌}
use Rattle.regs.specs.Log.{decode}
use Rattle.bus.specs.declared.Sign.{Sign}
use Rattle.bus.specs.Bus.{bus_sequence}
use Rattle.text_hex.specs.Appended.{Appended}
use Rattle.svg_text.specs.Picture.{opening_text, head_text, svg_text, picture}
use Rattle.answer_frames.specs.Frames.{frame_of, is_answer}
use Rattle.answer_lines.specs.Lines.{number_after, no_frame, warning, kept_on, LOG_WORDS}
use Rattle.answer_lines.proofs.Signs.{signs_fit}
use Rattle.svg_lines.specs.Drawn.{Turn, goes, ends, warned}
use Rattle.svg_lines.specs.Inner.Said.{turn_by, PLACES, PICTURE_ROOM, picture_of, log_picture, SaidAs}
use Rattle.svg_lines.specs.declared.Kept.{Kept}

-- a picture does not depend on how much larger than needed the buffers are
picture_in : (log : List ℕ) (places room : ℕ)
    → length log ≤ LOG_WORDS
    → PLACES ≤ places
    → PICTURE_ROOM ≤ room
    → picture log places room ≡ log_picture log
unfolding picture
picture_in log places room f h g = λ i.
    if le-ltb 32768 (length (bus_sequence (decode log))) (signs_fit log f) i then [] else
    (if le-ltb places 32768 h i then [] else (if le-ltb room 53000 g i then [] else log_picture log))

pub picture_as : (log : List ℕ) (places : ℕ) {d e : List ℕ} {m r : ℕ}
    → length log ≤ LOG_WORDS
    → PLACES ≤ places
    → PICTURE_ROOM ≤ length d
    → Appended d 0 (picture log places (length d)) m e r
    → Appended d 0 (log_picture log) m e r
picture_as log places {d} f h g a = record { same = a.same ∙ picture_in log places (length d) f h g; room = a.room }

-- a picture's first byte is `<`
begins : (ss : List Sign) (n : ℕ) → svg_text ss n ≡ 60 ∷ drop 1 (svg_text ss n)
unfolding svg_text head_text opening_text
begins ss n = refl

drawn_if : (ss : List Sign) → turn_by (ltb 0 (length (picture_of ss))) [] (picture_of ss) ≡ ends ss
drawn_if [] = refl
drawn_if (s ∷ ss) =
    let svg : List ℕ = svg_text (take 256 (s ∷ ss)) (length (s ∷ ss)) in
    let e : picture_of (s ∷ ss) ≡ svg =
    ap (λ (b : Bool). if b then [] else svg_text (take 256 (s ∷ ss)) (length (s ∷ ss))) (ne_eqb (length (s ∷ ss)) 0 (λ z. omega arith)) in
    let h = ap length (e ∙ begins (take 256 (s ∷ ss)) (length (s ∷ ss))) in
    let p : ltb 0 (length (picture_of (s ∷ ss))) ≡ true = lt-ltb 0 (length (picture_of (s ∷ ss))) (omega (arith, h)) in
    λ i. turn_by (p i) [] (e i)

-- a text of no byte is no picture
ends_by : {before after : List ℕ} {most made : ℕ} (ss : List Sign)
    → Appended before 0 (picture_of ss) most after made
    → made ≤ length after
    → turn_by (ltb 0 made) [] (take made after) ≡ ends ss
ends_by {before} {after} {most} {made} ss a h =
    let z : length (picture_of ss) ≡ made = ap length (sym a.same) ∙ length-take-le made after h in
    (λ i. turn_by (ltb 0 (sym z i)) [] (a.same i)) ∙ drawn_if ss

pub warned_as : (number : ℕ) (line : List ℕ) {d e : List ℕ} {r : ℕ}
    → no_frame line ≡ true
    → Appended d 0 (warning number) 47 e r
    → Appended d 0 (warned number line) 47 e r
warned_as number line e a = record { same = a.same ∙ sym (ap (λ (b : Bool). if b then warning number else []) e); room = a.room }

pub not_warned : (number : ℕ) (line : List ℕ) {d : List ℕ} → no_frame line ≡ false → Appended d 0 (warned number line) 47 d 0
not_warned number line e = record { same = sym (ap (λ (b : Bool). if b then warning number else []) e); room = omega arith }

-- ---- a line

abbrev turn_of : Bool → ℕ → List ℕ → List ℕ → Turn
turn_of answer number log line = if answer then ends (bus_sequence (decode log)) else goes (kept_on log line) (warned number line)

module _ {o : Kept} {log line out : List ℕ} {n : ℕ} (e : n ≡ number_after o.lines) where
  pub of_behind : o.drawn ≡ true → SaidAs o log line log out (record { kept = record { lines = n; drawn = true }; made = 0 })
  of_behind d = record {
    lines = e;
    before = λ f. absurd (true≢false (sym d ∙ f));
    behind = λ f. (refl, refl);
    made = omega arith;
  }

  pub of_answer : {log' out₀ : List ℕ} {made : ℕ}
      → o.drawn ≡ false
      → is_answer (frame_of line) ≡ true
      → Appended out₀ 0 (log_picture log) (length out₀) out made
      → length out ≡ length out₀
      → log' ≡ []
      → SaidAs o log line log' out (record { kept = record { lines = n; drawn = ltb 0 made }; made = made })
  of_answer {made = made} d f a z k = record {
    lines = e;
    before = λ g. (λ i. turn_by (ltb 0 made) (k i) (take made out))
        ∙ (ends_by (bus_sequence (decode log)) a (omega (arith, a.room))
        ∙ (λ i. turn_of (sym f i) (number_after o.lines) log line));
    behind = λ g. absurd (true≢false (sym g ∙ d));
    made = omega (arith, a.room);
  }

  pub of_other : {log' out₀ : List ℕ} {made : ℕ}
      → o.drawn ≡ false
      → is_answer (frame_of line) ≡ false
      → PICTURE_ROOM ≤ length out₀
      → Appended out₀ 0 (warned n line) 47 out made
      → length out ≡ length out₀
      → log' ≡ kept_on log line
      → SaidAs o log line log' out (record { kept = record { lines = n; drawn = false }; made = made })
  of_other d f l a z k = record {
    lines = e;
    before = λ g.
        (λ i. goes (k i) (a.same i))
        ∙ ((λ i. goes (kept_on log line) (warned (e i) line))
        ∙ (λ i. turn_of (sym f i) (number_after o.lines) log line));
    behind = λ g. absurd (true≢false (sym g ∙ d));
    made = omega (arith, a.room);
  }
