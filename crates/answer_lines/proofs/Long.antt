-- A line of more than 8,194 bytes is no answer frame, and nothing of it is kept. So what is said of such a line is said of it
-- where it is cut behind that, too.
use Prim.Native.Nat.{ℕ, ◌≤◌, ◌<◌}
use native.Mathlib.Omega.{arith}
use mathlib.Core.Bool.{Bool, true, false}
use mathlib.Core.List.{List, [], ◌++◌, append-nil}
use mathlib.Core.Logic.{◌⊎◌, inl, inr, ⊎_elim}
use mathlib.Core.Path.{◌≡◌, refl, sym, ap, ◌∙◌}
use lib.Dec.{eqb, ltb}
use lib.ListN.{length, take}
use lib.Seq.{length-take-le, take_all}
use borrow.Author.Tests.{lt-ltb, le-ltb, ltb-true, ltb-false, ne_eqb}
use Rattle.std.specs.Prelude.{if◌then◌else◌, Option, Some, None}
use Rattle.text_hex.specs.Text.{number_at}
use Rattle.text_hex.specs.Pairs.{whole_pairs}
use Rattle.answer_frames.specs.declared.Frame.{Frame}
use Rattle.answer_frames.specs.declared.Frame.TheVariants.{Buffer}
use Rattle.answer_frames.specs.Frames.{frame_of, of_kind, is_answer}
use Rattle.explain_bus.specs.Line.{kept_of, kept}
use Rattle.answer_lines.specs.Lines.{no_frame, kept_on}

abbrev pub BufferOrNone : Option Frame → Type 0
BufferOrNone f = (f ≡ Some Buffer) ⊎ (f ≡ None)

pick : (a b : Bool) (f : Option Frame) → f ≡ None → BufferOrNone (if a then (if b then Some Buffer else None) else f)
pick true true f e = inl refl
pick true false f e = inr refl
pick false b f e = inr e

no_word : (b : Bool) (words : List ℕ) → words ≡ [] → (if b then [] else words) ≡ []
no_word true words e = refl
no_word false words e = e

module _ (l : List ℕ) (h : 8194 < length l) where
  of_value : (v : Option ℕ) → BufferOrNone (of_kind l v)
  of_value None = inr refl
  of_value (Some k) =
      pick (eqb k 0x34) (whole_pairs l) _ (rw (ne_eqb (length l) 2 (λ e. omega arith), ne_eqb (length l) 12 (λ e. omega arith)))

  pub long_frame : BufferOrNone (frame_of l)
  unfolding frame_of
  long_frame = rw (le-ltb (length l) 2 (omega arith)) (of_value (number_at l 0 2))

  no_words : (used : ℕ) → kept_of used (frame_of l) ≡ []
  no_words used = ⊎_elim (λ e. ap (kept_of used) e) (λ e. ap (kept_of used) e) long_frame

  pub long_kept : (log : List ℕ) → kept_on log l ≡ log
  unfolding kept
  long_kept log =
      ap (λ (words : List ℕ). log ++ words) (no_word (ltb 16382 (length log)) (kept_of (length log) (frame_of l)) (no_words (length log)))
      ∙ append-nil log

  pub long_answer : is_answer (frame_of l) ≡ false
  long_answer = ⊎_elim (λ e. ap is_answer e) (λ e. ap is_answer e) long_frame

  pub long_none : no_frame l ≡ true
  long_none = rw (lt-ltb 8194 (length l) h)

pub cut_same : {A : Type 0} (f : List ℕ → A) (a : A)
    → ((l : List ℕ) → 8194 < length l → f l ≡ a)
    → (room : ℕ)
    → 8195 ≤ room
    → (l : List ℕ)
    → f (take room l) ≡ f l
cut_same {A} f a g room h l = by (ltb room (length l)) refl
  where
    by : (b : Bool) → ltb room (length l) ≡ b → f (take room l) ≡ f l
    by true e =
        let k : room < length l = ltb-true room (length l) e in
        let z : length (take room l) ≡ room = length-take-le room l (omega arith) in
        g (take room l) (omega arith) ∙ sym (g l (omega arith))
    by false e = ap f (take_all room l (ltb-false room (length l) e))
