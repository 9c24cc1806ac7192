-- A line that is longer than every answer frame is printed and kept the same, however much of it is cut off behind that.
use Prim.Native.Nat.{ℕ, ◌≤◌, ◌<◌}
use mathlib.Core.List.{List, [], ◌∷◌, ◌++◌, map}
use mathlib.Core.Logic.{⊎_elim}
use mathlib.Core.Path.{◌≡◌, refl, ap, ◌∙◌}
use lib.ListN.{length, take}
use Rattle.std.specs.Prelude.{Option, Some, None}
use Rattle.answer_frames.specs.Frames.{frame_of}
use Rattle.explain_beside.specs.Piece.{next}
use Rattle.explain_beside.specs.declared.transfer.Transfer.{Transfer}
use Rattle.answer_lines.specs.Lines.{number_after, warning}
use Rattle.answer_lines.proofs.Long.{long_frame, long_kept, long_answer, long_none, cut_same}
use Rattle.explain_lines.specs.Printed.{Open, open_after, line_text, explained_from}

long_transfer : (l : List ℕ) → 8194 < length l → (t : Option Transfer) → next t (frame_of l) ≡ t
long_transfer l h None = ⊎_elim (λ e. ap (next None) e) (λ e. ap (next None) e) (long_frame l h)
long_transfer l h (Some t) = ⊎_elim (λ e. ap (next (Some t)) e) (λ e. ap (next (Some t)) e) (long_frame l h)

abbrev passed : Open → Open
passed o = record { lines = number_after o.lines; transfer = o.transfer; log = o.log }

long_open : (o : Open) (l : List ℕ) → 8194 < length l → open_after o l ≡ passed o
long_open o l h = rw (long_answer l h, long_transfer l h o.transfer, long_kept l h o.log)

long_text : (o : Open) (l : List ℕ) → 8194 < length l → line_text o l ≡ warning (number_after o.lines)
long_text o l h = rw (long_answer l h, long_none l h)

module _ (room : ℕ) (h : 8195 ≤ room) where
  pub cut_lines : (o : Open) (ls : List (List ℕ)) → explained_from o (map (take room) ls) ≡ explained_from o ls
  unfolding explained_from
  cut_lines o [] = refl
  cut_lines o (l ∷ ls) =
      (λ i. cut_same (line_text o) (warning (number_after o.lines)) (long_text o) room h l i
      ++ explained_from (cut_same (open_after o) (passed o) (long_open o) room h l i) (map (take room) ls))
      ∙ ap (λ (t : List ℕ). line_text o l ++ t) (cut_lines (open_after o l) ls)
