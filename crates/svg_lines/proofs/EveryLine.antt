-- Calls of `draw_line` one after the other, and one of `finish`, write what Drawn says: each call before the picture is a turn by
-- its contract, behind the picture nothing is written, and lines that were cut are taken as if whole.
use Prim.Native.Nat.{ℕ, ◌≤◌, ◌<◌}
use mathlib.Core.Bool.{Bool, true, false, true≢false}
use mathlib.Core.List.{List, [], ◌∷◌, ◌++◌, map, append_assoc, append-nil}
use mathlib.Core.Path.{◌≡◌, refl, sym, ap, subst, ◌∙◌}
use lib.ListN.{length, take}
use Rattle.text_hex.specs.Text.{lines}
use Rattle.answer_lines.specs.Lines.{number_after, warning}
use Rattle.answer_lines.proofs.Long.{long_kept, long_answer, long_none, cut_same}
use Rattle.svg_lines.specs.Drawn.{Written, Turn, draws, goes, turn, onward, drawn_from, drawn_all}
use Rattle.svg_lines.specs.Claim.{Calls, none, stops, puts, warns, AllWritten, EveryInput}
use Rattle.svg_lines.specs.Inner.Said.{turn_by, SaidAs, last_warning}
use Rattle.svg_lines.specs.declared.Kept.{Kept}
use Rattle.svg_lines.specs.declared.Said.{Said}

abbrev nothing : Written
nothing = record { output = []; errors = [] }

record Wrote (w : Written) (output errors : List ℕ) (drawn : Bool) : Type 0 where
  out : output ≡ w.output
  err : errors ++ last_warning drawn ≡ w.errors

-- behind the picture nothing is written
over : {k m : Kept} {log output errors : List ℕ} {ls : List (List ℕ)}
    → Calls k log ls output errors m
    → k.drawn ≡ true
    → Wrote nothing output errors m.drawn
over none e = record { out = refl; err = rw e }
over (stops h) e = record { out = refl; err = rw e }
over (puts s p c) e =
    let b = s.behind e in
    let o = over c b.0 in
    record { out = rw b.1 o.out; err = o.err }
over (warns s p c) e =
    let b = s.behind e in
    let o = over c b.0 in
    record { out = o.out; err = rw b.1 o.err }

-- from a line's turn to the lines behind it
onward_draws : {t : Turn} (text : List ℕ) (f : List ℕ → Written) → draws text ≡ t → onward t f ≡ record { output = text; errors = [] }
onward_draws text f e = ap (λ (t : Turn). onward t f) (sym e)

onward_goes : {t : Turn} (log text : List ℕ) (f : List ℕ → Written)
    → goes log text ≡ t
    → onward t f ≡ record { output = (f log).output; errors = text ++ (f log).errors }
onward_goes log text f e = ap (λ (t : Turn). onward t f) (sym e)

first : (k : Kept) (log line log' out output errors : List ℕ) (ls : List (List ℕ)) (r : Said) (end : Bool)
    → SaidAs k log line log' out r
    → k.drawn ≡ false
    → r.kept.drawn ≡ true
    → Wrote nothing output errors end
    → Wrote (drawn_from k.lines log (line ∷ ls)) (take r.made out ++ output) errors end
unfolding drawn_from
first k log line log' out output errors ls r end s e p w =
    let q = onward_draws (take r.made out) (λ (after : List ℕ). drawn_from (number_after k.lines) after ls)
    (ap (λ (b : Bool). turn_by b log' (take r.made out)) (sym p) ∙ s.before e) in
    record {
      out = ap (λ (l : List ℕ). take r.made out ++ l) w.out
          ∙ (append-nil (take r.made out) ∙ sym (ap (λ (v : Written). v.output) q));
      err = w.err ∙ sym (ap (λ (v : Written). v.errors) q);
    }

later : (k : Kept) (log line log' out output errors : List ℕ) (ls : List (List ℕ)) (r : Said) (end : Bool)
    → SaidAs k log line log' out r
    → k.drawn ≡ false
    → r.kept.drawn ≡ false
    → Wrote (drawn_from r.kept.lines log' ls) output errors end
    → Wrote (drawn_from k.lines log (line ∷ ls)) output (take r.made out ++ errors) end
unfolding drawn_from
later k log line log' out output errors ls r end s e p w =
    let q = onward_goes log' (take r.made out)
    (λ (after : List ℕ). drawn_from (number_after k.lines) after ls)
    (ap (λ (b : Bool). turn_by b log' (take r.made out)) (sym p) ∙ s.before e) in
    let v = subst (λ (n : ℕ). Wrote (drawn_from n log' ls) output errors end) s.lines w in
    record {
      out = v.out ∙ sym (ap (λ (u : Written). u.output) q);
      err = append_assoc (take r.made out) errors (last_warning end)
          ∙ (ap (λ (l : List ℕ). take r.made out ++ l) v.err ∙ sym (ap (λ (u : Written). u.errors) q));
    }

writes : {k m : Kept} {log output errors : List ℕ} {ls : List (List ℕ)}
    → Calls k log ls output errors m
    → k.drawn ≡ false
    → Wrote (drawn_from k.lines log ls) output errors m.drawn
unfolding drawn_from
writes none e = record { out = refl; err = rw e }
writes {k} (stops h) e = absurd (true≢false (sym h ∙ e))
writes {k} {m} {log} (puts {log' = log'} {line = line} {out = out} {output = output} {errors = errors} {ls = ls} {r = r} s p c) e =
    first k log line log' out output errors ls r m.drawn s e p (over c p)
writes {k} {m} {log} (warns {log' = log'} {line = line} {out = out} {output = output} {errors = errors} {ls = ls} {r = r} s p c) e =
    later k log line log' out output errors ls r m.drawn s e p (writes c p)

-- ---- lines that are cut

long_turn : (n : ℕ) (log l : List ℕ) → 8194 < length l → turn n log l ≡ goes log (warning n)
long_turn n log l h = rw (long_answer l h, long_none l h, long_kept l h log)

onward_same : (t : Turn) (f g : List ℕ → Written) → ((log : List ℕ) → f log ≡ g log) → onward t f ≡ onward t g
onward_same (draws text) f g h = refl
onward_same (goes log text) f g h = ap (λ (w : Written). record { output = w.output; errors = text ++ w.errors }) (h log)

cut_lines : (room : ℕ)
    → 8195 ≤ room
    → (n : ℕ) (log : List ℕ) (ls : List (List ℕ))
    → drawn_from n log (map (take room) ls) ≡ drawn_from n log ls
unfolding drawn_from
cut_lines room h n log [] = refl
cut_lines room h n log (l ∷ ls) =
    ap (λ (t : Turn). onward t (λ (after : List ℕ). drawn_from (number_after n) after (map (take room) ls)))
    (cut_same (turn (number_after n) log) (goes log (warning (number_after n))) (long_turn (number_after n) log) room h l)
    ∙ (onward_same (turn (number_after n) log l)
    (λ (after : List ℕ). drawn_from (number_after n) after (map (take room) ls))
    (λ (after : List ℕ). drawn_from (number_after n) after ls)
    (λ after. cut_lines room h (number_after n) after ls))

-- ---- the claim

pub every_input : EveryInput
every_input log output errors before last input k ls m made room h e b c f =
    let w = writes c (ap (λ (o : Kept). o.drawn) b.kept) in
    subst (λ (v : Written). AllWritten v output (errors ++ take made last))
    ((λ i. drawn_from (b.kept i).lines (b.empty i) ls) ∙ (ap drawn_all e ∙ cut_lines room h 0 [] (lines input)))
    record { output = w.out; errors = ap (λ (l : List ℕ). errors ++ l) f.same ∙ w.err }
