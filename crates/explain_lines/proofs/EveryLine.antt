-- Calls of `explain_line` one after the other write what Printed says: each call is a step of `explained_from` by its contract, and
-- lines that were cut are printed as if whole (proofs/Cut.antt).
use mathlib.Core.List.{List, ◌++◌}
use mathlib.Core.Path.{◌≡◌, refl, ap, ◌∙◌}
use Prim.Native.Nat.{ℕ}
use Rattle.text_hex.specs.Text.{lines}
use Rattle.explain_lines.specs.Printed.{Open, closed, line_text, explained_from, explained_all}
use Rattle.explain_lines.specs.Inner.Said.{open_of}
use Rattle.explain_lines.specs.declared.Call.{Call}
use Rattle.explain_lines.specs.Claim.{Calls, none, goes, EveryInput}
use Rattle.explain_lines.proofs.Cut.{cut_lines}

written : {c : Call} {log text : List ℕ} {ls : List (List ℕ)} → Calls c log ls text → text ≡ explained_from (open_of c log) ls
unfolding explained_from
written none = refl
written {c} {log} (goes {line = line} {ls = ls} s k) =
    (λ i. s.text i ++ written k i) ∙ ap (λ (o : Open). line_text (open_of c log) line ++ explained_from o ls) s.after

pub every_input : EveryInput
every_input log text input c ls room h e b k =
    written k
    ∙ ((λ i. explained_from (open_of (b.call i) (b.empty i)) ls)
    ∙ (ap explained_all e ∙ cut_lines room h (closed 0) (lines input)))
