-- The claim for the whole program: a call of `begin`, and lines that calls of `next_line` hand out, each given to a call of
-- `explain_line` in turn. What is written is what explain_lines's Printed says of the bytes that came.
use Prim.Native.Nat.{ℕ, ◌≤◌}
use native.Mathlib.Omega.{arith}
use mathlib.Core.List.{List, [], ◌++◌, map}
use mathlib.Core.Path.{◌≡◌, ap, ◌∙◌}
use lib.ListN.{take}
use Rattle.text_hex.specs.Text.{lines}
use Rattle.text_stdin.specs.Handed.{unread}
use Rattle.text_stdin.specs.declared.Source.{Source}
use Rattle.text_stdin.specs.declared.reads.End.TheVariants.{Ended}
use Rattle.text_stdin.proofs.EveryLine as input
use Rattle.explain_lines.specs.Printed.{explained_input}
use Rattle.explain_lines.specs.Inner.Said.{BegunAs}
use Rattle.explain_lines.specs.declared.Call.{Call}
use Rattle.explain_lines.specs.Claim.{Calls}
use Rattle.explain_lines.proofs.EveryLine.{every_input}

pub whole : {s : Source} {chunk came log text : List ℕ} {c : Call} {ls : List (List ℕ)} (room : ℕ)
    → 8195 ≤ room
    → unread s chunk ≡ []
    → input.Calls room s chunk ls came Ended
    → BegunAs log c
    → Calls c log ls text
    → text ≡ explained_input came
whole {came = came} {log = log} {text = text} {c = c} {ls = ls} room h u a g b =
    every_input log text came c ls room h
    (input.every_line (omega arith) a ∙ ap (λ (l : List ℕ). map (take room) (lines (l ++ came))) u) g b
