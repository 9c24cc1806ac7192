-- The claim for the whole program: a call of `begin`, lines that calls of `next_line` hand out, each given to a call of `draw_line`
-- in turn, and then a call of `finish`. What is written is what svg_lines's Drawn says of the bytes that came. A program that stops
-- at the picture leaves the rest of its input unread, whatever it is.
use Prim.Native.Nat.{ℕ, ◌≤◌}
use native.Mathlib.Omega.{arith}
use mathlib.Core.List.{List, [], ◌++◌, map}
use mathlib.Core.Path.{◌≡◌, ap, ◌∙◌}
use lib.ListN.{take}
use Rattle.text_hex.specs.Text.{lines}
use Rattle.text_hex.specs.Appended.{Appended}
use Rattle.text_stdin.specs.Handed.{unread}
use Rattle.text_stdin.specs.declared.Source.{Source}
use Rattle.text_stdin.specs.declared.reads.End.TheVariants.{Ended}
use Rattle.text_stdin.proofs.EveryLine as input
use Rattle.svg_lines.specs.Drawn.{drawn_input}
use Rattle.svg_lines.specs.Inner.Said.{BegunAs, last_warning}
use Rattle.svg_lines.specs.declared.Kept.{Kept}
use Rattle.svg_lines.specs.Claim.{Calls, AllWritten}
use Rattle.svg_lines.proofs.EveryLine.{every_input}

pub whole : {s : Source} {chunk came log output errors before last : List ℕ} {k : Kept} {ls : List (List ℕ)} {m : Kept} {made : ℕ}
    (room : ℕ)
    → 8195 ≤ room
    → unread s chunk ≡ []
    → input.Calls room s chunk ls came Ended
    → BegunAs log k
    → Calls k log ls output errors m
    → Appended before 0 (last_warning m.drawn) 38 last made
    → AllWritten (drawn_input came) output (errors ++ take made last)
whole {came = came} {log = log} {output = output} {errors = errors} {before = before} {last = last} {k = k} {ls = ls} {m = m}
    {made = made} room h u a g b f =
    every_input log output errors before last came k ls m made room h
    (input.every_line (omega arith) a ∙ ap (λ (l : List ℕ). map (take room) (lines (l ++ came))) u) g b f
