-- The claim over a call of `begin`, calls of `draw_line` one after the other behind it, and one of `finish`.
use Rattle.std.specs.Prelude.{ℕ, ◌≤◌, true, false, List, [], ◌∷◌, ◌++◌, map, ◌≡◌, take}
use Rattle.text_hex.specs.Text.{lines}
use Rattle.text_hex.specs.Appended.{Appended}
use Rattle.svg_lines.specs.Drawn.{Written, drawn_input}
use Rattle.svg_lines.specs.Inner.Said.{BegunAs, SaidAs, last_warning}
use Rattle.svg_lines.specs.declared.Kept.{Kept}
use Rattle.svg_lines.specs.declared.Said.{Said}

-- calls one after the other, by their contract: from what is kept, with the lines, what is written to standard
-- output and to standard error, and what is kept at the end. Behind the picture no more calls need be made.
pub data Calls : Kept → List ℕ → List (List ℕ) → List ℕ → List ℕ → Kept → Type 0 where
  none : {k : Kept} {log : List ℕ} → Calls k log [] [] [] k
  stops : {k : Kept} {log : List ℕ} {ls : List (List ℕ)} → k.drawn ≡ true → Calls k log ls [] [] k
  puts : {k m : Kept} {log log' line out output errors : List ℕ} {ls : List (List ℕ)} {r : Said}
      → SaidAs k log line log' out r
      → r.kept.drawn ≡ true
      → Calls r.kept log' ls output errors m
      → Calls k log (line ∷ ls) (take r.made out ++ output) errors m
  warns : {k m : Kept} {log log' line out output errors : List ℕ} {ls : List (List ℕ)} {r : Said}
      → SaidAs k log line log' out r
      → r.kept.drawn ≡ false
      → Calls r.kept log' ls output errors m
      → Calls k log (line ∷ ls) output (take r.made out ++ errors) m

pub record AllWritten (w : Written) (out err : List ℕ) : Type 0 where
  pub output : out ≡ w.output
  pub errors : err ≡ w.errors

-- whoever makes a call of `begin`, over any log, then such calls with the lines of an input, each cut at its buffer's end, and
-- then the call of `finish`, whose text goes to standard error, has written what Drawn says of the input; a call of `start` and an
-- empty log are as good
abbrev pub EveryInput : Type 0
EveryInput = (log output errors before last input : List ℕ) (k : Kept) (ls : List (List ℕ)) (m : Kept) (made room : ℕ)
    → 8195 ≤ room
    → ls ≡ map (take room) (lines input)
    → BegunAs log k
    → Calls k log ls output errors m
    → Appended before 0 (last_warning m.drawn) 38 last made
    → AllWritten (drawn_input input) output (errors ++ take made last)
