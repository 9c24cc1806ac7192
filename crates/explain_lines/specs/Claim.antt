-- The claim over a call of `begin` and calls of `explain_line` one after the other behind it.
use Rattle.std.specs.Prelude.{ℕ, ◌≤◌, List, [], ◌∷◌, ◌++◌, map, ◌≡◌, take}
use Rattle.text_hex.specs.Text.{lines}
use Rattle.explain_lines.specs.Printed.{explained_input}
use Rattle.explain_lines.specs.Inner.Said.{BegunAs, SaidAs}
use Rattle.explain_lines.specs.declared.Call.{Call}
use Rattle.explain_lines.specs.declared.Said.{Said}

-- calls one after the other, by their contract: from what is kept and the log, with the lines, and all that is written
pub data Calls : Call → List ℕ → List (List ℕ) → List ℕ → Type 0 where
  none : {c : Call} {log : List ℕ} → Calls c log [] []
  goes : {c : Call} {log log' line out text : List ℕ} {ls : List (List ℕ)} {r : Said}
      → SaidAs c log line log' out r
      → Calls r.call log' ls text
      → Calls c log (line ∷ ls) (take r.made out ++ text)

-- whoever makes a call of `begin`, over any log, and then such calls with the lines of an input, each cut at its buffer's end,
-- has written what Printed says of the input; a call of `start` and an empty log are as good
abbrev pub EveryInput : Type 0
EveryInput = (log text input : List ℕ) (c : Call) (ls : List (List ℕ)) (room : ℕ)
    → 8195 ≤ room
    → ls ≡ map (take room) (lines input)
    → BegunAs log c
    → Calls c log ls text
    → text ≡ explained_input input
