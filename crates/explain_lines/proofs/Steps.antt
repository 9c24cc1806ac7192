-- A line's text and what is kept behind it, from the texts that the functions put into their buffers: of an answer, and of
-- every other line.
use Prim.Native.Nat.{ℕ}
use native.Mathlib.Omega.{arith}
use mathlib.Core.Bool.{Bool, true, false}
use mathlib.Core.List.{List, [], ◌++◌}
use mathlib.Core.Path.{◌≡◌, sym, ap, ◌∙◌}
use lib.ListN.{length}
use Rattle.std.specs.Prelude.{if◌then◌else◌, Option}
use Rattle.text_hex.specs.Appended.{Appended}
use Rattle.answer_frames.specs.Frames.{frame_of, is_answer}
use Rattle.explain_beside.specs.Piece.{next}
use Rattle.explain_beside.specs.declared.transfer.Transfer.{Transfer}
use Rattle.answer_lines.specs.Lines.{number_after, kept_on}
use Rattle.explain_lines.specs.Printed.{Open, closed, own_text, bus_text}
use Rattle.explain_lines.specs.Inner.Said.{closed_call, open_of, SaidAs}
use Rattle.explain_lines.specs.declared.Call.{Call}

-- what is kept behind a line, and its text, by whether it is an answer
abbrev after_by : Bool → Open → List ℕ → Open
after_by answer o line =
    if answer then closed (number_after o.lines) else record {
      lines = number_after o.lines;
      transfer = next o.transfer (frame_of line);
      log = kept_on o.log line;
    }

abbrev text_by : Bool → List ℕ → List ℕ → List ℕ
text_by answer log own = (if answer then bus_text log else []) ++ own

module _ {c : Call} {log line out₀ out : List ℕ} {lines made : ℕ} (n : lines ≡ number_after c.lines) where
  pub of_answer : {next_call : Call} {log' : List ℕ}
      → is_answer (frame_of line) ≡ true
      → next_call ≡ closed_call lines
      → Appended out₀ 0 (bus_text log ++ own_text (number_after c.lines) c.transfer line) (length out₀) out made
      → length out ≡ length out₀
      → log' ≡ []
      → SaidAs c log line log' out (record { call = next_call; made = made })
  of_answer e k a z f = record {
    after = (λ i. open_of (k i) (f i)) ∙ (ap closed n ∙ ap (λ (b : Bool). after_by b (open_of c log) line) (sym e));
    text = a.same ∙ (λ i. text_by (sym e i) log (own_text (number_after c.lines) c.transfer line));
    made = omega (arith, a.room);
  }

  pub of_other : {log' : List ℕ} {transfer : Option Transfer}
      → is_answer (frame_of line) ≡ false
      → Appended out₀ 0 (own_text (number_after c.lines) c.transfer line) (length out₀) out made
      → length out ≡ length out₀
      → log' ≡ kept_on log line
      → transfer ≡ next c.transfer (frame_of line)
      → SaidAs c log line log' out
      (record { call = record { lines = lines; transfer = transfer }; made = made })
  of_other {log'} e a z k t = record {
    after = (λ i. record { lines = n i; transfer = t i; log = k i })
        ∙ ap (λ (b : Bool). after_by b (open_of c log) line) (sym e);
    text = a.same ∙ (λ i. text_by (sym e i) log (own_text (number_after c.lines) c.transfer line));
    made = omega (arith, a.room);
  }
