-- Texts do not depend on how much larger than needed the buffers are. A text put into a part of a buffer, its front or what
-- lies behind a text, is put into the buffer.
use Prim.Native.Nat.{ℕ, ◌+◌, ◌≤◌}
use native.Mathlib.Omega.{arith}
use mathlib.Core.Bool.{Bool, true, false}
use mathlib.Core.List.{List, [], ◌++◌}
use mathlib.Core.Path.{◌≡◌, sym, ap, ◌∙◌}
use lib.Dec.{ltb}
use lib.ListN.{length, take, drop, length-take, length-drop}
use lib.Seq.{length-take-le, take-append-le, take-append-add}
use borrow.Author.Tests.{le-ltb}
use Rattle.std.specs.Prelude.{if◌then◌else◌, Option, Some, None}
use Rattle.regs.specs.Registers.{DATA_CMD}
use Rattle.regs.specs.Log.{decode}
use Rattle.bus.specs.Bus.{bus_sequence}
use Rattle.text_hex.specs.Appended.{Appended}
use Rattle.answer_frames.specs.Frames.{frame_of}
use Rattle.explain_frames.specs.Texts.{line_text, explained}
use Rattle.explain_bus.specs.Line.{bus_line}
use Rattle.explain_beside.specs.declared.transfer.Transfer.{Transfer}
use Rattle.explain_beside.specs.Piece.{written_in, told_word, told_of, told}
use Rattle.answer_lines.specs.Lines.{no_frame, warning, LOG_WORDS}
use Rattle.answer_lines.proofs.Signs.{signs_fit}
use Rattle.explain_lines.specs.Printed.{own_text, bus_text, LINE_ROOM}
use Rattle.explain_lines.specs.Inner.Said.{PLACES, BUS_ROOM}

explained_in : (line : List ℕ) (room : ℕ) → LINE_ROOM ≤ room → explained line room ≡ explained line LINE_ROOM
unfolding explained
explained_in line room h =
    ap (λ (small : Bool). if ltb 8194 (length line) then [] else (if small then [] else line_text line (frame_of line)))
    (le-ltb room 16900 h)

word_in : (t : Transfer) (line : List ℕ) (room : ℕ) (w : Option ℕ)
    → LINE_ROOM ≤ room
    → told_word t line room w ≡ told_word t line LINE_ROOM w
word_in t line room None h = explained_in line room h
word_in t line room (Some w) h = rw (le-ltb room 16900 h)

pub told_in : (t : Option Transfer) (line : List ℕ) (room : ℕ) → LINE_ROOM ≤ room → told t line room ≡ told t line LINE_ROOM
unfolding told_of
told_in None line room h = explained_in line room h
told_in (Some t) line room h = word_in t line room (written_in DATA_CMD (frame_of line)) h

pub bus_in : (log : List ℕ) (places room : ℕ)
    → length log ≤ LOG_WORDS
    → PLACES ≤ places
    → BUS_ROOM ≤ room
    → bus_line log places room ≡ bus_text log
unfolding bus_line
bus_in log places room f h g = λ i.
    if le-ltb 32768 (length (bus_sequence (decode log))) (signs_fit log f) i then [] else
    (if le-ltb places 32768 h i then [] else (if le-ltb room 294921 g i then [] else bus_text log))

-- ---- a line's own text

pub own_none : (number : ℕ) (t : Option Transfer) (line : List ℕ) {d e : List ℕ} {r : ℕ}
    → no_frame line ≡ true
    → LINE_ROOM ≤ length d
    → Appended d 0 (warning number) 47 e r
    → Appended d 0 (own_text number t line) (length d) e r
own_none number t line e h a = record {
  same = a.same ∙ sym (ap (λ (b : Bool). if b then warning number else told t line LINE_ROOM) e);
  room = omega (arith, a.room);
}

pub own_told : (number : ℕ) (t : Option Transfer) (line : List ℕ) {d e : List ℕ} {r : ℕ}
    → no_frame line ≡ false
    → LINE_ROOM ≤ length d
    → Appended d 0 (told t line (length d)) (length d) e r
    → Appended d 0 (own_text number t line) (length d) e r
own_told number t line {d} e h a = record {
  same = a.same
      ∙ (told_in t line (length d) h ∙ sym (ap (λ (b : Bool). if b then warning number else told t line LINE_ROOM) e));
  room = a.room;
}

-- ---- parts of a buffer

-- the bus line, in the buffer's first k bytes
pub in_front : (log : List ℕ) (places k : ℕ) {d p : List ℕ} {r : ℕ}
    → length log ≤ LOG_WORDS
    → BUS_ROOM ≤ length d
    → PLACES ≤ places
    → k ≡ BUS_ROOM
    → Appended (take k d) 0 (bus_line log places (length (take k d))) (length (take k d)) p r
    → length p ≡ length (take k d)
    → Appended d 0 (bus_text log) BUS_ROOM (p ++ drop k d) r
in_front log places k {d} {p} {r} f h g e a s =
    let z : length (take k d) ≡ k = length-take-le k d (omega arith) in
    record {
      same = take-append-le r p (drop k d) (omega (arith, a.room))
          ∙ (a.same ∙ bus_in log places (length (take k d)) f g (omega arith));
      room = omega (arith, a.room);
    }

-- a text in the k bytes behind the first a
pub in_rest : (k : ℕ) {d e p s t : List ℕ} {a m r : ℕ}
    → Appended d 0 s m e a
    → a ≤ length e
    → Appended (take k (drop a e)) 0 t (length (take k (drop a e))) p r
    → length p ≡ length (take k (drop a e))
    → length e ≡ length d
    → Appended d 0 (s ++ t) (length d) (take a e ++ (p ++ drop k (drop a e))) (a + r)
in_rest k {d} {e} {p} {s} {t} {a} {m} {r} x h y z l =
    let q : List ℕ = p ++ drop k (drop a e) in
    let n : length (take a e) ≡ a = length-take-le a e h in
    record {
      same = (λ i. take (sym n i + r) (take a e ++ q))
          ∙ (take-append-add (take a e) q r
          ∙ (λ i. x.same i ++ (take-append-le r p (drop k (drop a e)) (omega (arith, y.room)) ∙ y.same) i));
      room = omega (arith, y.room, length-take k (drop a e), length-drop a e);
    }

pub rest_room : (e : List ℕ) (a k : ℕ) → LINE_ROOM ≤ k → a + k ≤ length e → LINE_ROOM ≤ length (take k (drop a e))
rest_room e a k h l = omega (arith, length-take k (drop a e), length-drop a e)
