-- Calls of `next_line` one after the other hand out every line of the input, each cut at the buffer's end. Where the
-- input did not end but a read failed, those are the lines that LF ended.
use Prim.Native.Nat.{ℕ, zero, suc, ◌<◌, ◌≤◌}
use native.Mathlib.Omega.{arith}
use mathlib.Core.Bool.{Bool, true, false, ◌||◌, ◌&&◌, true≢false}
use mathlib.Core.List.{List, [], ◌∷◌, ◌++◌, map, append_assoc, append-nil}
use mathlib.Core.Path.{◌≡◌, refl, sym, ap, ◌∙◌}
use lib.Dec.{eqb, ltb}
use lib.ListN.{length, take}
use lib.Seq.{length-take-le, take-nil}
use borrow.Author.Tests.{ltb-true, ltb-false}
use Rattle.std.specs.Prelude.{Option, Some, None}
use Rattle.std.proofs.lemmas.Option.{none-some}
use Rattle.text_hex.specs.Text.{LF, last_line, lines}
use Rattle.text_stdin.specs.Reads.{is_open_at, is_ended_at, Reads, none, bytes, answered_0, failed}
use Rattle.text_stdin.specs.Handed.{before_lf, after_lf, has_lf, unread, stands, is_line, held_if, HandedOut, last_by, lines_to}
use Rattle.text_stdin.specs.declared.Source.{Source}
use Rattle.text_stdin.specs.declared.Line.{Line}
use Rattle.text_stdin.specs.declared.reads.End.{End}
use Rattle.text_stdin.specs.declared.reads.End.TheVariants.{Open, Ended, Failed, OutOfTurns}
use Rattle.text_stdin.proofs.Lines.{lines_are, all_lines}

-- calls up to the first that finds no line: the lines' texts, all the bytes that came, and how the input stands then
pub data Calls (room : ℕ) : Source → List ℕ → List (List ℕ) → List ℕ → End → Type 0 where
  ends : {s : Source} {chunk chunk' line : List ℕ} {r : Line}
      → length line ≡ room
      → (h : HandedOut s chunk chunk' line r)
      → r.held ≡ None
      → Calls room s chunk [] h.came r.source.end
  goes : {s : Source} {chunk chunk' line : List ℕ} {r : Line} {held : ℕ} {texts : List (List ℕ)} {rest : List ℕ} {e : End}
      → length line ≡ room
      → (h : HandedOut s chunk chunk' line r)
      → r.held ≡ Some held
      → Calls room r.source chunk' texts rest e → Calls room s chunk (take held line ∷ texts) (h.came ++ rest) e

-- ---- reads: none follows the end of the input

never : {A : Type 0} → is_open_at Ended ≡ true → A
never e = absurd (true≢false (sym e))

shut : {from last : End} {n : ℕ} {came : List ℕ} → from ≡ Ended → Reads from n came last → (came ≡ []) × (last ≡ Ended)
shut e none = (refl, e)
shut e (bytes more r h) = never (ap is_open_at (sym (shut e r).1))
shut e (answered_0 r) = never (ap is_open_at (sym (shut e r).1))
shut e (failed r) = never (ap is_open_at (sym (shut e r).1))

-- ---- bytes with an LF, and more behind them

record Behind (a b : List ℕ) : Type 0 where
  before : before_lf (a ++ b) ≡ before_lf a
  after : after_lf (a ++ b) ≡ after_lf a ++ b
  has : has_lf (a ++ b) ≡ true

first : (t : Bool) (c : ℕ) (cs b : List ℕ) → eqb c LF ≡ t → (has_lf cs ≡ true → Behind cs b) → has_lf (c ∷ cs) ≡ true → Behind (c ∷ cs) b
unfolding before_lf after_lf has_lf
first true c cs b e k h = record { before = rw e; after = rw e; has = rw e }
first false c cs b e k h = let j = k (rw e at h) in record { before = rw (e, j.before); after = rw e j.after; has = rw e j.has }

behind : (a b : List ℕ) → has_lf a ≡ true → Behind a b
unfolding before_lf after_lf has_lf
behind [] b h = absurd (true≢false (sym h))
behind (c ∷ cs) b h = first (eqb c LF) c cs b refl (behind cs b) h

-- ---- bytes with no LF

none_left : (t : Bool) (c : ℕ) (cs : List ℕ)
    → eqb c LF ≡ t
    → (has_lf cs ≡ false → after_lf cs ≡ [])
    → has_lf (c ∷ cs) ≡ false
    → after_lf (c ∷ cs) ≡ []
unfolding after_lf has_lf
none_left true c cs e k h = absurd (true≢false (rw e at h))
none_left false c cs e k h = rw e (k (rw e at h))

nothing_after : (a : List ℕ) → has_lf a ≡ false → after_lf a ≡ []
unfolding after_lf has_lf
nothing_after [] h = refl
nothing_after (c ∷ cs) h = none_left (eqb c LF) c cs refl (nothing_after cs) h

-- ---- one call

either : (a b : Bool) → a || b ≡ false → (a ≡ false) × (b ≡ false)
either true b e = absurd (true≢false e)
either false b e = (refl, e)

no_text : (n : ℕ) (x : List ℕ) → 0 < n → length (take n x) ≤ 0 → x ≡ []
no_text n [] h l = refl
no_text zero (c ∷ x) h l = absurd (omega arith)
no_text (suc n) (c ∷ x) h l = absurd (omega arith)

last_some : (n : ℕ) (x : List ℕ) → 0 < length (take n x) → map (take n) (last_line x) ≡ take n x ∷ []
last_some n [] l = absurd (omega (arith, ap (length {A = ℕ}) (take-nil n)))
last_some n (c ∷ x) l = refl

-- where there is no line, the input has ended behind an LF, or what came of a last line is none
none_last : (e : End) (held : ℕ) (x : List ℕ)
    → (held ≤ 0 → x ≡ [])
    → is_ended_at e && ltb 0 held ≡ false
    → last_by (stands false e) x ≡ []
none_last Open held x k h = refl
none_last Ended held x k h = rw (k (ltb-false 0 held h))
none_last Failed held x k h = refl
none_last OutOfTurns held x k h = refl

-- where there is one without LF, the input has ended
ended_line : (e : End) (held : ℕ) → is_ended_at e && ltb 0 held ≡ true → (e ≡ Ended) × (0 < held)
ended_line Open held h = absurd (true≢false (sym h))
ended_line Ended held h = (refl, ltb-true 0 held h)
ended_line Failed held h = absurd (true≢false (sym h))
ended_line OutOfTurns held h = absurd (true≢false (sym h))

-- what is handed out tells whether there is a line
no_held : (b : Bool) (n : ℕ) → held_if b n ≡ None → b ≡ false
no_held true n e = absurd (none-some n (sym e))
no_held false n e = refl

abbrev held_or_none : Option ℕ → ℕ
held_or_none None = 0
held_or_none (Some n) = n

some_held : (b : Bool) (n : ℕ) {m : ℕ} → held_if b n ≡ Some m → (b ≡ true) × (n ≡ m)
some_held true n e = (refl, ap held_or_none e)
some_held false n {m} e = absurd (none-some m e)

module _ {s : Source} {chunk chunk' line : List ℕ} {r : Line} (h : HandedOut s chunk chunk' line r) where
  abbrev all : List ℕ
  all = unread s chunk ++ h.came

  held_is : r.filled ≡ length (take (length line) (before_lf all))
  held_is = sym (length-take-le r.filled line h.fits) ∙ ap length h.text

  -- a line that is handed out stands in the buffer
  pub held_fits : {n : ℕ} → r.held ≡ Some n → n ≤ length line
  held_fits e = omega (arith, h.fits, (some_held (is_line (has_lf all) h.last r.filled) r.filled (sym h.held ∙ e)).1)

  abbrev some : Bool
  some = is_line (has_lf all) h.last r.filled

  no_line : 0 < length line → r.held ≡ None → (has_lf all ≡ false) × (last_by r.source.end (before_lf all) ≡ [])
  no_line l e =
      let b = either (has_lf all) (is_ended_at h.last && ltb 0 r.filled) (no_held some r.filled (sym h.held ∙ e)) in
      let t : r.filled ≤ 0 → before_lf all ≡ [] = λ z. no_text (length line) (before_lf all) l (omega (arith, held_is)) in
      (b.0, rw (h.end, b.0) (none_last h.last r.filled (before_lf all) t b.1))

  -- behind the end of the input there is no line
  over : s.end ≡ Ended → unread s chunk ≡ [] → (all ≡ []) × (r.held ≡ None) × (r.source.end ≡ Ended)
  unfolding has_lf before_lf
  over e u =
      let d = shut e h.reads in
      let a : all ≡ [] = rw (u, d.0) in
      let z : r.filled ≡ 0 = held_is ∙ (rw (a, take-nil (length line))) in
      (a, h.held ∙ (rw (a, d.1, z)), h.end ∙ (rw (a, d.1)))

ended : {room : ℕ} {s : Source} {chunk : List ℕ} {texts : List (List ℕ)} {came : List ℕ} {e : End}
    → Calls room s chunk texts came e
    → s.end ≡ Ended
    → unread s chunk ≡ []
    → (texts ≡ []) × (came ≡ []) × (e ≡ Ended)
ended (ends z h e) o u = (refl, (shut o h.reads).0, (over h o u).2)
ended (goes {held = n} z h e k) o u = absurd (none-some n (sym (over h o u).1 ∙ e))

-- ---- all calls

one_more : (b : Bool) {room : ℕ} {s : Source} {chunk chunk' line : List ℕ} {r : Line} {held : ℕ}
    {texts : List (List ℕ)} {rest : List ℕ} {e : End}
    → length line ≡ room
    → (h : HandedOut s chunk chunk' line r)
    → r.held ≡ Some held
    → has_lf (all h) ≡ b → Calls room r.source chunk' texts rest e
    → texts ≡ map (take room) (lines_to e [] (unread r.source chunk' ++ rest))
    → take held line ∷ texts ≡ map (take room) (lines_to e [] (all h ++ rest))
one_more true {r = r} {rest = rest} {e = e} z h o f k q =
    let j = behind (all h) rest f in
    let n = some_held (some h) r.filled (sym h.held ∙ o) in
    rw (lines_are e (all h ++ rest), j.has, j.before, j.after, ← n.1, h.text, z, q, h.rest)
one_more false {room} {r = r} {rest = rest} {e = e} z h o f k q =
    let n = some_held (some h) r.filled (sym h.held ∙ o) in
    let l = ended_line h.last r.filled (rw f at n.0) in
    let d = ended k (h.end ∙ rw (f, l.0)) (h.rest ∙ nothing_after (all h) f) in
    rw (d.0, d.1, d.2, append-nil, lines_are Ended (all h), f, ← n.1, h.text, z)
    (sym (last_some room (before_lf (all h)) (omega (arith, l.1, rw z at (held_is h)))))

pub every_line_to : {room : ℕ} {s : Source} {chunk : List ℕ} {texts : List (List ℕ)} {came : List ℕ} {e : End}
    → 0 < room
    → Calls room s chunk texts came e
    → texts ≡ map (take room) (lines_to e [] (unread s chunk ++ came))
every_line_to l (ends {r = r} z h e) =
    let n = no_line h (omega (arith, z)) e in
    rw (lines_are r.source.end (all h), n.0, n.1)
every_line_to {s = s} {chunk = chunk} l (goes {rest = rest} z h e k) =
    rw (← append_assoc (unread s chunk) h.came rest) (one_more (has_lf (all h)) z h e refl k (every_line_to l k))

-- where the input has ended they are all its lines
pub every_line : {room : ℕ} {s : Source} {chunk : List ℕ} {texts : List (List ℕ)} {came : List ℕ}
    → 0 < room
    → Calls room s chunk texts came Ended
    → texts ≡ map (take room) (lines (unread s chunk ++ came))
every_line {room} {s} {chunk} {came = came} l k = every_line_to l k ∙ ap (map (take room)) (all_lines (unread s chunk ++ came))
