-- What a driver's run leaves, printed, is the text of its outcome.
use Prim.Native.Nat.{ℕ, zero, suc, ◌+◌, ◌*◌, ◌/◌, ◌≤◌}
use native.Mathlib.Omega.{arith}
use mathlib.Core.Bool.{Bool, true, false}
use mathlib.Core.List.{List, [], ◌∷◌, ◌++◌}
use mathlib.Core.Path.{◌≡◌, refl, sym, ap, ◌∙◌}
use lib.ListN.{length, take, length-append}
use Rattle.std.specs.Prelude.{Option, None}
use Rattle.std.specs.Bool.{then_some}
use Rattle.std.specs.Borrow.{Bor}
use Rattle.regs.specs.Program.{Behaviour, ends, reads, writes, marks, stores, asks, keeps, cut, Program, Outcome, outcome, behaviour}
use Rattle.regs.specs.Log.{decode, Leaves, expected}
use Rattle.regs.specs.Legality.{LegalCall}
use Rattle.regs.specs.declared.answers.Answer.{Answer}
use Rattle.regs.specs.declared.answers.Reply.{Reply}
use Rattle.regs.specs.declared.answers.Reply.TheVariants.{Answered, LogFull, OutOfReadings}
use Rattle.regs.specs.declared.access.Ran.{Ran}
use Rattle.regs.proofs.Refine.{length_encode}
use Rattle.regs.proofs.RoundTrip.{read_back}
use Rattle.text_hex.specs.Print.{log_text, reply_text}
use Rattle.text_hex.specs.Added.{Room, Added}
use Rattle.text_hex.specs.declared.text.Text.{Text}
use Rattle.text_hex.proofs.Appends.{within}
use Rattle.replay_calls.specs.Calls.{LOG_ENTRIES, replayed, shown, outcome_text}
use Rattle.replay_calls.specs.Inner.Runs.{LOG_WORDS, MOST_TEXT, shown_if, size_if}

module _ {S : Type 0} {o : Outcome S Reply} {before after : List ℕ} {r : Ran} (l : Leaves o before after r)
    (size : length before ≡ LOG_WORDS) (kept : length after ≡ length before) where
  -- the entries stand in the log, so that no more of them are there than it has room for
  pub few : r.entries ≤ LOG_ENTRIES
  few = omega (arith, l.entries, simp length-append at (ap length l.log), length_encode o.log)

  -- what printing asks for
  pub room : (o : Option (Bor (List ℕ))) (t : Text)
      → size_if o ≤ 4096
      → Room MOST_TEXT t
      → Room (13 * r.entries + (3 + 2 * size_if o + 13)) t × (r.entries * 2 ≤ length after)
  room o t h fits = (omega (arith, few), omega (arith, few))

-- the log lent by the replay has the room that its definition gives
in_room : {S : Type 0} (p : Program S Answer Answer) (log readings buffer : List ℕ) (s : S) → length log ≡ LOG_WORDS
    → expected p log readings buffer s ≡ replayed p readings buffer s
unfolding replayed
in_room p log readings buffer s e = rw e

-- in a buffer of no bytes nothing is stored
none_stored : {S A R : Type 0} (told : A → R) (full dry : R) (t : Behaviour S A) (room : ℕ) (rs : List ℕ) (s : S)
    → (outcome told full dry t room rs [] s).buffer ≡ []
unfolding outcome
none_stored told full dry (ends a) room rs s = refl
none_stored told full dry (reads r f) zero rs s = refl
none_stored told full dry (reads r f) (suc n) [] s = refl
none_stored told full dry (reads r f) (suc n) (v ∷ rs) s = none_stored told full dry (f v) n rs s
none_stored told full dry (writes r v t) zero rs s = refl
none_stored told full dry (writes r v t) (suc n) rs s = none_stored told full dry t n rs s
none_stored told full dry (marks x t) zero rs s = refl
none_stored told full dry (marks x t) (suc n) rs s = none_stored told full dry t n rs s
none_stored told full dry (stores i v t) room rs s = none_stored told full dry t room rs s
none_stored told full dry (asks f) room rs s = none_stored told full dry (f s) room rs s
none_stored told full dry (keeps z t) room rs s = none_stored told full dry t room rs z
none_stored told full dry cut room rs s = refl

-- the text of an outcome, whatever the state
abbrev text : {S : Type 0} → Bool → Outcome S Reply → List ℕ → List ℕ
text buffered o b = log_text o.log ++ (shown buffered o.answer b ++ reply_text o.answer)

-- what `push_outcome` puts
abbrev pub Printed : List ℕ → Ran → Option (Bor (List ℕ)) → Text → Text → Type 0
Printed after r o x y =
    Added x (log_text (decode (take (r.entries * 2) after)) ++ (shown_if o r.reply ++ reply_text r.reply))
    (13 * r.entries + (3 + 2 * size_if o + 13)) y

pub size_then : {o : Option (Bor (List ℕ))} (buffered : Bool) (b : Bor (List ℕ)) → o ≡ then_some buffered b → size_if o ≤ length b.now
size_then true b e = rw e (omega arith)
size_then false b e = rw e (omega arith)

module _ {S : Type 0} (p : Program S Answer Answer) (legal : LegalCall p) (log readings buffer : List ℕ) (s : S)
    (size : length log ≡ LOG_WORDS)
    {after : List ℕ} {r : Ran} (l : Leaves (expected p log readings buffer s) log after r) (kept : length after ≡ length log) where
  pub state_left : {z : S} → z ≡ (expected p log readings buffer s).state → z ≡ (replayed p readings buffer s).state
  state_left e = rw (← in_room p log readings buffer s size) e

  printed : (o : Option (Bor (List ℕ))) (buffered : Bool) (b : List ℕ)
      → shown_if o r.reply ≡ shown buffered r.reply b
      → size_if o ≤ 4096
      → {x y : Text} → Printed after r o x y → Added x (text buffered (expected p log readings buffer s) b) MOST_TEXT y
  printed o buffered b e h a = record {
    same_reference = a.same_reference;
    size = a.size;
    appended = within MOST_TEXT (omega (arith, few l size kept)) (rw (e, read_back l (legal log readings buffer s), l.reply) at a.appended);
  }

  -- with no buffer
  pub prints_none : {x y : Text} → Printed after r None x y → Added x (outcome_text false (replayed p readings buffer s)) MOST_TEXT y
  prints_none a = rw (← in_room p log readings buffer s size) (printed None false [] refl (omega arith) a)

  -- with the buffer that the run left, where it is shown
  pub prints : {o : Option (Bor (List ℕ))} (buffered : Bool) (b : Bor (List ℕ))
      → o ≡ then_some buffered b
      → b.now ≡ (expected p log readings buffer s).buffer
      → length b.now ≤ 4096
      → {x y : Text} → Printed after r o x y
      → Added x (outcome_text buffered (replayed p readings buffer s)) MOST_TEXT y
  prints {o} buffered b is e h a =
      rw (← in_room p log readings buffer s size, ← e)
      (printed o buffered b.now (rw is (shown_then buffered)) (omega (arith, size_then buffered b is, h)) a)
    where
      shown_then : (c : Bool) → shown_if (then_some c b) r.reply ≡ shown c r.reply b.now
      shown_then true = refl
      shown_then false = refl

-- with an empty one
module _ {S : Type 0} (p : Program S Answer Answer) (legal : LegalCall p) (log readings : List ℕ) (s : S) (size : length log ≡ LOG_WORDS)
    {after : List ℕ} {r : Ran} (l : Leaves (expected p log readings [] s) log after r) (kept : length after ≡ length log) where
  pub prints_empty : {o : Option (Bor (List ℕ))} (buffered : Bool) (b : Bor (List ℕ))
      → o ≡ then_some buffered b
      → b.now ≡ []
      → {x y : Text} → Printed after r o x y
      → Added x (outcome_text buffered (replayed p readings [] s)) MOST_TEXT y
  prints_empty buffered b is e a = prints p legal log readings [] s size l kept buffered b is
      (e ∙ sym (none_stored Answered LogFull OutOfReadings (behaviour p (length log / 2)) (length log / 2) readings s))
      (omega (arith, ap length e)) a
