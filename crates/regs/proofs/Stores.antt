-- What becomes of the bytes that a driver reads: a law of its behaviours, found along their text, that holds of every outcome.
--     Stores kept By L i w me t   with i bytes stored at the front of a buffer of L, the bytes w read and not yet stored and the
--                                 state me, t stores bytes at the next place, in order; wherever it can stop, the bytes not
--                                 stored are those that its state keeps; and where it ends with i stored, By holds of the answer
--     Opens kept By L me t        the same of a whole call, in which an answer with a number of no access comes before all else
--     whole                       so an outcome has its bytes stored, By holds of its answer, and a number of no access leaves all
use Prim.Native.Nat.{ℕ, zero, suc, ◌+◌, ◌≤◌, ◌<◌}
use native.Mathlib.Omega.{arith}
use native.Mathlib.Numerals.{add-one}
use mathlib.Core.Bool.{Bool, true, false, not}
use mathlib.Core.List.{List, [], ◌∷◌, ◌++◌, append_assoc, append-nil}
use mathlib.Core.Path.{◌≡◌, refl, sym, ap, ◌∙◌}
use lib.Dec.{eqb, T}
use lib.ListN.{length, take, drop, set, length-set}
use lib.Seq.{take-suc-set, drop-set-lt}
use Rattle.regs.specs.Registers.{DATA_CMD}
use Rattle.regs.specs.Fields.{dat}
use Rattle.regs.specs.Program.{Behaviour, ends, reads, writes, marks, stores, asks, keeps, cut, Outcome, outcome, just, logged}
use Rattle.regs.specs.Left.{no_access, Untouched, bytes_read, Stored}
use Rattle.regs.specs.declared.access.Entry.TheVariants.{Read, Write, Marked}
use Rattle.regs.specs.declared.answers.Answer.{Answer}
use Rattle.regs.specs.declared.answers.Reply.{Reply}
use Rattle.regs.specs.declared.answers.Reply.TheVariants.{Answered, LogFull, OutOfReadings}

pub data Stores {S : Type 0} (kept : S → List ℕ) (By : Reply → ℕ → Type 0) (L : ℕ) : ℕ → List ℕ → S → Behaviour S Answer → Type 0 where
  ends_stores : {i : ℕ} {w : List ℕ} {me : S} {a : Answer} → w ≡ kept me → By (Answered a) i → Stores kept By L i w me (ends a)
  reads_stores : {i r : ℕ} {w : List ℕ} {me : S} {f : ℕ → Behaviour S Answer} → eqb r DATA_CMD ≡ false → w ≡ kept me
      → ((v : ℕ) → Stores kept By L i w me (f v)) → Stores kept By L i w me (reads r f)
  data_stores : {i : ℕ} {me : S} {f : ℕ → Behaviour S Answer} → [] ≡ kept me
      → ((v : ℕ) → Stores kept By L i (dat v ∷ []) me (f v)) → Stores kept By L i [] me (reads DATA_CMD f)
  writes_stores : {i r v : ℕ} {w : List ℕ} {me : S} {t : Behaviour S Answer} → w ≡ kept me
      → Stores kept By L i w me t → Stores kept By L i w me (writes r v t)
  marks_stores : {i x : ℕ} {w : List ℕ} {me : S} {t : Behaviour S Answer} → w ≡ kept me
      → Stores kept By L i w me t → Stores kept By L i w me (marks x t)
  store_stores : {i d : ℕ} {w : List ℕ} {me : S} {t : Behaviour S Answer} → i < L
      → Stores kept By L (i + 1) w me t → Stores kept By L i (d ∷ w) me (stores i d t)
  asks_stores : {i : ℕ} {w : List ℕ} {me : S} {f : S → Behaviour S Answer}
      → Stores kept By L i w me (f me) → Stores kept By L i w me (asks f)
  keeps_stores : {i : ℕ} {w : List ℕ} {me me' : S} {t : Behaviour S Answer}
      → Stores kept By L i w me' t → Stores kept By L i w me (keeps me' t)
  cut_stores : {i : ℕ} {w : List ℕ} {me : S} → w ≡ kept me → Stores kept By L i w me cut

-- what o leaves, with i bytes stored at the front of b and the bytes w not yet stored
pub record From {S : Type 0} (kept : S → List ℕ) (By : Reply → ℕ → Type 0) (i : ℕ) (b w : List ℕ) (o : Outcome S Reply) : Type 0 where
  pub count : ℕ
  pub least : i ≤ count
  pub most : count ≤ length b
  pub bytes : take i b ++ (w ++ bytes_read o.log) ≡ take count o.buffer ++ kept o.state
  pub others : drop count o.buffer ≡ drop count b
  pub size : length o.buffer ≡ length b
  pub answer : By o.answer count

module _ {S : Type 0} (kept : S → List ℕ) (By : Reply → ℕ → Type 0) where
  -- where it stops
  stops : {i : ℕ} {b w : List ℕ} {me : S} {r : Reply} → i ≤ length b → w ≡ kept me → By r i → From kept By i b w (just r b me)
  stops {i} {b} {w} {me} most e y = record {
    count = i;
    least = omega arith;
    most = most;
    bytes = ap (λ (x : List ℕ). take i b ++ x) (append-nil w ∙ e);
    others = refl;
    size = refl;
    answer = y;
  }

  other_read : {i r v : ℕ} {b w : List ℕ} {o : Outcome S Reply}
      → eqb r DATA_CMD ≡ false
      → From kept By i b w o
      → From kept By i b w (logged (Read r v) o)
  other_read q f = record {
    count = f.count;
    least = f.least;
    most = f.most;
    bytes = rw q f.bytes;
    others = f.others;
    size = f.size;
    answer = f.answer;
  }

  -- a byte that is read waits
  byte_read : {i v : ℕ} {b : List ℕ} {o : Outcome S Reply}
      → From kept By i b (dat v ∷ []) o
      → From kept By i b [] (logged (Read DATA_CMD v) o)
  byte_read f = record {
    count = f.count;
    least = f.least;
    most = f.most;
    bytes = f.bytes;
    others = f.others;
    size = f.size;
    answer = f.answer;
  }

  wrote : {i r v : ℕ} {b w : List ℕ} {o : Outcome S Reply} → From kept By i b w o → From kept By i b w (logged (Write r v) o)
  wrote f = record {
    count = f.count;
    least = f.least;
    most = f.most;
    bytes = f.bytes;
    others = f.others;
    size = f.size;
    answer = f.answer;
  }

  marked : {i x : ℕ} {b w : List ℕ} {o : Outcome S Reply} → From kept By i b w o → From kept By i b w (logged (Marked x) o)
  marked f = record {
    count = f.count;
    least = f.least;
    most = f.most;
    bytes = f.bytes;
    others = f.others;
    size = f.size;
    answer = f.answer;
  }

  -- a byte that waits is stored
  byte_stored : (i d : ℕ) (b w : List ℕ) {o : Outcome S Reply}
      → i < length b
      → From kept By (i + 1) (set b i d) w o
      → From kept By i b (d ∷ w) o
  byte_stored i d b w {o} l f =
      let size : length (set b i d) ≡ length b = length-set b i d in
      let front : take (i + 1) (set b i d) ≡ take i b ++ (d ∷ []) = rw (add-one i) (take-suc-set b i d l) in
      record {
        count = f.count;
        least = omega (arith, f.least);
        most = omega (arith, f.most);
        bytes = sym (append_assoc (take i b) (d ∷ []) (w ++ bytes_read o.log))
            ∙ ap (λ (x : List ℕ). x ++ (w ++ bytes_read o.log)) (sym front)
            ∙ f.bytes;
        others = f.others ∙ drop-set-lt f.count b i d (omega (arith, f.least));
        size = f.size ∙ size;
        answer = f.answer;
      }

  module _ (full : (i : ℕ) → By LogFull i) (dry : (i : ℕ) → By OutOfReadings i) where
    pub leaves : {L i : ℕ} {w : List ℕ} {me : S} {t : Behaviour S Answer} → Stores kept By L i w me t
        → (room : ℕ) (rs b : List ℕ) → length b ≡ L → i ≤ L
        → From kept By i b w (outcome Answered LogFull OutOfReadings t room rs b me)
    unfolding outcome
    leaves (ends_stores e y) room rs b size most = stops (omega arith) e y
    leaves {i = i} (reads_stores q e h) zero rs b size most = stops (omega arith) e (full i)
    leaves {i = i} (reads_stores q e h) (suc room) [] b size most = stops (omega arith) e (dry i)
    leaves (reads_stores q e h) (suc room) (v ∷ rs) b size most = other_read q (leaves (h v) room rs b size most)
    leaves {i = i} (data_stores e h) zero rs b size most = stops (omega arith) e (full i)
    leaves {i = i} (data_stores e h) (suc room) [] b size most = stops (omega arith) e (dry i)
    leaves (data_stores e h) (suc room) (v ∷ rs) b size most = byte_read (leaves (h v) room rs b size most)
    leaves {i = i} (writes_stores e h) zero rs b size most = stops (omega arith) e (full i)
    leaves (writes_stores e h) (suc room) rs b size most = wrote (leaves h room rs b size most)
    leaves {i = i} (marks_stores e h) zero rs b size most = stops (omega arith) e (full i)
    leaves (marks_stores e h) (suc room) rs b size most = marked (leaves h room rs b size most)
    leaves (store_stores {i = i} {d = d} {w = w} l h) room rs b size most =
        byte_stored i d b w (omega arith) (leaves h room rs (set b i d) (length-set b i d ∙ size) (omega arith))
    leaves (asks_stores h) room rs b size most = leaves h room rs b size most
    leaves (keeps_stores h) room rs b size most = leaves h room rs b size most
    leaves {i = i} (cut_stores e) room rs b size most = stops (omega arith) e (full i)

-- an answer after an access
abbrev pub Late : (Reply → ℕ → Type 0) → Reply → ℕ → Type 0
Late By r i = T (not (no_access r)) × By r i

pub data Opens {S : Type 0} (kept : S → List ℕ) (By : Reply → ℕ → Type 0) (L : ℕ) (me : S) : Behaviour S Answer → Type 0 where
  refuses : {a : Answer} → By (Answered a) 0 → Opens kept By L me (ends a)
  asks_opens : {f : S → Behaviour S Answer} → Opens kept By L me (f me) → Opens kept By L me (asks f)
  begins : {t : Behaviour S Answer} → Stores kept (Late By) L 0 (kept me) me t → Opens kept By L me t

-- what a call leaves
pub record Whole {S : Type 0} (kept : S → List ℕ) (By : Reply → ℕ → Type 0) (before : List ℕ) (me : S) (o : Outcome S Reply) : Type 0 where
  pub count : ℕ
  pub stored : Stored kept count before me o
  pub answer : By o.answer count
  pub untouched : T (no_access o.answer) → Untouched before me o

not_both : (q : Bool) → T (not q) → T q → ⊥
not_both true h g = h
not_both false h g = g

module _ {S : Type 0} (kept : S → List ℕ) (By : Reply → ℕ → Type 0)
    (full : (i : ℕ) → By LogFull i) (dry : (i : ℕ) → By OutOfReadings i) where
  later : {L : ℕ} {me : S} {t : Behaviour S Answer} → Stores kept (Late By) L 0 (kept me) me t
      → (room : ℕ) (rs b : List ℕ) → length b ≡ L
      → Whole kept By b me (outcome Answered LogFull OutOfReadings t room rs b me)
  later {me = me} {t = t} h room rs b size =
      let f = leaves kept (Late By) (λ i. (tt, full i)) (λ i. (tt, dry i)) h room rs b size (omega arith) in
      record {
        count = f.count;
        stored = record { within = f.most; bytes = f.bytes; others = f.others; size = f.size };
        answer = f.answer.1;
        untouched = λ g. absurd (not_both (no_access (outcome Answered LogFull OutOfReadings t room rs b me).answer) f.answer.0 g);
      }

  ended : {b : List ℕ} {me : S} {r : Reply} → By r 0 → Whole kept By b me (just r b me)
  ended {b} {me} y = record {
    count = 0;
    stored = record { within = omega arith; bytes = append-nil (kept me); others = refl; size = refl };
    answer = y;
    untouched = λ _. record { log = refl; buffer = refl; state = refl };
  }

  pub whole : {L : ℕ} {me : S} {t : Behaviour S Answer} → Opens kept By L me t
      → (room : ℕ) (rs b : List ℕ) → length b ≡ L
      → Whole kept By b me (outcome Answered LogFull OutOfReadings t room rs b me)
  unfolding outcome
  whole (refuses y) room rs b size = ended y
  whole (asks_opens h) room rs b size = whole h room rs b size
  whole (begins h) room rs b size = later h room rs b size

-- a driver that keeps no byte, and an answer of which nothing is said
abbrev pub none : {S : Type 0} → S → List ℕ
none _ = []

abbrev pub any : Reply → ℕ → Type 0
any r k = Unit {0}
