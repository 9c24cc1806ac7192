-- What a watched program stores: the bytes of the program itself (regs/proofs/Stores.antt), but for those that have no place in a
-- shorter buffer. So its outcome is that of the program on a longer buffer, whose front is the shorter one.
use Prim.Native.Nat.{ℕ, zero, suc}
use mathlib.Core.Bool.{true, not}
use mathlib.Core.List.{List, [], ◌∷◌}
use mathlib.Core.Path.{◌≡◌, refl, sym, ap, ◌∙◌}
use lib.Dec.{ltb, T}
use lib.ListN.{take, set}
use lib.Seq.{take-set-le, take-set-lt}
use borrow.Author.Tests.{ltb-true, ltb-false}
use Rattle.regs.specs.Program.{Behaviour, ends, reads, writes, marks, stores, asks, keeps, cut, Outcome, outcome, logged}
use Rattle.regs.specs.Left.{no_access}
use Rattle.regs.specs.Watched.{Watcher, watched_from}
use Rattle.regs.specs.declared.access.Entry.{Entry}
use Rattle.regs.specs.declared.access.Entry.TheVariants.{Read, Write, Marked}
use Rattle.regs.specs.declared.answers.Answer.{Answer}
use Rattle.regs.specs.declared.answers.Reply.{Reply}
use Rattle.regs.specs.declared.answers.Reply.TheVariants.{Answered, LogFull, OutOfReadings}
use Rattle.regs.proofs.Tests.{by_test}
use Rattle.regs.proofs.Stores.{Stores, ends_stores, reads_stores, data_stores, writes_stores, marks_stores, store_stores}
use Rattle.regs.proofs.Stores.{asks_stores, keeps_stores, cut_stores, Late, Opens, refuses, asks_opens, begins, any}

-- the same watcher with a place for every byte
abbrev pub everywhere : Watcher → Watcher
everywhere O = record { value = O.value; told = O.told; has_place = λ i. true }

-- ---- with a place for every byte, it stores what the program stores

module _ {S : Type 0} {kept : S → List ℕ} (O : Watcher)
    (later : (log : List Entry) (a : Answer) → T (not (no_access (Answered a))) → T (not (no_access (Answered (O.told log a))))) where
  watched_stores : {L i : ℕ} {w : List ℕ} {me : S} {t : Behaviour S Answer} → Stores kept (Late any) L i w me t → (log : List Entry)
      → Stores kept (Late any) L i w me (watched_from (everywhere O) ends log t)
  unfolding watched_from
  watched_stores (ends_stores {a = a} e y) log = ends_stores e (later log a y.0, tt)
  watched_stores (reads_stores q e h) log = reads_stores q e (λ v. watched_stores (h v) _)
  watched_stores (data_stores e h) log = data_stores e (λ v. watched_stores (h v) _)
  watched_stores (writes_stores e h) log = writes_stores e (watched_stores h _)
  watched_stores (marks_stores e h) log = marks_stores e (watched_stores h _)
  watched_stores (store_stores l h) log = store_stores l (watched_stores h log)
  watched_stores (asks_stores h) log = asks_stores (watched_stores h log)
  watched_stores (keeps_stores h) log = keeps_stores (watched_stores h log)
  watched_stores (cut_stores e) log = cut_stores e

  pub watched_opens : {L : ℕ} {me : S} {t : Behaviour S Answer} → Opens kept any L me t
      → (log : List Entry)
      → Opens kept any L me (watched_from (everywhere O) ends log t)
  unfolding watched_from
  watched_opens (refuses y) log = refuses tt
  watched_opens (asks_opens h) log = asks_opens (watched_opens h log)
  watched_opens (begins h) log = begins (watched_stores h log)

-- ---- on a shorter buffer it leaves the front

pub record Front {S : Type 0} (L : ℕ) (o p : Outcome S Reply) : Type 0 where
  pub answer : o.answer ≡ p.answer
  pub log : o.log ≡ p.log
  pub buffer : o.buffer ≡ take L p.buffer
  pub state : o.state ≡ p.state

module _ {S : Type 0} (O : Watcher) (L : ℕ) (placed : (i : ℕ) → O.has_place i ≡ ltb i L) where
  entered : (e : Entry) (o p : Outcome S Reply) → Front L o p → Front L (logged e o) (logged e p)
  entered e o p f = record {
    answer = f.answer;
    log = ap (λ (x : List Entry). e ∷ x) f.log;
    buffer = f.buffer;
    state = f.state;
  }

  pub front_left : (t : Behaviour S Answer) (log : List Entry) (room : ℕ) (rs b c : List ℕ) (me : S) → b ≡ take L c
      → Front L (outcome Answered LogFull OutOfReadings (watched_from O ends log t) room rs b me)
      (outcome Answered LogFull OutOfReadings (watched_from (everywhere O) ends log t) room rs c me)
  unfolding outcome watched_from
  front_left (ends a) log room rs b c me e = record { answer = refl; log = refl; buffer = e; state = refl }
  front_left (reads r f) log zero rs b c me e = record { answer = refl; log = refl; buffer = e; state = refl }
  front_left (reads r f) log (suc room) [] b c me e = record { answer = refl; log = refl; buffer = e; state = refl }
  front_left (reads r f) log (suc room) (v ∷ rs) b c me e = entered (Read r v) _ _ (front_left (f v) _ room rs b c me e)
  front_left (writes r x t) log zero rs b c me e = record { answer = refl; log = refl; buffer = e; state = refl }
  front_left (writes r x t) log (suc room) rs b c me e = entered (Write r (O.value log r x)) _ _ (front_left t _ room rs b c me e)
  front_left (marks x t) log zero rs b c me e = record { answer = refl; log = refl; buffer = e; state = refl }
  front_left (marks x t) log (suc room) rs b c me e = entered (Marked x) _ _ (front_left t _ room rs b c me e)
  front_left (stores i v t) log room rs b c me e =
      by_test (ltb i L)
      (λ q. rw (placed i, q) (front_left t log room rs (set b i v) (set c i v) me
      (ap (λ (x : List ℕ). set x i v) e ∙ sym (take-set-lt L c i v (ltb-true i L q)))))
      (λ q. rw (placed i, q) (front_left t log room rs b (set c i v) me (e ∙ sym (take-set-le L c i v (ltb-false i L q)))))
  front_left (asks f) log room rs b c me e = front_left (f me) log room rs b c me e
  front_left (keeps s t) log room rs b c me e = front_left t log room rs b c s e
  front_left cut log room rs b c me e = record { answer = refl; log = refl; buffer = e; state = refl }
