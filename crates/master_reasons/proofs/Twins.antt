-- Two behaviours of the driver that differ in the reason for an abort alone. They are found along the driver's text, as
-- legality is (regs/proofs/Legal.antt), and leave what `SameBut` says (`twin_left`).
--     Twin f g had t u    t and u are such: had is the first word other than 0 that was read from TX_ABRT_SOURCE before
--                         them, 0 if there was none; t tells its reason by f and u by g
--     SameAt had p q      what was so after the programs p and q is so before them
--     Tells w a b         results of p and q that are both fine, with no word so far, or failed by f w and g w
--     TellsP p q          p and q, with no word before them, have such results
use Prim.Native.Nat.{ℕ, zero, suc}
use mathlib.Core.Bool.{Bool, true, false}
use mathlib.Core.List.{List, [], ◌∷◌}
use mathlib.Core.Path.{◌≡◌, refl, ap, subst}
use lib.Dec.{eqb}
use lib.ListN.{set}
use Rattle.regs.specs.declared.access.Entry.{Entry}
use Rattle.regs.specs.declared.access.Entry.TheVariants.{Read, Write, Marked}
use Rattle.regs.specs.declared.answers.Refusal.TheVariants.{Abort}
use Rattle.regs.specs.declared.answers.Answer.{Answer}
use Rattle.regs.specs.declared.answers.Answer.TheVariants.{Refused}
use Rattle.regs.specs.declared.answers.Reply.{Reply}
use Rattle.regs.specs.declared.answers.Reply.TheVariants.{Answered}
use Rattle.regs.specs.Registers.{TX_ABRT_SOURCE}
use Rattle.regs.specs.Program.{ends, reads, writes, marks, stores, cut, when, turns, Turn, again, done}
use Rattle.std.specs.Prelude.{if◌then◌else◌}
use Rattle.regs.specs.Program.{by_turn, rounds, Outcome, outcome, logged, ok, err}
use Rattle.regs.proofs.Tests.{by_test}
use Rattle.master.specs.Driver.{Driver, Reasons, Tried}
use Rattle.master.proofs.Emits.{Does, after}
use Rattle.master_reasons.specs.Reasons.{aborted_by, is_abort, ToldBy, unaborted, aborted, cut_dry, cut_full}

-- the first of two words that is not 0
abbrev pub first : ℕ → ℕ → ℕ
first had v = if eqb had 0 then v else had

pub data Twin (f g : Reasons) : ℕ → Does → Does → Type 0 where
  ends_twin : {a : Answer} → is_abort a ≡ false → Twin f g 0 (ends a) (ends a)
  abort_twin : {w : ℕ} → eqb w 0 ≡ false → Twin f g w (ends (Refused (Abort (f w)))) (ends (Refused (Abort (g w))))
  reads_twin : {had r : ℕ} {s t : ℕ → Does} → eqb r TX_ABRT_SOURCE ≡ false
      → ((v : ℕ) → Twin f g had (s v) (t v)) → Twin f g had (reads r s) (reads r t)
  source_twin : {had : ℕ} {s t : ℕ → Does} → ((v : ℕ) → Twin f g (first had v) (s v) (t v))
      → Twin f g had (reads TX_ABRT_SOURCE s) (reads TX_ABRT_SOURCE t)
  writes_twin : {had r w : ℕ} {s t : Does} → Twin f g had s t → Twin f g had (writes r w s) (writes r w t)
  marks_twin : {had x : ℕ} {s t : Does} → Twin f g had s t → Twin f g had (marks x s) (marks x t)
  stores_twin : {had i v : ℕ} {s t : Does} → Twin f g had s t → Twin f g had (stores i v s) (stores i v t)
  cut_twin : {had : ℕ} → Twin f g had cut cut

pub data Tells (f g : Reasons) {B : Type 0} : ℕ → Tried B → Tried B → Type 0 where
  fine : {b : B} → Tells f g 0 (ok b) (ok b)
  failed : {w : ℕ} → eqb w 0 ≡ false → Tells f g w (err (f w)) (err (g w))

module _ (f g : Reasons) where
  abbrev pub SameAt : {B : Type 0} → ℕ → Driver B → Driver B → Type 0
  SameAt {B} had p q =
      (n : ℕ) (k l : B → Does) → ((b : B) → Twin f g had (k b) (l b)) → Twin f g had (p n k) (q n l)

  -- a program that tells no reason, beside itself, where no word was read before it
  abbrev pub Same : {B : Type 0} → Driver B → Type 0
  Same p = SameAt 0 p p

  -- what is done with two results that tell the same word
  abbrev pub Goes : {B : Type 0} → (Tried B → Does) → (Tried B → Does) → Type 0
  Goes {B} k l = (w : ℕ) (a b : Tried B) → Tells f g w a b → Twin f g w (k a) (l b)

  abbrev pub TellsP : {B : Type 0} → Driver (Tried B) → Driver (Tried B) → Type 0
  TellsP {B} p q = (n : ℕ) (k l : Tried B → Does) → Goes k l → Twin f g 0 (p n k) (q n l)

-- ---- what programs are made of

module _ {f g : Reasons} {had : ℕ} where
  pub if_twin : {s s' t t' : Does} (q : Bool) → Twin f g had s s' → Twin f g had t t'
      → Twin f g had (if q then s else t) (if q then s' else t')
  if_twin true h e = h
  if_twin false h e = e

  pub if_program : (B : Type 0) (p p' q q' : Driver B) (n : ℕ) (k l : B → Does) (c : Bool)
      → Twin f g had (p n k) (q n l)
      → Twin f g had (p' n k) (q' n l)
      → Twin f g had ((if c then p else p') n k) ((if c then q else q') n l)
  if_program B p p' q q' n k l true h e = h
  if_program B p p' q q' n k l false h e = e

  pub when_twin : (p q : Driver (Unit {0})) (n : ℕ) (k l : Unit {0} → Does) (c : Bool)
      → Twin f g had (p n k) (q n l)
      → Twin f g had (k tt) (l tt)
      → Twin f g had (when c p n k) (when c q n l)
  when_twin p q n k l true h e = h
  when_twin p q n k l false h e = e

  -- `while`
  pub turns_twin : (left n r : ℕ) (more : ℕ → Bool) (body : Driver (Unit {0})) (k l : ℕ → Does)
      → eqb r TX_ABRT_SOURCE ≡ false
      → SameAt f g had body body
      → ((v : ℕ) → Twin f g had (k v) (l v))
      → Twin f g had (turns left n r more body k) (turns left n r more body l)
  unfolding turns
  turns_twin zero n r more body k l q b o = cut_twin
  turns_twin (suc left) n r more body k l q b o =
      reads_twin q (λ v. if_twin (more v) (b n _ _ (λ _. turns_twin left n r more body k l q b o)) (o v))

  pub by_turn_twin : {X B : Type 0} {s t : X → Does} {k l : B → Does}
      → ((x : X) → Twin f g had (s x) (t x))
      → ((b : B) → Twin f g had (k b) (l b))
      → (w : Turn X B)
      → Twin f g had (by_turn w s k) (by_turn w t l)
  by_turn_twin h o (again x) = h x
  by_turn_twin h o (done b) = o b

  -- `loop`
  pub rounds_twin : (X B : Type 0) (left n : ℕ) (p q : X → Driver (Turn X B)) (x : X) (k l : B → Does)
      → ((y : X) → SameAt f g had (p y) (q y))
      → ((b : B) → Twin f g had (k b) (l b))
      → Twin f g had (rounds left n p x k) (rounds left n q x l)
  unfolding rounds
  rounds_twin X B zero n p q x k l b o = cut_twin
  rounds_twin X B (suc left) n p q x k l b o = b x n _ _ (by_turn_twin (λ y. rounds_twin X B left n p q y k l b o) o)

-- ---- what twins leave

-- the word that aborts a call, where had was read before this log
abbrev pub word_after : ℕ → List Entry → ℕ
word_after had log = if eqb had 0 then aborted_by log else had

pub record LeftAfter (f g : Reasons) (had : ℕ) (o p : Outcome (Unit {0}) Reply) : Type 0 where
  pub log : o.log ≡ p.log
  pub buffer : o.buffer ≡ p.buffer
  pub answer : ToldBy f g (word_after had o.log) o.answer p.answer

module _ (f g : Reasons) where
  entered : (had next : ℕ) (e : Entry) (o p : Outcome (Unit {0}) Reply)
      → ((log : List Entry) → word_after next log ≡ word_after had (e ∷ log))
      → LeftAfter f g next o p
      → LeftAfter f g had (logged e o) (logged e p)
  entered had next e o p q l = record {
    log = ap (λ (x : List Entry). e ∷ x) l.log;
    buffer = l.buffer;
    answer = subst (λ (w : ℕ). ToldBy f g w o.answer p.answer) (q o.log) l.answer;
  }

  after_other : (had r v : ℕ) → eqb r TX_ABRT_SOURCE ≡ false → (log : List Entry)
      → word_after had log ≡ word_after had (Read r v ∷ log)
  unfolding aborted_by
  after_other had r v q log = rw q refl

  after_write : (had r v : ℕ) (log : List Entry) → word_after had log ≡ word_after had (Write r v ∷ log)
  unfolding aborted_by
  after_write had r v log = refl

  after_mark : (had x : ℕ) (log : List Entry) → word_after had log ≡ word_after had (Marked x ∷ log)
  unfolding aborted_by
  after_mark had x log = refl

  after_source : (had v : ℕ) (log : List Entry)
      → word_after (first had v) log ≡ word_after had (Read TX_ABRT_SOURCE v ∷ log)
  unfolding aborted_by
  after_source had v log =
      by_test (eqb had 0)
      (λ e. rw e (by_test (eqb v 0) (λ q. rw q refl) (λ q. rw q refl)))
      (λ e. rw e (rw e refl))

  told : (w : ℕ) {z : ℕ} → w ≡ z → eqb w 0 ≡ false
      → ToldBy f g z (Answered (Refused (Abort (f w)))) (Answered (Refused (Abort (g w))))
  told w e q = subst (λ (z : ℕ). ToldBy f g z (Answered (Refused (Abort (f w)))) (Answered (Refused (Abort (g w))))) e (aborted q)

  pub twin_left : {had : ℕ} {t u : Does} → Twin f g had t u → (room : ℕ) (rs b : List ℕ)
      → LeftAfter f g had (after t room rs b) (after u room rs b)
  unfolding outcome aborted_by
  twin_left (ends_twin {a = a} q) room rs b = record { log = refl; buffer = refl; answer = unaborted refl q }
  twin_left (abort_twin {w = w} q) room rs b =
      let e : w ≡ word_after w [] = rw q refl in
      record { log = refl; buffer = refl; answer = told w e q }
  twin_left (reads_twin q l) zero rs b = record { log = refl; buffer = refl; answer = cut_full }
  twin_left (reads_twin q l) (suc n) [] b = record { log = refl; buffer = refl; answer = cut_dry }
  twin_left (reads_twin {had = had} {r = r} q l) (suc n) (v ∷ rs) b =
      entered had had (Read r v) _ _ (after_other had r v q) (twin_left (l v) n rs b)
  twin_left (source_twin l) zero rs b = record { log = refl; buffer = refl; answer = cut_full }
  twin_left (source_twin l) (suc n) [] b = record { log = refl; buffer = refl; answer = cut_dry }
  twin_left (source_twin {had = had} l) (suc n) (v ∷ rs) b =
      entered had (first had v) (Read TX_ABRT_SOURCE v) _ _ (after_source had v) (twin_left (l v) n rs b)
  twin_left (writes_twin l) zero rs b = record { log = refl; buffer = refl; answer = cut_full }
  twin_left (writes_twin {had = had} {r = r} {w = w} l) (suc n) rs b =
      entered had had (Write r w) _ _ (after_write had r w) (twin_left l n rs b)
  twin_left (marks_twin l) zero rs b = record { log = refl; buffer = refl; answer = cut_full }
  twin_left (marks_twin {had = had} {x = x} l) (suc n) rs b =
      entered had had (Marked x) _ _ (after_mark had x) (twin_left l n rs b)
  twin_left (stores_twin {i = i} {v = v} l) room rs b = twin_left l room rs (set b i v)
  twin_left cut_twin room rs b = record { log = refl; buffer = refl; answer = cut_full }

-- what the driver's lemmas are found with
pub ruleset twins = (
  ends_twin,
  reads_twin,
  writes_twin,
  marks_twin,
  stores_twin,
  if_twin,
  if_program,
  when_twin,
  turns_twin,
  by_turn_twin,
  rounds_twin,
)
