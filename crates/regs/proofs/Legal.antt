-- Every access that a program makes is legal, CON, TAR and SAR are written only while the block is disabled, and no
-- answer is TxNotEmpty: laws of the program, found along its text, that hold of whatever it leaves.
--     LegalB d t     so it is of the behaviour t, whatever is read, where d tells whether the block is known to be disabled
--     LegalP p       so it is of the program p, whatever such behaviour follows it, where nothing is known of the block
--     LegalWith R p  the same, where what p hands on meets R
--     legal_call, disabled_call, proper_call    so the laws of specs/Legality.antt hold of p
--     legal_ends, disabled_ends, proper_ends    the same, from p as a whole call
-- A function f of a driver has a lemma, LegalP or LegalWith of its calls, whose proof is
-- `search` with the rules `legal` and the lemmas of the functions that f calls.
use Prim.Native.Nat.{ℕ, zero, suc, ◌/◌}
use mathlib.Core.Bool.{Bool, true, false, ◌&&◌}
use mathlib.Core.List.{List, [], ◌∷◌}
use mathlib.Core.Path.{subst}
use lib.Dec.{T}
use lib.ListN.{set, length}
use Rattle.regs.specs.Registers.{legal_read, legal_write}
use Rattle.regs.specs.Program.{Behaviour, ends, reads, writes, marks, stores, asks, keeps}
use Rattle.std.specs.Prelude.{if◌then◌else◌}
use Rattle.regs.specs.Program.{cut, Program, when, turns, Turn, again, done, by_turn, rounds, Poll, pending}
use Rattle.regs.specs.Program.{ready, polled, wait_on, ◌>>=◌, Outcome, outcome}
use Rattle.regs.specs.Log.{Legal, Each, legal_mark}
use Rattle.regs.specs.Legality.{LegalCall, disabled_after, may_write, WrittenDisabled, DisabledCall, NoTxNotEmpty}
use Rattle.regs.specs.declared.access.Entry.TheVariants.{Write, Marked}
use Rattle.regs.specs.declared.answers.Answer.{Answer}
use Rattle.regs.specs.declared.answers.Reply.{Reply}
use Rattle.regs.specs.declared.answers.Reply.TheVariants.{Answered, LogFull, OutOfReadings}
use Rattle.regs.proofs.Table.{both_left, both_right}
use Rattle.regs.proofs.Proper.{ProperAnswer, ProperReply, InPoll, InTurn}

pub data LegalB {S : Type 0} : Bool → Behaviour S Answer → Type 0 where
  ends_legal : {d : Bool} {a : Answer} → ProperAnswer a → LegalB d (ends a)
  reads_legal : {d : Bool} {r : ℕ} {f : ℕ → Behaviour S Answer} → T (legal_read r) → ((v : ℕ) → LegalB d (f v)) → LegalB d (reads r f)
  writes_legal : {d : Bool} {r v : ℕ} {t : Behaviour S Answer} → T (legal_write r && may_write d r)
      → LegalB (disabled_after d (Write r v)) t → LegalB d (writes r v t)
  marks_legal : {d : Bool} {x : ℕ} {t : Behaviour S Answer} → T (legal_mark x)
      → LegalB (disabled_after d (Marked x)) t → LegalB d (marks x t)
  stores_legal : {d : Bool} {i v : ℕ} {t : Behaviour S Answer} → LegalB d t → LegalB d (stores i v t)
  asks_legal : {d : Bool} {f : S → Behaviour S Answer} → ((s : S) → LegalB d (f s)) → LegalB d (asks f)
  keeps_legal : {d : Bool} {s : S} {t : Behaviour S Answer} → LegalB d t → LegalB d (keeps s t)
  cut_legal : {d : Bool} → LegalB d cut

abbrev pub LegalP : {S B : Type 0} → Program S Answer B → Type 0
LegalP {S} {B} p = (n : ℕ) (k : B → Behaviour S Answer) → ((b : B) → LegalB false (k b)) → LegalB false (p n k)

abbrev pub LegalWith : {S B : Type 0} → (B → Type 0) → Program S Answer B → Type 0
LegalWith {S} {B} R p = (n : ℕ) (k : B → Behaviour S Answer) → ((b : B) → R b → LegalB false (k b)) → LegalB false (p n k)

pub if_legal : {S : Type 0} {d : Bool} {t u : Behaviour S Answer} (q : Bool) → LegalB d t → LegalB d u → LegalB d (if q then t else u)
if_legal true l r = l
if_legal false l r = r

-- of programs
pub if_program : {S : Type 0} {d : Bool} (B : Type 0) (p p' : Program S Answer B) (n : ℕ) (k : B → Behaviour S Answer) (q : Bool)
    → LegalB d (p n k)
    → LegalB d (p' n k)
    → LegalB d ((if q then p else p') n k)
if_program B p p' n k true l r = l
if_program B p p' n k false l r = r

pub when_legal : {S : Type 0} {d : Bool} (p : Program S Answer (Unit {0})) (n : ℕ) (k : Unit {0} → Behaviour S Answer) (q : Bool)
    → LegalB d (p n k)
    → LegalB d (k tt)
    → LegalB d (when q p n k)
when_legal p n k true l r = l
when_legal p n k false l r = r

-- `while`
pub turns_legal : {S : Type 0} (left n r : ℕ) (more : ℕ → Bool) (body : Program S Answer (Unit {0}))
    (k : ℕ → Behaviour S Answer)
    → T (legal_read r)
    → LegalP body
    → ((v : ℕ) → LegalB false (k v))
    → LegalB false (turns left n r more body k)
unfolding turns
turns_legal zero n r more body k h b o = cut_legal
turns_legal (suc left) n r more body k h b o =
    reads_legal h (λ v. if_legal (more v) (b n _ (λ _. turns_legal left n r more body k h b o)) (o v))

pub by_turn_legal : {S X B : Type 0} {t : X → Behaviour S Answer} {k : B → Behaviour S Answer}
    → ((x : X) → LegalB false (t x))
    → ((b : B) → LegalB false (k b))
    → (w : Turn X B)
    → LegalB false (by_turn w t k)
by_turn_legal l o (again x) = l x
by_turn_legal l o (done b) = o b

-- `loop`
pub rounds_legal : {S : Type 0} (X B : Type 0) (left n : ℕ) (body : X → Program S Answer (Turn X B)) (x : X)
    (k : B → Behaviour S Answer)
    → ((y : X) → LegalP (body y))
    → ((b : B) → LegalB false (k b))
    → LegalB false (rounds left n body x k)
unfolding rounds
rounds_legal X B zero n body x k b o = cut_legal
rounds_legal X B (suc left) n body x k b o = b x n _ (by_turn_legal (λ y. rounds_legal X B left n body y k b o) o)

-- with what the last turn hands on
pub by_turn_with : {S X B : Type 0} {t : X → Behaviour S Answer} {k : B → Behaviour S Answer} (R : B → Type 0)
    → ((x : X) → LegalB false (t x))
    → ((b : B) → R b → LegalB false (k b))
    → (w : Turn X B)
    → InTurn R w
    → LegalB false (by_turn w t k)
by_turn_with R l o (again x) h = l x
by_turn_with R l o (done b) h = o b h

pub rounds_with : {S : Type 0} (X B : Type 0) (R : B → Type 0) (left n : ℕ) (body : X → Program S Answer (Turn X B)) (x : X)
    (k : B → Behaviour S Answer)
    → ((y : X) → LegalWith (InTurn R) (body y))
    → ((b : B) → R b → LegalB false (k b))
    → LegalB false (rounds left n body x k)
unfolding rounds
rounds_with X B R zero n body x k b o = cut_legal
rounds_with X B R (suc left) n body x k b o = b x n _ (by_turn_with R (λ y. rounds_with X B R left n body y k b o) o)

pub polled_with : {S X B : Type 0} (R : B → Type 0) (g : Program S Answer (Unit {0}))
    → LegalP g
    → (y : Poll X B)
    → InPoll R y
    → LegalWith (InTurn R) (polled g y)
polled_with R g l (pending x) c n k h = l n _ (λ _. marks_legal tt (h (again x) tt))
polled_with R g l (ready b) c n k h = h (done b) c

-- `wait_on`
pub wait_on_with : {S : Type 0} (X B : Type 0) (R : B → Type 0) (x : X) (f : X → Program S Answer (Poll X B))
    (g : Program S Answer (Unit {0}))
    → ((y : X) → LegalWith (InPoll R) (f y))
    → LegalP g
    → LegalWith R (wait_on x f g)
wait_on_with X B R x f g lf lg n k h =
    rounds_with X B R n n (λ y. f y >>= polled g) x k (λ y m j l. lf y m _ (λ w c. polled_with R g lg w c m j l)) h

-- what a driver's lemmas are found with
pub ruleset legal = (
  ends_legal,
  reads_legal,
  writes_legal,
  marks_legal,
  stores_legal,
  asks_legal,
  keeps_legal,
  if_legal,
  if_program,
  when_legal,
  turns_legal,
  by_turn_legal,
  rounds_legal,
)

module _ {S : Type 0} where
  abbrev left_by : Behaviour S Answer → ℕ → List ℕ → List ℕ → S → Outcome S Reply
  left_by = outcome Answered LogFull OutOfReadings

  legal_log : {d : Bool} {t : Behaviour S Answer}
      → LegalB d t
      → (room : ℕ) (rs b : List ℕ) (s : S)
      → Each Legal (left_by t room rs b s).log × WrittenDisabled d (left_by t room rs b s).log
  unfolding outcome
  legal_log (ends_legal h) room rs b s = (tt, tt)
  legal_log (reads_legal h l) zero rs b s = (tt, tt)
  legal_log (reads_legal h l) (suc room) [] b s = (tt, tt)
  legal_log (reads_legal h l) (suc room) (v ∷ rs) b s = let rest = legal_log (l v) room rs b s in ((h, rest.0), (tt, rest.1))
  legal_log (writes_legal h l) zero rs b s = (tt, tt)
  legal_log (writes_legal {d = d} {r = r} h l) (suc room) rs b s =
      let rest = legal_log l room rs b s in
      ((both_left (legal_write r) (may_write d r) h, rest.0), (both_right (legal_write r) (may_write d r) h, rest.1))
  legal_log (marks_legal h l) zero rs b s = (tt, tt)
  legal_log (marks_legal h l) (suc room) rs b s = let rest = legal_log l room rs b s in ((h, rest.0), (tt, rest.1))
  legal_log (stores_legal {i = i} {v = v} l) room rs b s = legal_log l room rs (set b i v) s
  legal_log (asks_legal l) room rs b s = legal_log (l s) room rs b s
  legal_log (keeps_legal {s = s'} l) room rs b s = legal_log l room rs b s'
  legal_log cut_legal room rs b s = (tt, tt)

  proper_left : {d : Bool} {t : Behaviour S Answer}
      → LegalB d t
      → (room : ℕ) (rs b : List ℕ) (s : S)
      → ProperReply (left_by t room rs b s).answer
  unfolding outcome
  proper_left (ends_legal h) room rs b s = h
  proper_left (reads_legal h l) zero rs b s = tt
  proper_left (reads_legal h l) (suc room) [] b s = tt
  proper_left (reads_legal h l) (suc room) (v ∷ rs) b s = proper_left (l v) room rs b s
  proper_left (writes_legal h l) zero rs b s = tt
  proper_left (writes_legal h l) (suc room) rs b s = proper_left l room rs b s
  proper_left (marks_legal h l) zero rs b s = tt
  proper_left (marks_legal h l) (suc room) rs b s = proper_left l room rs b s
  proper_left (stores_legal {i = i} {v = v} l) room rs b s = proper_left l room rs (set b i v) s
  proper_left (asks_legal l) room rs b s = proper_left (l s) room rs b s
  proper_left (keeps_legal {s = s'} l) room rs b s = proper_left l room rs b s'
  proper_left cut_legal room rs b s = tt

-- of a whole program, as the contract of a call has it
module _ {S : Type 0} (p : Program S Answer Answer) (l : (n : ℕ) → LegalB false (p n ends)) where
  pub legal_ends : LegalCall p
  legal_ends log readings buffer s = (legal_log (l _) (length log / 2) readings buffer s).0

  pub disabled_ends : DisabledCall p
  disabled_ends log readings buffer s = (legal_log (l _) (length log / 2) readings buffer s).1

  pub proper_ends : NoTxNotEmpty p
  proper_ends log readings buffer s n e =
      subst ProperReply e (proper_left (l _) (length log / 2) readings buffer s)

module _ {S : Type 0} (p : Program S Answer Answer) (l : LegalWith ProperAnswer p) where
  pub legal_call : LegalCall p
  legal_call = legal_ends p (λ n. l n ends (λ a h. ends_legal h))

  pub disabled_call : DisabledCall p
  disabled_call = disabled_ends p (λ n. l n ends (λ a h. ends_legal h))

  pub proper_call : NoTxNotEmpty p
  proper_call = proper_ends p (λ n. l n ends (λ a h. ends_legal h))
