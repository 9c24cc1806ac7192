-- Two behaviours of the driver that differ in one word: where the first writes 0 with STOP and without the read flag,
-- the second writes the byte c so. They are found along the driver's text, as legality is (regs/proofs/Legal.antt).
--     Alike c d t u    t and u are such behaviours; where d is true, no byte is read from here on
--     SameAt c d p     what was alike after the program p is alike before it
--     Same p           so it is for every c and d: p reads no byte
--     SameRead p       so it is for every c, where bytes may be read
-- A function of the driver has a lemma, Same or SameRead of its calls, whose proof is `search` with the rules `alike`
-- and the lemmas of the functions that it calls.
use Prim.Native.Nat.{ℕ, zero, suc, ◌/◌, ◌%◌, ◌^◌, ◌<◌}
use native.Mathlib.Omega.{arith}
use mathlib.Core.Bool.{Bool, true, false, not, ◌&&◌}
use mathlib.Core.Path.{◌≡◌, refl}
use lib.Dec.{eqb}
use Rattle.regs.specs.declared.answers.Answer.{Answer}
use Rattle.regs.specs.Registers.{DATA_CMD}
use Rattle.regs.specs.Fields.{command_word, cmd, stop}
use Rattle.regs.specs.Program.{ends, reads, writes, marks, stores, cut, when, turns, Turn, again, done}
use Rattle.std.specs.Prelude.{if◌then◌else◌}
use Rattle.regs.specs.Program.{by_turn, rounds, Poll, pending, ready, polled}
use Rattle.master.specs.Driver.{Driver}
use Rattle.master.proofs.Emits.{Does}

-- the word with STOP of a write, which the watcher of a coded transfer changes
abbrev pub closes_write : ℕ → ℕ → Bool
closes_write r w = eqb r DATA_CMD && (stop w && not (cmd w))

pub data Alike (c : ℕ) : Bool → Does → Does → Type 0 where
  ends_alike : {d : Bool} {a : Answer} → Alike c d (ends a) (ends a)
  reads_alike : {d : Bool} {r : ℕ} {f g : ℕ → Does} → eqb r DATA_CMD ≡ false
      → ((v : ℕ) → Alike c d (f v) (g v)) → Alike c d (reads r f) (reads r g)
  data_alike : {f g : ℕ → Does} → ((v : ℕ) → Alike c false (f v) (g v)) → Alike c false (reads DATA_CMD f) (reads DATA_CMD g)
  writes_alike : {d : Bool} {r w : ℕ} {t u : Does} → closes_write r w ≡ false
      → Alike c d t u → Alike c d (writes r w t) (writes r w u)
  code_alike : {t u : Does} → Alike c true t u
      → Alike c true (writes DATA_CMD (command_word 0 false true false) t) (writes DATA_CMD (command_word c false true false) u)
  marks_alike : {d : Bool} {x : ℕ} {t u : Does} → Alike c d t u → Alike c d (marks x t) (marks x u)
  stores_alike : {i v : ℕ} {t u : Does} → Alike c false t u → Alike c false (stores i v t) (stores i v u)
  cut_alike : {d : Bool} → Alike c d cut cut
  late : {t u : Does} → Alike c true t u → Alike c false t u

abbrev pub SameAt : {B : Type 0} → ℕ → Bool → Driver B → Type 0
SameAt {B} c d p = (n : ℕ) (k l : B → Does) → ((b : B) → Alike c d (k b) (l b)) → Alike c d (p n k) (p n l)

abbrev pub Same : {B : Type 0} → Driver B → Type 0
Same p = (c : ℕ) (d : Bool) → SameAt c d p

abbrev pub SameRead : {B : Type 0} → Driver B → Type 0
SameRead p = (c : ℕ) → SameAt c false p

-- ---- words

read_word : (s r : Bool) → closes_write DATA_CMD (command_word 0 true s r) ≡ false
read_word true true = refl
read_word true false = refl
read_word false true = refl
read_word false false = refl

byte_word : (b : ℕ) → b < 256 → closes_write DATA_CMD (command_word b false false false) ≡ false
byte_word b small = let e : command_word b false false false / 2 ^ 9 % 2 ≡ 0 = omega arith in rw e

module _ {c : ℕ} {d : Bool} {t u : Does} where
  pub read_word_alike : (s r : Bool) → Alike c d t u
      → Alike c d (writes DATA_CMD (command_word 0 true s r) t) (writes DATA_CMD (command_word 0 true s r) u)
  read_word_alike s r h = writes_alike (read_word s r) h

  pub byte_alike : (b : ℕ) → b < 256 → Alike c d t u
      → Alike c d (writes DATA_CMD (command_word b false false false) t) (writes DATA_CMD (command_word b false false false) u)
  byte_alike b small h = writes_alike (byte_word b small) h

-- ---- what programs are made of

module _ {c : ℕ} {d : Bool} where
  pub if_alike : {t t' u u' : Does} (q : Bool) → Alike c d t t' → Alike c d u u' → Alike c d (if q then t else u) (if q then t' else u')
  if_alike true h g = h
  if_alike false h g = g

  pub if_program : (B : Type 0) (p p' : Driver B) (n : ℕ) (k l : B → Does) (q : Bool)
      → Alike c d (p n k) (p n l)
      → Alike c d (p' n k) (p' n l)
      → Alike c d ((if q then p else p') n k) ((if q then p else p') n l)
  if_program B p p' n k l true h g = h
  if_program B p p' n k l false h g = g

  pub when_alike : (p : Driver (Unit {0})) (n : ℕ) (k l : Unit {0} → Does) (q : Bool)
      → Alike c d (p n k) (p n l)
      → Alike c d (k tt) (l tt)
      → Alike c d (when q p n k) (when q p n l)
  when_alike p n k l true h g = h
  when_alike p n k l false h g = g

  -- `while`
  pub turns_alike : (left n r : ℕ) (more : ℕ → Bool) (body : Driver (Unit {0})) (k l : ℕ → Does)
      → eqb r DATA_CMD ≡ false
      → SameAt c d body
      → ((v : ℕ) → Alike c d (k v) (l v))
      → Alike c d (turns left n r more body k) (turns left n r more body l)
  unfolding turns
  turns_alike zero n r more body k l q b o = cut_alike
  turns_alike (suc left) n r more body k l q b o =
      reads_alike q (λ v. if_alike (more v) (b n _ _ (λ _. turns_alike left n r more body k l q b o)) (o v))

  pub by_turn_alike : {X B : Type 0} {t t' : X → Does} {k l : B → Does}
      → ((x : X) → Alike c d (t x) (t' x))
      → ((b : B) → Alike c d (k b) (l b))
      → (w : Turn X B)
      → Alike c d (by_turn w t k) (by_turn w t' l)
  by_turn_alike h o (again x) = h x
  by_turn_alike h o (done b) = o b

  -- `loop`
  pub rounds_alike : (X B : Type 0) (left n : ℕ) (body : X → Driver (Turn X B)) (x : X) (k l : B → Does)
      → ((y : X) → SameAt c d (body y))
      → ((b : B) → Alike c d (k b) (l b))
      → Alike c d (rounds left n body x k) (rounds left n body x l)
  unfolding rounds
  rounds_alike X B zero n body x k l b o = cut_alike
  rounds_alike X B (suc left) n body x k l b o =
      b x n _ _ (by_turn_alike (λ y. rounds_alike X B left n body y k l b o) o)

  pub polled_alike : {X B : Type 0} (g : Driver (Unit {0})) → SameAt c d g → (y : Poll X B) → SameAt c d (polled g y)
  polled_alike g s (pending x) n k l h = s n _ _ (λ _. marks_alike (h (again x)))
  polled_alike g s (ready b) n k l h = h (done b)

-- what the driver's lemmas are found with
pub ruleset alike = (
  ends_alike,
  reads_alike,
  writes_alike,
  marks_alike,
  read_word_alike,
  if_alike,
  if_program,
  when_alike,
  turns_alike,
  by_turn_alike,
  rounds_alike,
  polled_alike,
)
