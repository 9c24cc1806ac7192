-- Parts of a driver that read no byte from DATA_CMD and store none: what is kept after such a part (Stores.antt) was kept
-- before it. A function of a driver has a lemma, Quiet of its calls, whose proof is `search` with the rules `quiet` and the
-- lemmas of the functions that it calls.
use Prim.Native.Nat.{ℕ, zero, suc}
use mathlib.Core.Bool.{Bool, true, false, not}
use mathlib.Core.List.{List}
use mathlib.Core.Path.{◌≡◌}
use lib.Dec.{eqb, T}
use Rattle.regs.specs.Registers.{DATA_CMD}
use Rattle.regs.specs.Left.{no_access}
use Rattle.regs.specs.Program.{Behaviour, ends, Program, when, turns, Turn, again, done, by_turn, rounds, Poll}
use Rattle.std.specs.Prelude.{if◌then◌else◌}
use Rattle.regs.specs.Program.{pending, ready, polled}
use Rattle.regs.specs.declared.answers.AbortReason.{AbortReason}
use Rattle.regs.specs.declared.answers.AbortReason.TheVariants.{NoAcknowledge, ArbitrationLoss, TxNotEmpty}
use Rattle.regs.specs.declared.answers.AbortReason.TheVariants.{Other, DataNotAcknowledged}
use Rattle.regs.specs.declared.answers.Answer.{Answer}
use Rattle.regs.specs.declared.answers.Answer.TheVariants.{Refused}
use Rattle.regs.specs.declared.answers.Refusal.TheVariants.{Abort}
use Rattle.regs.specs.declared.answers.Reply.{Reply}
use Rattle.regs.specs.declared.answers.Reply.TheVariants.{Answered}
use Rattle.regs.proofs.Stores.{Stores, ends_stores, reads_stores, writes_stores, marks_stores, asks_stores, keeps_stores}
use Rattle.regs.proofs.Stores.{cut_stores, Late, any}

abbrev pub Quiet : {S B : Type 0} → (S → List ℕ) → (Reply → ℕ → Type 0) → Program S Answer B → Type 0
Quiet {S} {B} kept By p = (L i n : ℕ) (w : List ℕ) (me : S) (k : B → Behaviour S Answer)
    → w ≡ kept me
    → ((b : B) → Stores kept By L i w me (k b))
    → Stores kept By L i w me (p n k)

module _ {S : Type 0} {kept : S → List ℕ} {By : Reply → ℕ → Type 0} where
  pub if_quiet : (B : Type 0) (p p' : Program S Answer B) {L i : ℕ} {w : List ℕ} {me : S} (n : ℕ) (k : B → Behaviour S Answer) (q : Bool)
      → Stores kept By L i w me (p n k)
      → Stores kept By L i w me (p' n k)
      → Stores kept By L i w me ((if q then p else p') n k)
  if_quiet B p p' n k true l r = l
  if_quiet B p p' n k false l r = r

  pub if_behaviour : {L i : ℕ} {w : List ℕ} {me : S} {t u : Behaviour S Answer} (q : Bool)
      → Stores kept By L i w me t
      → Stores kept By L i w me u
      → Stores kept By L i w me (if q then t else u)
  if_behaviour true l r = l
  if_behaviour false l r = r

  pub when_quiet : (p : Program S Answer (Unit {0})) {L i : ℕ} {w : List ℕ} {me : S} (n : ℕ) (k : Unit {0} → Behaviour S Answer) (q : Bool)
      → Stores kept By L i w me (p n k)
      → Stores kept By L i w me (k tt)
      → Stores kept By L i w me (when q p n k)
  when_quiet p n k true l r = l
  when_quiet p n k false l r = r

  -- `while`
  pub turns_quiet : (left n r : ℕ) (more : ℕ → Bool) (body : Program S Answer (Unit {0})) (k : ℕ → Behaviour S Answer)
      {L i : ℕ} {w : List ℕ} {me : S}
      → eqb r DATA_CMD ≡ false
      → w ≡ kept me
      → Quiet kept By body
      → ((v : ℕ) → Stores kept By L i w me (k v))
      → Stores kept By L i w me (turns left n r more body k)
  unfolding turns
  turns_quiet zero n r more body k q e b o = cut_stores e
  turns_quiet (suc left) n r more body k q e b o = reads_stores q e
      (λ v. if_behaviour (more v) (b _ _ n _ _ _ e (λ _. turns_quiet left n r more body k q e b o)) (o v))

  pub by_turn_quiet : {X B : Type 0} {L i : ℕ} {w : List ℕ} {me : S} {t : X → Behaviour S Answer} {k : B → Behaviour S Answer}
      → ((x : X) → Stores kept By L i w me (t x))
      → ((b : B) → Stores kept By L i w me (k b))
      → (y : Turn X B)
      → Stores kept By L i w me (by_turn y t k)
  by_turn_quiet l o (again x) = l x
  by_turn_quiet l o (done b) = o b

  -- `loop`
  pub rounds_quiet : (X B : Type 0) (left n : ℕ) (body : X → Program S Answer (Turn X B)) (x : X) (k : B → Behaviour S Answer)
      {L i : ℕ} {w : List ℕ} {me : S}
      → w ≡ kept me
      → ((y : X) → Quiet kept By (body y))
      → ((b : B) → Stores kept By L i w me (k b))
      → Stores kept By L i w me (rounds left n body x k)
  unfolding rounds
  rounds_quiet X B zero n body x k e b o = cut_stores e
  rounds_quiet X B (suc left) n body x k e b o =
      b x _ _ n _ _ _ e (by_turn_quiet (λ y. rounds_quiet X B left n body y k e b o) o)

  pub polled_quiet : {X B : Type 0} (g : Program S Answer (Unit {0})) → Quiet kept By g → (y : Poll X B) → Quiet kept By (polled g y)
  polled_quiet g l (pending x) L i n w me k e h = l L i n w me _ e (λ _. marks_stores e (h (again x)))
  polled_quiet g l (ready b) L i n w me k e h = h (done b)

-- where nothing is said of an answer but that its number is none of no access
pub ends_late : {S : Type 0} {kept : S → List ℕ} {L i : ℕ} {w : List ℕ} {me : S} {a : Answer} → w ≡ kept me
    → T (not (no_access (Answered a)))
    → Stores kept (Late any) L i w me (ends a)
ends_late e h = ends_stores e (h, tt)

pub abort_late : (reason : AbortReason) → T (not (no_access (Answered (Refused (Abort reason)))))
abort_late NoAcknowledge = tt
abort_late ArbitrationLoss = tt
abort_late (TxNotEmpty n) = tt
abort_late (Other w) = tt
abort_late (DataNotAcknowledged w) = tt

-- what a driver's lemmas are found with
pub ruleset quiet = (
  ends_late,
  abort_late,
  reads_stores,
  writes_stores,
  marks_stores,
  asks_stores,
  keeps_stores,
  if_quiet,
  if_behaviour,
  when_quiet,
  turns_quiet,
  by_turn_quiet,
  rounds_quiet,
  polled_quiet,
)
