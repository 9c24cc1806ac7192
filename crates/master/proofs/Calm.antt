-- Parts of the driver that neither take nor send a byte, in what they spell (Spells.antt).
--     CalmAt c i p     what is spelt after the program p is spelt before it
--     Calm p           so it is for every c and i: p makes no access to DATA_CMD
--     Awaits c         data or the code are to come: words that ask for bytes may be written
use Prim.Native.Nat.{ℕ, zero, suc, ◌-◌}
use mathlib.Core.Bool.{Bool, true, false}
use mathlib.Core.Path.{◌≡◌, refl}
use lib.Dec.{eqb}
use Rattle.regs.specs.declared.answers.AbortReason.{AbortReason}
use Rattle.regs.specs.Registers.{DATA_CMD}
use Rattle.regs.specs.Fields.{command_word, cmd}
use Rattle.regs.specs.Program as P
use Rattle.regs.specs.Program.{when, turns, Turn, again, done, by_turn, rounds}
use Rattle.std.specs.Prelude.{if◌then◌else◌}
use Rattle.regs.specs.Program.{Poll, pending, ready, polled, ok, err}
use Rattle.master.specs.Driver.{Driver, Tried, try, while_turn, setup, tx_fifo_capacity, tx_fifo_full, rx_fifo_len, reason_of}
use Rattle.master.specs.Driver.{read_and_clear_abort_reason}
use Rattle.master.specs.Async.{wait_stop_det, queue_batch, space_come}
use Rattle.master.proofs.Emits.{Does}
use Rattle.master.proofs.Spells.{ToCome, data_and_code, nothing, Spells, refused_spells, reads_spells}
use Rattle.master.proofs.Spells.{writes_spells, asks_spells, marks_spells, cut_spells}

-- ---- what programs are made of

abbrev pub CalmAt : {B : Type 0} → ToCome → ℕ → Driver B → Type 0
CalmAt {B} c i p = (n : ℕ) (k : B → Does) → ((b : B) → Spells c i (k b)) → Spells c i (p n k)

abbrev pub Calm : {B : Type 0} → Driver B → Type 0
Calm p = (c : ToCome) (i : ℕ) → CalmAt c i p

abbrev pub Awaits : ToCome → Type 0
Awaits (data_and_code last os) = Unit {0}
Awaits nothing = ⊥

read_word : (s r : Bool) → cmd (command_word 0 true s r) ≡ true
read_word true true = refl
read_word true false = refl
read_word false true = refl
read_word false false = refl

pub read_word_spells : {c : ToCome} {i : ℕ} {t : Does} (s r : Bool) → Awaits c → Spells c i t
    → Spells c i (P.writes DATA_CMD (command_word 0 true s r) t)
read_word_spells {c = data_and_code last os} s r a h = asks_spells (read_word s r) h
read_word_spells {c = nothing} s r a h = absurd a

module _ {c : ToCome} {i : ℕ} where
  pub if_spells : {t u : Does} (q : Bool) → Spells c i t → Spells c i u → Spells c i (if q then t else u)
  if_spells true h g = h
  if_spells false h g = g

  pub if_program : (B : Type 0) (p p' : Driver B) (n : ℕ) (k : B → Does) (q : Bool)
      → Spells c i (p n k)
      → Spells c i (p' n k)
      → Spells c i ((if q then p else p') n k)
  if_program B p p' n k true h g = h
  if_program B p p' n k false h g = g

  pub when_spells : (p : Driver (Unit {0})) (n : ℕ) (k : Unit {0} → Does) (q : Bool)
      → Spells c i (p n k)
      → Spells c i (k tt)
      → Spells c i (when q p n k)
  when_spells p n k true h g = h
  when_spells p n k false h g = g

  -- `while`
  pub turns_spells : (left n r : ℕ) (more : ℕ → Bool) (body : Driver (Unit {0})) (k : ℕ → Does)
      → eqb r DATA_CMD ≡ false
      → CalmAt c i body
      → ((v : ℕ) → Spells c i (k v))
      → Spells c i (turns left n r more body k)
  unfolding turns
  turns_spells zero n r more body k q b o = cut_spells
  turns_spells (suc left) n r more body k q b o =
      reads_spells q (λ v. if_spells (more v) (b n _ (λ _. turns_spells left n r more body k q b o)) (o v))

  pub by_turn_spells : {X B : Type 0} {t : X → Does} {k : B → Does}
      → ((x : X) → Spells c i (t x))
      → ((b : B) → Spells c i (k b))
      → (w : Turn X B)
      → Spells c i (by_turn w t k)
  by_turn_spells h o (again x) = h x
  by_turn_spells h o (done b) = o b

  -- `loop`
  pub rounds_spells : (X B : Type 0) (left n : ℕ) (body : X → Driver (Turn X B)) (x : X) (k : B → Does)
      → ((y : X) → CalmAt c i (body y))
      → ((b : B) → Spells c i (k b))
      → Spells c i (rounds left n body x k)
  unfolding rounds
  rounds_spells X B zero n body x k b o = cut_spells
  rounds_spells X B (suc left) n body x k b o = b x n _ (by_turn_spells (λ y. rounds_spells X B left n body y k b o) o)

  pub polled_spells : {X B : Type 0} (g : Driver (Unit {0})) → CalmAt c i g → (y : Poll X B) → CalmAt c i (polled g y)
  polled_spells g s (pending x) n k h = s n _ (λ _. marks_spells (h (again x)))
  polled_spells g s (ready b) n k h = h (done b)

pub ruleset calm = (
  refused_spells,
  reads_spells,
  writes_spells,
  marks_spells,
  read_word_spells,
  if_spells,
  if_program,
  when_spells,
  turns_spells,
  by_turn_spells,
  rounds_spells,
  polled_spells,
)

-- ---- parts that neither take nor send a byte

pub setup_calm : (address : ℕ) → Calm (setup address)
unfolding setup
setup_calm address = search calm

pub capacity_calm : Calm tx_fifo_capacity
unfolding tx_fifo_capacity
capacity_calm = search calm

pub full_calm : Calm tx_fifo_full
unfolding tx_fifo_full
full_calm = search (calm, capacity_calm)

pub len_calm : Calm rx_fifo_len
unfolding rx_fifo_len
len_calm = search calm

pub abort_calm : Calm (read_and_clear_abort_reason reason_of)
unfolding read_and_clear_abort_reason
abort_calm = search calm

pub try_calm : {B : Type 0} (r : Tried B) → Calm (try r)
try_calm (ok b) = search calm
try_calm (err reason) = search calm

pub while_turn_calm : (body : Driver (Unit {0})) → Calm body → (more : Bool) → Calm (while_turn body more)
while_turn_calm body h true = search calm
while_turn_calm body h false = search calm

pub ruleset parts = (calm, capacity_calm, full_calm, len_calm, abort_calm, try_calm, while_turn_calm)

pub batch_calm : (len : ℕ) (restart stop : Bool) (batch queue : ℕ) (c : ToCome) → Awaits c → (i : ℕ)
    → CalmAt c i (queue_batch len restart stop batch queue)
unfolding queue_batch
batch_calm len restart stop zero queue c a i = search calm
batch_calm len restart stop (suc batch) queue c a i =
    let ih = batch_calm len restart stop batch (queue - 1) c a i in search calm

pub come_calm : (abort : Tried (Unit {0})) → Calm (space_come abort)
come_calm (ok u) = search parts
come_calm (err reason) = search calm

-- how the async parts end: after an abort the answer is a refusal
abbrev pub finish : Bool → ℕ → (Unit {0} → Does) → Tried (Unit {0}) → Does
finish stop n k r = wait_stop_det reason_of r stop n (λ res. try res n k)

pub aborted : (stop : Bool) (n : ℕ) (k : Unit {0} → Does) (reason : AbortReason) (c : ToCome) (i : ℕ)
    → Spells c i (finish stop n k (err reason))
unfolding wait_stop_det
aborted stop n k reason c i = search parts depth 20

pub finished : (stop : Bool) (n : ℕ) (k : Unit {0} → Does) (c : ToCome) (i : ℕ) → Spells c i (k tt)
    → Spells c i (finish stop n k (ok tt))
unfolding wait_stop_det
finished stop n k c i h = search parts depth 20
