-- The language in which the drivers are written down: programs with `do`, the Rust's loops, and what a program
-- leaves on a list of readings.
use Rattle.std.specs.Prelude.{ℕ, zero, suc, List, [], ◌∷◌, Bool, true, false, set, if◌then◌else◌}
use Rattle.regs.specs.declared.access.Entry.{Entry}
use Rattle.regs.specs.declared.access.Entry.TheVariants.{Read, Write, Marked}

-- What a driver with a state S does up to its answer, an A. `stores`, `asks`
-- and `keeps` are no accesses: they are done with the access before them.
pub data Behaviour (S A : Type 0) : Type 0 where
  ends : A → Behaviour S A
  reads : ℕ → (ℕ → Behaviour S A) → Behaviour S A
  writes : ℕ → ℕ → Behaviour S A → Behaviour S A
  marks : ℕ → Behaviour S A → Behaviour S A
  stores : ℕ → ℕ → Behaviour S A → Behaviour S A
  asks : (S → Behaviour S A) → Behaviour S A
  keeps : S → Behaviour S A → Behaviour S A
  cut : Behaviour S A

-- A part of a driver that computes a B: told how often a loop may turn and what is done with the B, a behaviour.
abbrev pub Program : Type 0 → Type 0 → Type 0 → Type 0
Program S A B = ℕ → (B → Behaviour S A) → Behaviour S A

infixl 20 ◌>>=◌
infixl 20 ◌>>◌
abbrev pub ◌>>=◌ : {S A B C : Type 0} → Program S A B → (B → Program S A C) → Program S A C
◌>>=◌ p f = λ n k. p n (λ b. f b n k)

abbrev pub ◌>>◌ : {S A B C : Type 0} → Program S A B → Program S A C → Program S A C
◌>>◌ p q = λ n k. p n (λ b. q n k)

abbrev pub return : {S A B : Type 0} → B → Program S A B
return b = λ n k. k b

-- the driver as a whole answers a, as by a `?` that nobody catches: what was to follow is left out
abbrev pub exit : {S A B : Type 0} → A → Program S A B
exit a = λ n k. ends a

abbrev pub get : {S A : Type 0} → ℕ → Program S A ℕ
get r = λ n k. reads r k

abbrev pub put : {S A : Type 0} → ℕ → ℕ → Program S A (Unit {0})
put r v = λ n k. writes r v (k tt)

-- `modify`: one read, then one write
abbrev pub modify : {S A : Type 0} → ℕ → (ℕ → ℕ) → Program S A (Unit {0})
modify r f = λ n k. reads r (λ v. writes r (f v) (k tt))

-- the two marks
abbrev pub PENDING : ℕ
PENDING = 0

abbrev pub BLOCK_RESET : ℕ
BLOCK_RESET = 1

abbrev pub mark : {S A : Type 0} → ℕ → Program S A (Unit {0})
mark x = λ n k. marks x (k tt)

-- the byte v is put at i of the lent buffer
abbrev pub store : {S A : Type 0} → ℕ → ℕ → Program S A (Unit {0})
store i v = λ n k. stores i v (k tt)

-- the driver's own state, and a new one
abbrev pub ask : {S A : Type 0} → Program S A S
ask = λ n k. asks k

abbrev pub keep : {S A : Type 0} → S → Program S A (Unit {0})
keep s = λ n k. keeps s (k tt)

abbrev pub skip : {S A : Type 0} → Program S A (Unit {0})
skip = λ n k. k tt

abbrev pub when : {S A : Type 0} → Bool → Program S A (Unit {0}) → Program S A (Unit {0})
when true p = p
when false p = skip

-- `Result<B, E>`, where the Rust looks at it
pub data Result (B E : Type 0) : Type 0 where
  ok : B → Result B E
  err : E → Result B E

-- `while`: at most `left` turns of reading r; where the reading says so, the body and again, else on with that reading
unfoldable pub turns : {S A : Type 0} → ℕ → ℕ → ℕ → (ℕ → Bool) → Program S A (Unit {0}) → (ℕ → Behaviour S A) → Behaviour S A
turns zero n r more body k = cut
turns (suc left) n r more body k = reads r (λ v. if more v then body n (λ _. turns left n r more body k) else k v)

abbrev pub while : {S A : Type 0} → ℕ → (ℕ → Bool) → Program S A (Unit {0}) → Program S A ℕ
while r more body = λ n k. turns n n r more body k

-- how a turn of a `loop` ends: `continue` with what the loop carries, or `break` with a value
pub data Turn (X B : Type 0) : Type 0 where
  again : X → Turn X B
  done : B → Turn X B

abbrev pub by_turn : {S A X B : Type 0} → Turn X B → (X → Behaviour S A) → (B → Behaviour S A) → Behaviour S A
by_turn (again x) t k = t x
by_turn (done b) t k = k b

-- `loop`: at most `left` turns of a body that makes an access in each turn that ends in `again`
unfoldable pub rounds : {S A X B : Type 0} → ℕ → ℕ → (X → Program S A (Turn X B)) → X → (B → Behaviour S A) → Behaviour S A
rounds zero n body x k = cut
rounds (suc left) n body x k = body x n (λ t. by_turn t (λ y. rounds left n body y k) k)

abbrev pub loop : {S A X B : Type 0} → X → (X → Program S A (Turn X B)) → Program S A B
loop x body = λ n k. rounds n n body x k

-- what a poll of a future says: `Poll::Pending`, with what its closure carries to the next poll, or `Poll::Ready`
pub data Poll (X B : Type 0) : Type 0 where
  pending : X → Poll X B
  ready : B → Poll X B

-- the rest of a turn of `wait_on`: g and a pending mark, where the poll is not ready
abbrev pub polled : {S A X B : Type 0} → Program S A (Unit {0}) → Poll X B → Program S A (Turn X B)
polled g (pending x) = λ n k. g n (λ _. marks PENDING (k (again x)))
polled g (ready b) = return (done b)

-- `wait_on(f, g)`: polls f until it is ready, with g after each poll that is not
-- The Rust registers its waker before it polls, so that an interrupt that comes between the poll and the mask
-- wakes it too; the handler masks all interrupts, so each turn that is not done unmasks those that it waits for.
abbrev pub wait_on : {S A X B : Type 0} → X → (X → Program S A (Poll X B)) → Program S A (Unit {0}) → Program S A B
wait_on x f g = loop x (λ y. f y >>= polled g)

-- what a call leaves: its answer, its log, the lent buffer and the driver's state
pub record Outcome (S A : Type 0) : Type 0 where
  pub answer : A
  pub log : List Entry
  pub buffer : List ℕ
  pub state : S

abbrev pub just : {S A : Type 0} → A → List ℕ → S → Outcome S A
just a b s = record { answer = a; log = []; buffer = b; state = s }

abbrev pub logged : {S A : Type 0} → Entry → Outcome S A → Outcome S A
logged e o = record { answer = o.answer; log = e ∷ o.log; buffer = o.buffer; state = o.state }

-- The outcome of a behaviour on a list of readings, with room for so many entries in the
-- log, from a buffer and a state. An access or a mark with no room left answers `full`, then
-- a read with no reading left answers `dry`; `told` is what an answer of the driver becomes.
unfoldable pub outcome : {S A R : Type 0} → (A → R) → R → R → Behaviour S A → ℕ → List ℕ → List ℕ → S → Outcome S R
outcome told full dry (ends a) room rs b s = just (told a) b s
outcome told full dry (reads r f) zero rs b s = just full b s
outcome told full dry (reads r f) (suc n) [] b s = just dry b s
outcome told full dry (reads r f) (suc n) (v ∷ rs) b s = logged (Read r v) (outcome told full dry (f v) n rs b s)
outcome told full dry (writes r v p) zero rs b s = just full b s
outcome told full dry (writes r v p) (suc n) rs b s = logged (Write r v) (outcome told full dry p n rs b s)
outcome told full dry (marks x p) zero rs b s = just full b s
outcome told full dry (marks x p) (suc n) rs b s = logged (Marked x) (outcome told full dry p n rs b s)
outcome told full dry (stores i v p) room rs b s = outcome told full dry p room rs (set b i v) s
outcome told full dry (asks f) room rs b s = outcome told full dry (f s) room rs b s
outcome told full dry (keeps s' p) room rs b s = outcome told full dry p room rs b s'
outcome told full dry cut room rs b s = just full b s

-- A whole program. Each turn of a loop makes an access, so with room + 1 turns none is cut off before the log is full (proofs/Enough.antt).
abbrev pub behaviour : {S A : Type 0} → Program S A A → ℕ → Behaviour S A
behaviour p room = p (suc room) ends
