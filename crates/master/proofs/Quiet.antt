-- Parts of the driver that leave TAR and DATA_CMD alone: what is due after such a part was due before it.
use Prim.Native.Nat.{ℕ, zero, suc}
use mathlib.Core.Path.{◌≡◌}
use mathlib.Core.Bool.{Bool, true, false}
use mathlib.Core.List.{List}
use lib.Dec.{eqb}
use Rattle.regs.specs.Registers.{DATA_CMD}
use Rattle.regs.specs.Program.{when, turns, while, Turn, again, done, by_turn, rounds, loop, Poll}
use Rattle.std.specs.Prelude.{if◌then◌else◌}
use Rattle.regs.specs.Program.{pending, ready, polled, wait_on, ok, err}
use Rattle.master.specs.Driver.{Driver, Tried, try, while_turn, while_test, tx_fifo_capacity, tx_fifo_full, reason_of}
use Rattle.master.specs.Driver.{rx_fifo_len, read_and_clear_abort_reason}
use Rattle.master.specs.Async.{stop_poll, wait_stop_det, space_come, space_poll}
use Rattle.master.proofs.Emits.{Does, Emits}

abbrev pub Quiet : {B : Type 0} → Driver B → Type 0
Quiet {B} p = (n : ℕ) (k : B → Does) (i t : ℕ) (due : List ℕ) → ((b : B) → Emits (k b) i t due) → Emits (p n k) i t due

module _ {B : Type 0} (n : ℕ) (k : B → Does) (i t : ℕ) (due : List ℕ) where
  pub emits_if : (c : Bool) (p q : Driver B) → Emits (p n k) i t due → Emits (q n k) i t due → Emits ((if c then p else q) n k) i t due
  emits_if true p q h g = h
  emits_if false p q h g = g

pub emits_when : (c : Bool) (p : Driver (Unit {0})) (n : ℕ) (k : Unit {0} → Does) (i t : ℕ) (due : List ℕ)
    → Emits (p n k) i t due → Emits (k tt) i t due → Emits (when c p n k) i t due
emits_when true p n k i t due h g = h
emits_when false p n k i t due h g = g

-- loops

module _ (n r : ℕ) (more : ℕ → Bool) (body : Driver (Unit {0})) (k : ℕ → Does) (i t : ℕ) (due : List ℕ) (e : eqb r DATA_CMD ≡ false)
    (q : Quiet body) (h : (v : ℕ) → Emits (k v) i t due) where
  quiet_turns : (left : ℕ) → Emits (turns left n r more body k) i t due
  unfolding turns
  quiet_turns zero = tt
  quiet_turns (suc left) = λ v _. rw e (go (quiet_turns left) v (more v))
    where
      go : Emits (turns left n r more body k) i t due
          → (v : ℕ) (c : Bool)
          → Emits (if c then body n (λ _. turns left n r more body k) else k v) i t due
      go ih v true = q n _ i t due (λ _. ih)
      go ih v false = h v

pub quiet_while : (r : ℕ) (more : ℕ → Bool) (body : Driver (Unit {0})) → eqb r DATA_CMD ≡ false → Quiet body → Quiet (while r more body)
quiet_while r more body e q n k i t due h = quiet_turns n r more body k i t due e q h n

module _ {X B : Type 0} (n : ℕ) (body : X → Driver (Turn X B)) (k : B → Does) (i t : ℕ) (due : List ℕ)
    (q : (x : X) → Quiet (body x)) (h : (b : B) → Emits (k b) i t due) where
  quiet_rounds : (left : ℕ) (x : X) → Emits (rounds left n body x k) i t due
  unfolding rounds
  quiet_rounds zero x = tt
  quiet_rounds (suc left) x = q x n _ i t due (turned (quiet_rounds left))
    where
      turned : ((y : X) → Emits (rounds left n body y k) i t due)
          → (w : Turn X B)
          → Emits (by_turn w (λ y. rounds left n body y k) k) i t due
      turned ih (again y) = ih y
      turned ih (done b) = h b

pub quiet_loop : {X B : Type 0} (x : X) (body : X → Driver (Turn X B)) → ((x : X) → Quiet (body x)) → Quiet (loop x body)
quiet_loop x body q n k i t due h = quiet_rounds n body k i t due q h n x

pub quiet_while_test : (test : Driver Bool) (body : Driver (Unit {0})) → Quiet test → Quiet body → Quiet (while_test test body)
quiet_while_test test body qt qb = quiet_loop tt _ (λ _ n k i t due h. qt n _ i t due (λ more. turn n k i t due h more))
  where
    turn : (n : ℕ) (k : Turn (Unit {0}) (Unit {0}) → Does) (i t : ℕ) (due : List ℕ)
        → ((w : Turn (Unit {0}) (Unit {0})) → Emits (k w) i t due)
        → (more : Bool) → Emits (while_turn body more n k) i t due
    turn n k i t due h true = qb n _ i t due (λ _. h (again tt))
    turn n k i t due h false = h (done tt)

pub quiet_wait_on : {X B : Type 0} (x : X) (f : X → Driver (Poll X B)) (g : Driver (Unit {0}))
    → ((x : X) → Quiet (f x))
    → Quiet g
    → Quiet (wait_on x f g)
quiet_wait_on {X} {B} x f g qf qg = quiet_loop x _ (λ y n k i t due h. qf y n _ i t due (λ p. poll n k i t due h p))
  where
    poll : (n : ℕ) (k : Turn X B → Does) (i t : ℕ) (due : List ℕ)
        → ((w : Turn X B) → Emits (k w) i t due)
        → (p : Poll X B)
        → Emits (polled g p n k) i t due
    poll n k i t due h (pending y) = qg n _ i t due (λ _. h (again y))
    poll n k i t due h (ready b) = h (done b)

-- the driver's own parts

pub quiet_capacity : Quiet tx_fifo_capacity
unfolding tx_fifo_capacity
quiet_capacity n k i t due h = search emits_when

pub quiet_full : Quiet tx_fifo_full
unfolding tx_fifo_full
quiet_full n k i t due h = quiet_capacity n _ i t due (λ _. h _)

pub quiet_len : Quiet rx_fifo_len
unfolding rx_fifo_len
quiet_len n k i t due h = λ v _. h _

pub quiet_abort : Quiet (read_and_clear_abort_reason reason_of)
unfolding read_and_clear_abort_reason
quiet_abort n k i t due h = search emits_if

pub quiet_try : {B : Type 0} (r : Tried B) → Quiet (try r)
quiet_try (ok b) n k i t due h = h b
quiet_try (err reason) n k i t due h = tt

pub quiet_space_poll : Quiet (space_poll reason_of)
quiet_space_poll n k i t due h = quiet_abort n _ i t due come
  where
    come : (a : Tried (Unit {0})) → Emits (space_come a n k) i t due
    come (ok u) = search (quiet_full, emits_if)
    come (err reason) = h _

pub quiet_stop_poll : (had_abort : Tried (Unit {0})) → Quiet (stop_poll reason_of had_abort)
quiet_stop_poll had n k i t due h =
    search (quiet_abort, emits_if)

pub quiet_wait_stop_det : (had_abort : Tried (Unit {0})) (do_stop : Bool) → Quiet (wait_stop_det reason_of had_abort do_stop)
unfolding wait_stop_det
quiet_wait_stop_det had stop n k i t due h =
    search (emits_if, quiet_wait_on, quiet_stop_poll)
