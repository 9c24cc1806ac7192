-- Each function of the driver issues the words of its operation, whatever comes after it.
use Prim.Native.Nat.{ℕ, zero, suc, ◌+◌, ◌-◌, ◌/◌, ◌%◌, ◌^◌, ◌≤◌, ◌<◌, min}
use native.Mathlib.Omega.{arith}
use mathlib.Core.Path.{◌≡◌, refl}
use mathlib.Core.Bool.{Bool, true, false, not, ◌&&◌, and-true, and-false, and_comm}
use mathlib.Core.List.{List, [], ◌∷◌, ◌++◌}
use lib.Dec.{eqb, ltb}
use lib.ListN.{length}
use borrow.Author.Tests.{eq-eqb, ne_eqb, eqb-true, eqb-false, lt-ltb, ltb-false}
use Rattle.regs.specs.declared.answers.AbortReason.{AbortReason}
use Rattle.regs.specs.Registers.{DATA_CMD}
use Rattle.regs.specs.Fields.{cmd, command_word, level}
use Rattle.regs.specs.Log.{Each}
use Rattle.regs.specs.Program as P
use Rattle.regs.specs.Program.{◌>>=◌, done, by_turn, rounds, pending, ready, polled, ok, err}
use Rattle.std.specs.Prelude.{if◌then◌else◌}
use Rattle.master.specs.Driver.{Driver, Tried, try, rx_fifo_len, reason_of}
use Rattle.master.specs.Blocking.{read_blocking_bytes, read_blocking_internal, write_blocking_bytes, write_blocking_internal}
use Rattle.master.specs.Async.{is_empty, queue_batch, batch_come, batch_poll, stop_poll, wait_stop_det}
use Rattle.master.specs.Async.{space_poll, fetch_bytes, read_round, read_async_internal, Filled, break_xmit}
use Rattle.master.specs.Async.{full, fill, go_on, xmit, write_async_internal}
use Rattle.master.specs.Operations.{Operation, writes, reads, Mode, blocking, async}
use Rattle.master.specs.Transfer.{read_internal, write_internal, each_operation}
use Rattle.master.proofs.Words.{read_words, write_words, all_words}
use Rattle.master.proofs.Sequence.{Bytes, OfBytes}
use Rattle.master.proofs.Emits.{Does, Emits}
use Rattle.master.proofs.Quiet.{Quiet, emits_if, emits_when, quiet_while, quiet_while_test, quiet_wait_on}
use Rattle.master.proofs.Quiet.{quiet_capacity, quiet_full, quiet_len, quiet_abort, quiet_try}
use Rattle.master.proofs.Quiet.{quiet_space_poll, quiet_stop_poll, quiet_wait_stop_det}
use Rattle.master.proofs.Masks.{batch_masks, space_masks, stop_masks}

-- one word

reads_cmd : (stop restart : Bool) → cmd (command_word 0 true stop restart) ≡ true
reads_cmd true true = refl
reads_cmd true false = refl
reads_cmd false true = refl
reads_cmd false false = refl

writes_cmd : (b : ℕ) (stop : Bool) → b < 256 → cmd (command_word b false stop false) ≡ false
writes_cmd b true small = let e : command_word b false true false / 2 ^ 8 % 2 ≡ 0 = omega arith in rw e
writes_cmd b false small = let e : command_word b false false false / 2 ^ 8 % 2 ≡ 0 = omega arith in rw e

read_issued : (p : Does) (i t : ℕ) (due : List ℕ) (stop restart : Bool)
    → Emits p (suc i) t due → Emits (P.writes DATA_CMD (command_word 0 true stop restart) p) i t (command_word 0 true stop restart ∷ due)
read_issued p i t due stop restart h = (refl, (refl, rw (reads_cmd stop restart) h))

-- tests of indices

same_test : (a b c d : ℕ) → (a ≡ b → c ≡ d) → (c ≡ d → a ≡ b) → eqb a b ≡ eqb c d
same_test a b c d to from = go (eqb c d) refl
  where
    go : (q : Bool) → eqb c d ≡ q → eqb a b ≡ q
    go true e = eq-eqb a b (from (eqb-true c d e))
    go false e = ne_eqb a b (λ x. eqb-false c d e (to x))

ruleset quiet = (
  emits_if,
  emits_when,
  quiet_while,
  quiet_while_test,
  quiet_wait_on,
  quiet_capacity,
  quiet_full,
  quiet_len,
  quiet_abort,
  quiet_try,
  quiet_space_poll,
  quiet_wait_stop_det,
)

-- blocking

module _ (offset len : ℕ) (restart stop : Bool) (rest : List ℕ) (n : ℕ) (k : Unit {0} → Does) (done : (j : ℕ) → Emits (k tt) j j rest) where
  bytes_read : (left i j : ℕ) → i + left ≡ len
      → Emits (read_blocking_bytes reason_of offset (len - 1) restart stop i left n k) j j
      (read_words (restart && eqb i 0) stop left ++ rest)
  unfolding read_blocking_bytes read_words
  bytes_read zero i j e = done j
  bytes_read (suc left) i j e =
      let last : eqb i (len - 1) ≡ eqb left 0 = same_test i (len - 1) left 0 (λ q. omega arith) (λ q. omega arith) in
      let later : eqb (i + 1) 0 ≡ false = ne_eqb (i + 1) 0 (λ q. omega arith) in
      let ih = rw (later, and-false restart) at (bytes_read left (i + 1) (suc j) (omega arith)) in
      rw last (search (quiet, read_issued) depth 8)

module _ (len : ℕ) (stop : Bool) (rest : List ℕ) (n : ℕ) (k : Unit {0} → Does) (j : ℕ) (done : Emits (k tt) j j rest) where
  bytes_written : (bs : List ℕ) → Bytes bs → (i : ℕ) → i + length bs ≡ len
      → Emits (write_blocking_bytes reason_of len stop i bs n k) j j (write_words stop bs ++ rest)
  unfolding write_blocking_bytes write_words
  bytes_written [] small i e = done
  bytes_written (b ∷ bs) small i e =
      let last : eqb i (len - 1) ≡ is_empty bs = last_byte bs i (omega arith) in
      let ih = bytes_written bs small.1 (i + 1) (omega arith) in
      rw last (refl, (refl, rw (writes_cmd b (stop && is_empty bs) small.0) (search quiet depth 8)))
    where
      last_byte : (cs : List ℕ) (i : ℕ) → i + suc (length cs) ≡ len → eqb i (len - 1) ≡ is_empty cs
      last_byte [] i e = eq-eqb i (len - 1) (omega arith)
      last_byte (c ∷ cs) i e = ne_eqb i (len - 1) (λ q. omega arith)

-- the async read

fetched : (n : ℕ) (k : Unit {0} → Does) (i : ℕ) (due : List ℕ) (m at t : ℕ)
    → Emits (k tt) i (t + m) due
    → Emits (fetch_bytes at m n k) i t due
unfolding fetch_bytes
fetched n k i due zero at t h = let e : t ≡ t + 0 = omega arith in rw e h
fetched n k i due (suc m) at t h = λ v _. fetched n k i due m (at + 1) (suc t) (let e : suc t + m ≡ t + suc m = omega arith in rw e h)

-- the words for the last q bytes of a read, and what is due after them
abbrev last_words : ℕ → Bool → Bool → List ℕ → ℕ → List ℕ
last_words len restart stop rest q = read_words (restart && eqb q len) stop q ++ rest

module _ (len : ℕ) (restart stop : Bool) (rest : List ℕ) (n : ℕ) (k : Unit {0} → Does) (t : ℕ) where
  queued : (m q i : ℕ) → m ≤ q → q ≤ len → Emits (k tt) (i + m) t (last_words len restart stop rest (q - m))
      → Emits (queue_batch len restart stop m q n k) i t (last_words len restart stop rest q)
  unfolding queue_batch read_words
  queued zero q i fits within h =
      let e : i + 0 ≡ i = omega arith in
      let f : q - 0 ≡ q = omega arith in
      rw (e, f) at h
  queued (suc m) zero i fits within h = absurd (omega arith)
  queued (suc m) (suc q) i fits within h =
      let e : suc q - 1 ≡ q = omega arith in
      let f : i + suc m ≡ suc i + m = omega arith in
      let g : suc q - suc m ≡ q - m = omega arith in
      let first : eqb q (len - 1) ≡ eqb (suc q) len = same_test q (len - 1) (suc q) len (λ x. omega arith) (λ x. omega arith) in
      let later : eqb q len ≡ false = ne_eqb q len (λ x. omega arith) in
      let ih = rw (later, and-false restart) at (queued m q (suc i) (omega arith) (omega arith) (rw (f, g) at h)) in
      rw (e, first, and_comm (eqb q 0) stop) (refl, (refl, rw (reads_cmd (stop && eqb q 0) (restart && eqb (suc q) len)) ih))

-- a poll that is ready has the whole batch, and no more than was asked for
module _ (batch i t : ℕ) (due : List ℕ) (n : ℕ) (g : Driver (Unit {0})) (quiet_g : Quiet g) (k : Tried ℕ → Does)
    (aborted : (reason : AbortReason) → Emits (k (err reason)) i t due)
    (come : (v : ℕ) → batch ≤ v → v + t ≤ i → Emits (k (ok v)) i t due) where
  abbrev waits : ℕ → Does
  waits left = rounds left n (λ (_ : Unit {0}). batch_poll reason_of batch >>= polled g) tt k

  batch_waited : (left : ℕ) → Emits (waits left) i t due
  unfolding rounds rx_fifo_len
  batch_waited zero = tt
  batch_waited (suc left) = λ v bound. quiet_abort n _ i t due (judged (batch_waited left) (level v) (bound tt))
    where
      compared : Emits (waits left) i t due → (v : ℕ) → v + t ≤ i → (less : Bool) → ltb v batch ≡ less
          → Emits (polled g (if not less then ready (ok v) else pending (tt {0})) n (λ w. by_turn w (λ _. waits left) k)) i t due
      compared ih v bound true e = quiet_g n _ i t due (λ _. ih)
      compared ih v bound false e = come v (ltb-false v batch e) bound

      judged : Emits (waits left) i t due → (v : ℕ) → v + t ≤ i → (r : Tried (Unit {0}))
          → Emits (polled g (batch_come batch v r) n (λ w. by_turn w (λ _. waits left) k)) i t due
      judged ih v bound (ok u) = compared ih v bound (ltb v batch) refl
      judged ih v bound (err reason) = aborted reason

-- a round takes exactly its batch, so the words still to queue and the bytes still to take are as many at the start of each round
module _ (offset len : ℕ) (restart stop : Bool) (rest : List ℕ) (n : ℕ) (k : Tried (Unit {0}) → Does)
    (aborted : (reason : AbortReason) (i t : ℕ) (due : List ℕ) → Emits (k (err reason)) i t due)
    (done : (j : ℕ) → Emits (k (ok tt)) j j rest) where
  rounds_read : (left r i : ℕ) → r ≤ len
      → Emits (rounds left n (read_round reason_of offset len restart stop) (record { remaining = r; remaining_queue = r }) k)
      i i (last_words len restart stop rest r)
  unfolding rounds read_words
  rounds_read zero r i fits = tt
  rounds_read (suc left) zero i fits = done i
  rounds_read (suc left) (suc r) i fits = rw (lt-ltb 0 (suc r) (omega arith)) (quiet_capacity n _ i i _ (λ space.
      let batch : ℕ = min (suc r) space in
      queued len restart stop rest n _ i batch (suc r) i (omega arith) fits
      (batch_waited batch (i + batch) i _ n (batch_masks batch) (λ n k i t due h. (refl, λ v _. (refl, h tt))) _ (λ reason. aborted reason _ _ _)
      (λ v whole possible.
      let e : min v (suc r) ≡ batch = omega arith in
      rw e (fetched n _ (i + batch) _ batch _ i (rounds_read left (suc r - batch) (i + batch) (omega arith)))) n)))

-- the async write

module _ (stop : Bool) (rest : List ℕ) (n j : ℕ) where
  filled : (k : Filled → Does)
      → Emits (k break_xmit) j j rest
      → ((bs : List ℕ) → Bytes bs → Emits (k (full bs)) j j (write_words stop bs ++ rest))
      → (space : ℕ) (bs : List ℕ) → Bytes bs → Emits (fill stop space bs n k) j j (write_words stop bs ++ rest)
  unfolding fill write_words
  filled k ended go zero bs small = go bs small
  filled k ended go (suc space) [] small = ended
  filled k ended go (suc space) (b ∷ bs) small =
      rw (and_comm (is_empty bs) stop) (
        refl,
        (refl, rw (writes_cmd b (stop && is_empty bs) small.0) (filled k ended go space bs small.1)),
      )

  module _ (k : Tried (Unit {0}) → Does)
      (aborted : (reason : AbortReason) (due : List ℕ) → Emits (k (err reason)) j j due)
      (ended : Emits (k (ok tt)) j j rest) where
    rounds_written : (left : ℕ) (bs : List ℕ) → Bytes bs → Emits (rounds left n (xmit reason_of stop) bs k) j j
        (write_words stop bs ++ rest)
    unfolding rounds
    rounds_written zero bs small = tt
    rounds_written (suc left) bs small = quiet_capacity n _ j j _ (λ space. filled _ ended (λ cs small.
        quiet_wait_on tt (λ _. (space_poll reason_of)) space_masks (λ _. quiet_space_poll) (λ n k i t due h. (refl, λ v _. (refl, h tt)))
        n _ j j _ (gone_on cs (rounds_written left cs small))) space bs small)
      where
        gone_on : (cs : List ℕ) → Emits (rounds left n (xmit reason_of stop) cs k) j j (write_words stop cs ++ rest)
            → (res : Tried (Unit {0}))
            → Emits (by_turn (go_on cs res) (λ ds. rounds left n (xmit reason_of stop) ds k) k) j j (write_words stop cs ++ rest)
        gone_on cs ih (ok u) = ih
        gone_on cs ih (err reason) = aborted reason _

-- after an abort nothing is accepted
abort_refused : (reason : AbortReason) (stop : Bool) (n : ℕ) (k : Unit {0} → Does) (i t : ℕ) (due : List ℕ)
    → Emits (wait_stop_det reason_of (err reason) stop n (λ res. try res n k)) i t due
unfolding wait_stop_det
abort_refused reason stop n k i t due =
    quiet_wait_on tt (λ _. stop_poll reason_of (err reason)) stop_masks (λ _. quiet_stop_poll (err reason))
    (λ n k i t due h v _. (refl, h tt)) n _ i t due (λ res v _. tt)

-- both modes together

-- a read issues its words, and takes as many bytes as it issues words
pub read_issues : (mode : Mode) (offset len : ℕ) (restart stop : Bool) (rest : List ℕ) (n : ℕ) (k : Unit {0} → Does)
    → ((j : ℕ) → Emits (k tt) j j rest)
    → (i : ℕ) → Emits (read_internal reason_of mode offset len restart stop n k) i i (read_words restart stop len ++ rest)
unfolding read_blocking_internal read_async_internal
read_issues blocking offset len restart stop rest n k ended i =
    let issues = rw (and-true restart) at (bytes_read offset len restart stop rest n k ended len 0 i (omega arith)) in search emits_when
read_issues async offset len restart stop rest n k ended i =
    let stopped : (j : ℕ) → Emits (wait_stop_det reason_of (ok tt) stop n (λ res. try res n k)) j j rest = λ j. search quiet in
    let issues = rw (eq-eqb len len refl, and-true restart) at
    (rounds_read offset len restart stop rest n (λ r. wait_stop_det reason_of r stop n (λ res. try res n k))
    (λ reason i t due. abort_refused reason stop n k i t due) stopped n len i (omega arith)) in
    search emits_when

pub write_issues : (mode : Mode) (bs : List ℕ)
    → Bytes bs
    → (stop : Bool) (rest : List ℕ) (n : ℕ) (k : Unit {0} → Does) (i : ℕ)
    → Emits (k tt) i i rest
    → Emits (write_internal reason_of mode bs stop n k) i i (write_words stop bs ++ rest)
unfolding write_blocking_internal write_async_internal
write_issues blocking bs small stop rest n k i ended =
    let issues = bytes_written (length bs) stop rest n k i ended bs small 0 (omega arith) in search emits_when
write_issues async bs small stop rest n k i ended =
    let stopped : Emits (wait_stop_det reason_of (ok tt) stop n (λ res. try res n k)) i i rest = search quiet in
    rounds_written stop rest n i _ (λ reason due. abort_refused reason stop n k i i due) stopped n bs small

-- a transaction's operations issue their words, with no RESTART flag and one STOP
pub operations_issue : (mode : Mode) (n : ℕ) (k : Unit {0} → Does)
    → ((j : ℕ) → Emits (k tt) j j [])
    → (os : List (Operation ℕ))
    → Each OfBytes os
    → (offset i : ℕ) → Emits (each_operation reason_of mode offset os n k) i i (all_words false os)
unfolding each_operation all_words
operations_issue mode n k ended [] bytes offset i = ended i
operations_issue mode n k ended (reads len ∷ os) bytes offset i =
    read_issues mode offset len false (is_empty os) _ n _ (λ j. operations_issue mode n k ended os bytes.1 (offset + len) j) i
operations_issue mode n k ended (writes bs ∷ os) bytes offset i =
    write_issues mode bs bytes.0 (is_empty os) _ n _ i (operations_issue mode n k ended os bytes.1 offset i)
