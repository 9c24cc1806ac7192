-- The machine's points of an async read do what `read_async_internal` does.
use Prim.Native.Nat.{ℕ, zero, suc, ◌+◌, ◌-◌, ◌%◌, ◌^◌, ◌<◌, ◌≤◌, min}
use native.Mathlib.Omega.{arith}
use native.Mathlib.Nat.{le_refl, min-le_right, sub-zero}
use mathlib.Core.Bool.{Bool, false}
use mathlib.Core.List.{List}
use mathlib.Core.Path.{◌≡◌, refl}
use lib.Dec.{eqb, ltb}
use lib.ListN.{set}
use borrow.Author.Tests.{lt-ltb, ne_eqb}
use Rattle.regs.proofs.Tests.{by_test}
use Rattle.regs.specs.Program.{◌>>◌, Behaviour, by_turn, rounds, wait_on, put, modify}
use Rattle.regs.specs.Registers.{INTR_MASK, RX_TL}
use Rattle.regs.specs.Fields.{dat, level, set_m_rx_full, set_m_tx_abrt}
use Rattle.regs.specs.Steps.{Machine}
use Rattle.regs.specs.declared.answers.Answer.{Answer}
use Rattle.regs.proofs.Refine.{ends_agree, reads_agree, writes_agree, stores_agree, loop_agree}
use Rattle.master.specs.Driver.{tx_fifo_capacity, rx_fifo_len, reason_of}
use Rattle.master.specs.Async.{Counts, queue_batch, batch_poll, fetch_bytes, take_batch, read_round, read_async_internal}
use Rattle.transfer.specs.Inner.Points.{with_point}
use Rattle.transfer.specs.Inner.Machine.{next_at, next_round, next_wait, queue_word, store_at, store_round, step_of}
use Rattle.transfer.specs.Inner.Machine.{step_round, step_wait, places, batch_step, queued, next_turn, fetching}
use Rattle.transfer.specs.Inner.Machine.{returned, mask_for, poll_point, some_read, moved_to}
use Rattle.transfer.specs.declared.Transfer.{Transfer}
use Rattle.transfer.specs.declared.Round.{Round}
use Rattle.transfer.specs.declared.Mode.TheVariants.{Async}
use Rattle.std.specs.Prelude.{Ok, Err}
use Rattle.transfer.specs.declared.Caller.TheVariants as C
use Rattle.transfer.specs.declared.RoundPoint.TheVariants as Q
use Rattle.transfer.specs.declared.Poll.TheVariants as O
use Rattle.transfer.specs.declared.Point.{Point}
use Rattle.transfer.specs.declared.Point.TheVariants.{ReadAsync}
use Rattle.i2c.proofs.Basics.{MOST, sum_is, M, Agrees, reason_agrees, pend_agrees}
use Rattle.i2c.proofs.EndAsync.{Good, ending, ending_agrees}

abbrev counted : ℕ → ℕ → ℕ → Round
counted remaining queue batch = record { remaining = remaining; queue = queue; batch = batch }

module _ (coded : Bool) (kinds lengths bytes : List ℕ) (t : Transfer) (n : ℕ) where
  abbrev R : Machine
  R = M coded kinds lengths bytes

  abbrev Does : ℕ → Transfer → List ℕ → Behaviour (Unit {0}) Answer → Type 0
  Does = Agrees coded kinds lengths bytes

  -- where a round begins, from any point
  abbrev turn_at : Point → ℕ → ℕ → ℕ → Transfer
  turn_at p remaining queue batch = moved_to coded kinds lengths (with_point t p) (next_turn t.operation.send_stop (counted remaining queue batch))

  -- the bytes that came are stored from `pos` on
  fetches : (left pos remaining queue batch m : ℕ) (k : Unit {0} → Behaviour (Unit {0}) Answer)
      → pos + left + remaining ≡ t.operation.at + t.operation.len
      → t.operation.at ≤ pos
      → t.operation.at + t.operation.len ≤ MOST
      → ((m' : ℕ) → m' ≤ m → (p : Point) (b : List ℕ) → Does m' (turn_at p remaining queue batch) b (k tt))
      → (p : Point) (b : List ℕ)
      → Does m
      (moved_to coded kinds lengths (with_point t p) (fetching t.operation.send_stop (counted remaining queue batch) left))
      b (fetch_bytes pos left n k)
  unfolding fetch_bytes fetching next_at next_round store_at store_round step_of step_round
  fetches zero pos remaining queue batch m k e from fits next p b = next m (le_refl m) p b
  fetches (suc left) pos remaining queue batch m k e from fits next p b =
      let w : t.operation.at + (t.operation.len - remaining - suc left) ≡ pos = omega arith in
      let s : (t.operation.at + (t.operation.len - remaining - suc left)) % 2 ^ 64 ≡ t.operation.at + (t.operation.len - remaining - suc left) =
      sum_is t.operation.at (t.operation.len - remaining - suc left) (omega arith) in
      let z : suc left - 1 ≡ left = omega arith in
      rw (ne_eqb (suc left) 0 (λ z. omega arith))
      (reads_agree R m refl (λ m₁ l₁ v. stores_agree R m₁
      (rw (s, w, z) (fetches left (pos + 1) remaining queue batch m₁ k (omega arith) (omega arith) fits
      (λ m₂ l₂. next m₂ (omega arith)) (ReadAsync (Q.Fetch (counted remaining queue batch) (suc left)))
      (set b pos (dat v))))))

  -- the words of a round are queued
  queues : (words remaining queue batch m : ℕ) (k : Unit {0} → Behaviour (Unit {0}) Answer)
      → ((m' : ℕ) → m' ≤ m → (b : List ℕ) → Does m' (with_point t (ReadAsync (Q.Level (counted remaining (queue - words) batch)))) b (k tt))
      → (p : Point) (b : List ℕ)
      → Does m (moved_to coded kinds lengths (with_point t p) (queued (counted remaining queue batch) words)) b
      (queue_batch t.operation.len t.operation.restart t.operation.send_stop words queue n k)
  unfolding queue_batch queued queue_word next_at next_round store_at store_round step_of step_round
  queues zero remaining queue batch m k next p b = rw (sub-zero queue) at (next m (le_refl m) b)
  queues (suc words) remaining queue batch m k next p b =
      let e : queue - suc words ≡ queue - 1 - words = omega arith in
      let z : suc words - 1 ≡ words = omega arith in
      rw (ne_eqb (suc words) 0 (λ z. omega arith))
      (writes_agree R m refl (λ m₁ l₁. rw z
      (queues words remaining (queue - 1) batch m₁ k (λ m₂ l₂ b. rw e at (next m₂ (omega arith) b))
      (ReadAsync (Q.Queue (counted remaining queue batch) (suc words))) b)))

  module _ (k : Unit {0} → Behaviour (Unit {0}) Answer) (top : ℕ) (good : Good coded kinds lengths bytes t k top)
      (fits : t.operation.at + t.operation.len ≤ MOST) where
    -- the rounds after this one
    abbrev Back : ℕ → (Counts → Behaviour (Unit {0}) Answer) → Type 0
    Back m next = (m' : ℕ)
        → m' < m
        → (remaining queue batch : ℕ) (p : Point) (b : List ℕ)
        → remaining ≤ t.operation.len
        → Does m' (turn_at p remaining queue batch) b
        (next (record { remaining = remaining; remaining_queue = queue }))

    -- the wait for the batch
    waits : (remaining queue batch m : ℕ)
        → m ≤ top
        → m ≤ n
        → (b : List ℕ) (next : Counts → Behaviour (Unit {0}) Answer)
        → remaining ≤ t.operation.len
        → Back m next
        → Does m (with_point t (ReadAsync (Q.Level (counted remaining queue batch)))) b
        (wait_on tt (λ _. batch_poll reason_of batch)
        (put RX_TL (batch - 1) >> modify INTR_MASK (λ w. set_m_tx_abrt (set_m_rx_full w))) n
        (λ res. take_batch t.operation.at t.operation.len remaining queue res n (λ w. by_turn w next (ending t k n))))
    unfolding rx_fifo_len next_at next_round next_wait store_at store_round step_of step_round step_wait returned mask_for poll_point
    waits remaining queue batch m h l b next some back =
        loop_agree R n _ _ (λ x y. with_point t (ReadAsync (Q.Level (counted remaining queue batch))))
        (λ (x : Unit {0}) (y : Unit {0}). Unit {0}) n m l
        (λ m₁ l₁ x y b u turn again. reads_agree R m₁ refl
        (λ m₂ l₂ v. reason_agrees coded kinds lengths bytes t (C.Batch (counted remaining queue batch) (level v)) m₂ n
        b _
        (λ m₃ l₃ p. by_test (ltb (level v) batch)
        (λ q. rw q (writes_agree R m₃ refl
        (λ m₄ l₄. pend_agrees coded kinds lengths bytes t (O.Batch (counted remaining queue batch)) m₄ b _
        (λ m₅ l₅. again m₅ (omega arith) tt tt b tt))))
        (λ q. rw q (
        let w : min (level v) remaining ≤ remaining = min-le_right (level v) remaining in
        fetches (min (level v) remaining) (t.operation.at + (t.operation.len - remaining)) (remaining - min (level v) remaining) queue
        batch m₃ _ (omega arith) (omega arith) fits
        (λ m₄ l₄ p b. back m₄ (omega arith) (remaining - min (level v) remaining) queue batch p b (omega arith)) p b)))
        (λ m₃ l₃ p r. ending_agrees coded kinds lengths bytes t k top n good (Err r) m₃ (omega arith) (omega arith) p b))) tt tt b tt

    -- a round, where bytes remain and where none does
    turns : (remaining queue batch m : ℕ)
        → m ≤ top
        → m ≤ n
        → (p : Point) (b : List ℕ) (next : Counts → Behaviour (Unit {0}) Answer)
        → remaining ≤ t.operation.len
        → Back m next
        → Does m (turn_at p remaining queue batch) b
        (read_round reason_of t.operation.at t.operation.len t.operation.restart t.operation.send_stop
        (record { remaining = remaining; remaining_queue = queue }) n (λ w. by_turn w next (ending t k n)))
    unfolding tx_fifo_capacity next_turn next_at next_round store_at store_round step_of step_round places batch_step
    turns zero queue batch m h l p b next some back = ending_agrees coded kinds lengths bytes t k top n good (Ok tt) m h l p b
    turns (suc remaining) queue batch m h l p b next some back =
        rw (ne_eqb (suc remaining) 0 (λ z. omega arith), lt-ltb 0 (suc remaining) (omega arith))
        (reads_agree R m refl (λ m₁ l₁ v. by_test (ltb 16 (level v))
        (λ q. rw q (ends_agree R m₁ refl))
        (λ q. rw q (queues (min queue (16 - level v)) (suc remaining) queue (min queue (16 - level v)) m₁ _
        (λ m₂ l₂ b. waits (suc remaining) (queue - min queue (16 - level v)) (min queue (16 - level v)) m₂
        (omega arith) (omega arith) b next some (λ m₃ l₃. back m₃ (omega arith)))
        (ReadAsync (Q.Capacity (counted (suc remaining) queue batch))) b))))

module _ (coded : Bool) (kinds lengths bytes : List ℕ) where
  pub read_async_agrees : (t : Transfer) (k : Unit {0} → Behaviour (Unit {0}) Answer) (top n m : ℕ)
      → m ≤ top
      → m ≤ n
      → 0 < t.operation.len
      → t.operation.at + t.operation.len ≤ MOST
      → Good coded kinds lengths bytes t k top
      → (b : List ℕ)
      → Agrees coded kinds lengths bytes m (with_point t (some_read Async t.operation.len)) b
      (read_async_internal reason_of t.operation.at t.operation.len t.operation.restart t.operation.send_stop n k)
  unfolding read_async_internal some_read next_turn
  read_async_agrees t k top n m h l some fits good b =
      let z : eqb t.operation.len 0 ≡ false = ne_eqb t.operation.len 0 (λ e. omega arith) in
      let whole : Agrees coded kinds lengths bytes m (turn_at coded kinds lengths bytes t n t.point t.operation.len t.operation.len 0) b
      (rounds n n (read_round reason_of t.operation.at t.operation.len t.operation.restart t.operation.send_stop)
      (record { remaining = t.operation.len; remaining_queue = t.operation.len }) (ending t k n))
      = loop_agree (M coded kinds lengths bytes) n _ _
      (λ (x : Counts) (y : Point × ℕ). turn_at coded kinds lengths bytes t n y.0 x.remaining
      x.remaining_queue y.1)
      (λ x y. x.remaining ≤ t.operation.len) n m l
      (λ m₁ l₁ x y b some next back. turns coded kinds lengths bytes t n k top good fits x.remaining
      x.remaining_queue y.1 m₁ (omega arith) (omega arith) y.0 b next some
      (λ m₂ l₂ remaining queue batch p b some. back m₂ l₂ (record { remaining = remaining; remaining_queue = queue }) (p, batch) b some))
      (record { remaining = t.operation.len; remaining_queue = t.operation.len }) (t.point, 0) b (le_refl t.operation.len) in
      rw z (rw z at whole)
