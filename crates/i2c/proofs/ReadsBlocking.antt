-- The machine's points of a blocking read do what `read_blocking_internal` does.
use Prim.Native.Nat.{ℕ, zero, suc, ◌+◌, ◌-◌, ◌<◌, ◌≤◌}
use native.Mathlib.Omega.{arith}
use mathlib.Core.Bool.{Bool}
use mathlib.Core.List.{List}
use mathlib.Core.Path.{◌≡◌, refl, subst}
use lib.Dec.{eqb, ltb}
use lib.ListN.{set}
use borrow.Author.Tests.{lt-ltb, le-ltb, ne_eqb}
use Rattle.regs.proofs.Tests.{by_test}
use Rattle.regs.specs.Program.{Behaviour, reads, stores, ◌>>=◌, return}
use Rattle.regs.specs.Registers.{DATA_CMD}
use Rattle.regs.specs.Fields.{level, dat}
use Rattle.regs.specs.declared.answers.Answer.{Answer}
use Rattle.regs.proofs.Refine.{ends_agree, reads_agree, writes_agree, stores_agree, loop_agree}
use Rattle.master.specs.Driver.{tx_fifo_full, tx_fifo_capacity, rx_fifo_len, while_test, read_and_clear_abort_reason, try, reason_of}
use Rattle.master.specs.Blocking.{read_blocking_bytes, read_blocking_internal}
use Rattle.transfer.specs.Inner.Points.{with_point}
use Rattle.transfer.specs.Inner.Machine.{next_at, next_read, read_word, store_at, store_read, step_of, step_read}
use Rattle.transfer.specs.Inner.Machine.{room_step, level_step, places, returned, after_byte, moved_to, begun}
use Rattle.transfer.specs.declared.Transfer.{Transfer}
use Rattle.transfer.specs.declared.ReadPoint.TheVariants as R
use Rattle.transfer.specs.declared.Caller.TheVariants as C
use Rattle.transfer.specs.declared.Point.{Point}
use Rattle.transfer.specs.declared.Point.TheVariants.{ReadBlocking}
use Rattle.i2c.proofs.Basics.{MOST, sum_is, M, Agrees, fails, reason_agrees}

module _ (coded : Bool) (kinds lengths bytes : List ℕ) (t : Transfer) (small : t.operation.at + t.operation.len ≤ MOST)
    (k : Unit {0} → Behaviour (Unit {0}) Answer) (top n : ℕ)
    (good : (m : ℕ)
    → m ≤ top
    → (p : Point) (b : List ℕ)
    → Agrees coded kinds lengths bytes m (begun coded kinds lengths (with_point t p)) b (k tt))
  where
    abbrev bytes_from : ℕ → ℕ → Behaviour (Unit {0}) Answer
    bytes_from i left = read_blocking_bytes reason_of t.operation.at (t.operation.len - 1) t.operation.restart t.operation.send_stop i left n k

    -- the wait for byte i, which is then taken and stored
    waits : (left i m : ℕ) → m ≤ top → m ≤ n → (b : List ℕ) → i < t.operation.len
        → ((m' : ℕ)
        → m' < m
        → (p : Point) (b : List ℕ)
        → Agrees coded kinds lengths bytes m'
        (moved_to coded kinds lengths (with_point t p) (after_byte t.operation.len i (ReadBlocking (R.Room (i + 1))))) b
        (bytes_from (i + 1) left))
        → Agrees coded kinds lengths bytes m (with_point t (ReadBlocking (R.Level i))) b
        (while_test (rx_fifo_len >>= (λ rxfifo. return (eqb rxfifo 0))) ((read_and_clear_abort_reason reason_of) >>= try) n
        (λ _. reads DATA_CMD (λ byte. stores (t.operation.at + i) (dat byte) (bytes_from (i + 1) left))))
    unfolding rx_fifo_len next_at next_read store_at store_read step_of step_read level_step returned
    waits left i m h l b lt next =
        loop_agree (M coded kinds lengths bytes) n _ _ (λ x y. with_point t (ReadBlocking (R.Level i)))
        (λ (x : Unit {0}) (y : Unit {0}). Unit {0}) n m l
        (λ m₁ l₁ x y b _ rest back. reads_agree (M coded kinds lengths bytes) m₁ refl (λ m₂ l₂ v. by_test (eqb (level v) 0)
        (λ q. rw q (reason_agrees coded kinds lengths bytes t (C.Read i) m₂ n b _
        (λ m₃ l₃ p. back m₃ (omega arith) tt tt b tt)
        (λ m₃ l₃ p r. fails coded kinds lengths bytes t m₃ b r)))
        (λ q. rw q (reads_agree (M coded kinds lengths bytes) m₂ refl (λ m₃ l₃ w. rw (sum_is t.operation.at i (omega arith))
        (stores_agree (M coded kinds lengths bytes) m₃ (next m₃ (omega arith) (ReadBlocking (R.Take i)) (set b (t.operation.at + i) (dat w)))))))))
        tt tt b tt

    -- the wait for a place in the FIFO, and the word that asks for byte i
    asks : (left i m : ℕ) → m ≤ top → m ≤ n → (b : List ℕ) → i < t.operation.len
        → ((m' : ℕ)
        → m' < m
        → (p : Point) (b : List ℕ)
        → Agrees coded kinds lengths bytes m'
        (moved_to coded kinds lengths (with_point t p) (after_byte t.operation.len i (ReadBlocking (R.Room (i + 1))))) b
        (bytes_from (i + 1) left))
        → Agrees coded kinds lengths bytes m (with_point t (ReadBlocking (R.Room i))) b (bytes_from i (suc left))
    unfolding read_blocking_bytes tx_fifo_full tx_fifo_capacity next_at next_read read_word store_at store_read
        step_of step_read room_step places
    asks left i m h l b lt next =
        loop_agree (M coded kinds lengths bytes) n _ _ (λ x y. with_point t (ReadBlocking (R.Room i)))
        (λ (x : Unit {0}) (y : Unit {0}). Unit {0}) n m l
        (λ m₁ l₁ x y b _ rest back. reads_agree (M coded kinds lengths bytes) m₁ refl (λ m₂ l₂ v. by_test (ltb 16 (level v))
        (λ q. rw q (ends_agree (M coded kinds lengths bytes) m₂ refl))
        (λ q. rw q (by_test (eqb (16 - level v) 0)
        (λ z. rw z (back m₂ l₂ tt tt b tt))
        (λ z. rw z (writes_agree (M coded kinds lengths bytes) m₂ refl
        (λ m₃ l₃. waits left i m₃ (omega arith) (omega arith) b lt (λ m₄ l₄. next m₄ (omega arith)))))))))
        tt tt b tt

    -- byte i, with `left` after it
    byte_agrees : (left i m : ℕ)
        → m ≤ top
        → m ≤ n
        → (b : List ℕ)
        → i + suc left ≡ t.operation.len
        → Agrees coded kinds lengths bytes m (with_point t (ReadBlocking (R.Room i))) b (bytes_from i (suc left))
    unfolding read_blocking_bytes
    byte_agrees zero i m h l b e =
        asks zero i m h l b (omega arith)
        (λ m₁ l₁ p b. rw (lt-ltb i t.operation.len (omega arith), le-ltb (i + 1) t.operation.len (omega arith)) (good m₁ (omega arith) p b))
    byte_agrees (suc left) i m h l b e =
        asks (suc left) i m h l b (omega arith)
        (λ m₁ l₁ p b. rw (lt-ltb i t.operation.len (omega arith), lt-ltb (i + 1) t.operation.len (omega arith))
        (byte_agrees left (i + 1) m₁ (omega arith) (omega arith) b (omega arith)))

    pub read_blocking_agrees : (m : ℕ) → m ≤ top → m ≤ n → 0 < t.operation.len → (b : List ℕ)
        → Agrees coded kinds lengths bytes m (with_point t (ReadBlocking (R.Room 0))) b
        (read_blocking_internal reason_of t.operation.at t.operation.len t.operation.restart t.operation.send_stop n k)
    unfolding read_blocking_internal
    read_blocking_agrees m h l pos b =
        let e : suc (t.operation.len - 1) ≡ t.operation.len = omega arith in
        let g : Agrees coded kinds lengths bytes m (with_point t (ReadBlocking (R.Room 0))) b
        (bytes_from 0 (suc (t.operation.len - 1))) = byte_agrees (t.operation.len - 1) 0 m h l b (omega arith) in
        rw (ne_eqb t.operation.len 0 (λ z. omega arith))
        (subst
        (λ (x : ℕ). Agrees coded kinds lengths bytes m (with_point t (ReadBlocking (R.Room 0))) b (bytes_from 0 x)) e g)
