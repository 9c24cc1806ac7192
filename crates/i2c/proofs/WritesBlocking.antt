-- The machine's points of a blocking write do what `write_blocking_internal` does.
use Prim.Native.Nat.{ℕ, suc, ◌+◌, ◌-◌, ◌<◌, ◌≤◌}
use native.Mathlib.Omega.{arith}
use mathlib.Core.Bool.{Bool, true, false, not, ◌&&◌, ◌||◌, true≢false}
use mathlib.Core.List.{List, [], ◌∷◌}
use mathlib.Core.Path.{◌≡◌, refl, sym}
use lib.Dec.{eqb}
use lib.ListN.{length}
use borrow.Author.Tests.{lt-ltb, le-ltb, ne_eqb}
use Rattle.regs.proofs.Tests.{by_test}
use Rattle.regs.specs.Program.{Behaviour, reads, when, while, skip, ok, get, ◌>>◌}
use Rattle.regs.specs.Registers.{RAW_INTR_STAT, CLR_STOP_DET}
use Rattle.regs.specs.Fields.{tx_empty, stop_det}
use Rattle.regs.specs.declared.answers.Answer.{Answer}
use Rattle.regs.proofs.Refine.{reads_agree, writes_agree, while_agree}
use Rattle.master.specs.Driver.{Tried, is_err, try, reason_of}
use Rattle.master.specs.Blocking.{write_blocking_bytes, write_blocking_internal}
use Rattle.transfer.specs.Inner.Points.{with_point}
use Rattle.transfer.specs.Inner.Machine.{next_at, next_write, next_stop, write_word, store_at, step_of, step_write}
use Rattle.transfer.specs.Inner.Machine.{step_stop, closes, returned, try_step, moved_to, begun}
use Rattle.transfer.specs.declared.Transfer.{Transfer}
use Rattle.transfer.specs.Inner.Points as T
use Rattle.std.specs.Prelude.{Ok, Err}
use Rattle.transfer.specs.declared.WritePoint.TheVariants as W
use Rattle.transfer.specs.declared.StopPoint.TheVariants as S
use Rattle.transfer.specs.declared.Caller.TheVariants as C
use Rattle.transfer.specs.declared.Point.{Point}
use Rattle.transfer.specs.declared.Point.TheVariants.{WriteBlocking, Stop}
use Rattle.i2c.proofs.Basics.{M, Agrees, fails, reason_agrees}
use Rattle.i2c.proofs.Bytes.{Held, held_head}

-- a negated test
not_true : (q : Bool) → not q ≡ true → q ≡ false
not_true true e = sym e
not_true false e = refl

not_false : (q : Bool) → not q ≡ false → q ≡ true
not_false true e = refl
not_false false e = sym e

not_both : (a b : Bool) → b ≡ false → (a && b) ≡ true → ⊥
not_both true true e q = true≢false e
not_both true false e q = true≢false (sym q)
not_both false b e q = true≢false (sym q)

module _ (coded : Bool) (kinds lengths bytes : List ℕ) (t : Transfer) (k : Unit {0} → Behaviour (Unit {0}) Answer) (top n : ℕ)
    (good : (m : ℕ)
    → m ≤ top
    → (p : Point) (b : List ℕ)
    → Agrees coded kinds lengths bytes m (begun coded kinds lengths (with_point t p)) b (k tt))
  where
    abbrev bytes_from : ℕ → List ℕ → Behaviour (Unit {0}) Answer
    bytes_from i rest = write_blocking_bytes reason_of t.operation.len t.operation.send_stop i rest n k

    -- the wait for STOP after an abort or the last byte, and what follows it
    stops : (r : T.Tried) (rest : Behaviour (Unit {0}) Answer) (m : ℕ) → m ≤ n → (b : List ℕ)
        → ((m' : ℕ)
        → m' < m
        → (p : Point) (b : List ℕ)
        → Agrees coded kinds lengths bytes m' (moved_to coded kinds lengths (with_point t p) (try_step r)) b rest)
        → Agrees coded kinds lengths bytes m (with_point t (WriteBlocking (W.StopDet r))) b
        (while RAW_INTR_STAT (λ stat. not (stop_det stat)) skip n (λ _. reads CLR_STOP_DET (λ _. rest)))
    unfolding next_at next_write next_stop store_at step_of step_write step_stop
    stops r rest m l b next =
        while_agree (M coded kinds lengths bytes) (with_point t (WriteBlocking (W.StopDet r))) n RAW_INTR_STAT
        (λ stat. not (stop_det stat)) skip _ refl n m l b
        (λ m₁ l₁ b again back v q. rw (not_true (stop_det v) q) (back m₁ (omega arith) b))
        (λ m₁ l₁ b v q. rw (not_false (stop_det v) q)
        (reads_agree (M coded kinds lengths bytes) m₁ refl (λ m₂ l₂ w. next m₂ (omega arith) (Stop (S.Clear r)) b)))

    -- what follows the abort's source, for byte i with `rest` after it
    abbrev settles : ℕ → List ℕ → Tried (Unit {0}) → Behaviour (Unit {0}) Answer
    settles i rest abort_reason =
        when (is_err abort_reason || (t.operation.send_stop && eqb i (t.operation.len - 1)))
        (while RAW_INTR_STAT (λ stat. not (stop_det stat)) skip >> (get CLR_STOP_DET >> skip)) n
        (λ _. try abort_reason n (λ _. bytes_from (i + 1) rest))

    -- byte i is sent and has left the FIFO
    sends : (byte : ℕ) (rest : List ℕ) (i m : ℕ) → m ≤ top → m ≤ n → (b : List ℕ) → Held bytes t (byte ∷ rest) i
        → ((m' : ℕ)
        → m' < m
        → (p : Point) (b : List ℕ)
        → Agrees coded kinds lengths bytes m'
        (moved_to coded kinds lengths (with_point t p) (returned t.operation.len t.operation.send_stop (C.Write i) (Ok tt))) b
        (settles i rest (ok tt)))
        → Agrees coded kinds lengths bytes m (with_point t (WriteBlocking (W.Send i))) b (bytes_from i (byte ∷ rest))
    unfolding write_blocking_bytes next_at next_write write_word store_at step_of step_write returned try_step
    sends byte rest i m h l b held next =
        rw (← (held_head bytes t byte rest i held).0)
        (writes_agree (M coded kinds lengths bytes) m refl (λ m₁ l₁.
        while_agree (M coded kinds lengths bytes) (with_point t (WriteBlocking (W.Empty i))) n RAW_INTR_STAT
        (λ stat. not (tx_empty stat)) skip _ refl n m₁ (omega arith) b
        (λ m₂ l₂ b again back v q. rw (not_true (tx_empty v) q) (back m₂ (omega arith) b))
        (λ m₂ l₂ b v q. rw (not_false (tx_empty v) q) (reason_agrees coded kinds lengths bytes t (C.Write i) m₂ n b _
        (λ m₃ l₃ p. next m₃ (omega arith) p b)
        (λ m₃ l₃ p r. stops (Err r) _ m₃ (omega arith) b (λ m₄ l₄ p b. fails coded kinds lengths bytes t m₄ b r))))))

    -- the bytes from byte i on, of which there is one at least
    bytes_agree : (byte : ℕ) (rest : List ℕ) (i m : ℕ) → m ≤ top → m ≤ n → (b : List ℕ) → Held bytes t (byte ∷ rest) i
        → Agrees coded kinds lengths bytes m (with_point t (WriteBlocking (W.Send i))) b (bytes_from i (byte ∷ rest))
    unfolding write_blocking_bytes returned closes try_step
    bytes_agree byte [] i m h l b held =
        let e : i + 1 ≡ t.operation.len = held.sum in
        sends byte [] i m h l b held (λ m₁ l₁ p b. by_test (t.operation.send_stop && eqb i (t.operation.len - 1))
        (λ q. rw q (stops (Ok tt) _ m₁ (omega arith) b (λ m₂ l₂ p b. good m₂ (omega arith) p b)))
        (λ q. rw (q, lt-ltb i t.operation.len (omega arith), le-ltb (i + 1) t.operation.len (omega arith)) (good m₁ (omega arith) p b)))
    bytes_agree byte (next ∷ rest) i m h l b held =
        let e : i + suc (suc (length rest)) ≡ t.operation.len = held.sum in
        sends byte (next ∷ rest) i m h l b held (λ m₁ l₁ p b. by_test (t.operation.send_stop && eqb i (t.operation.len - 1))
        (λ q. absurd (not_both t.operation.send_stop (eqb i (t.operation.len - 1)) (ne_eqb i (t.operation.len - 1) (λ z. omega arith)) q))
        (λ q. rw (q, lt-ltb i t.operation.len (omega arith), lt-ltb (i + 1) t.operation.len (omega arith))
        (bytes_agree next rest (i + 1) m₁ (omega arith) (omega arith) b (held_head bytes t byte (next ∷ rest) i held).1.0)))

    pub write_blocking_agrees : (ws : List ℕ) (m : ℕ) → m ≤ top → m ≤ n → (b : List ℕ) → Held bytes t ws 0 → 0 < t.operation.len
        → Agrees coded kinds lengths bytes m (with_point t (WriteBlocking (W.Send 0))) b
        (write_blocking_internal reason_of ws t.operation.send_stop n k)
    unfolding write_blocking_internal
    write_blocking_agrees [] m h l b held pos = absurd (omega (arith, held.sum))
    write_blocking_agrees (byte ∷ ws) m h l b held pos =
        let e : suc (length ws) ≡ t.operation.len = omega (arith, held.sum) in
        rw (ne_eqb (suc (length ws)) 0 (λ z. omega arith), e) (bytes_agree byte ws 0 m h l b held)
