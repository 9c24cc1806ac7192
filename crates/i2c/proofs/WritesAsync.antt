-- The machine's points of an async write do what `write_async_internal` does.
use Prim.Native.Nat.{ℕ, zero, suc, ◌+◌, ◌-◌, ◌<◌, ◌≤◌}
use native.Mathlib.Omega.{arith}
use mathlib.Core.Bool.{Bool, true}
use mathlib.Core.List.{List, [], ◌∷◌}
use mathlib.Core.Path.{◌≡◌, refl}
use lib.Dec.{eqb, ltb}
use lib.ListN.{get_or}
use borrow.Author.Tests.{lt-ltb, le-ltb, ne_eqb}
use Rattle.regs.proofs.Tests.{by_test}
use Rattle.regs.specs.Program.{◌>>◌, Behaviour, by_turn, wait_on, put, modify}
use Rattle.regs.specs.Registers.{INTR_MASK, TX_TL}
use Rattle.regs.specs.Fields.{level, set_m_tx_empty, set_m_tx_abrt}
use Rattle.regs.specs.Steps.{Machine}
use Rattle.regs.specs.declared.answers.Answer.{Answer}
use Rattle.regs.proofs.Refine.{ends_agree, reads_agree, writes_agree, loop_agree}
use Rattle.master.specs.Driver.{tx_fifo_capacity, tx_fifo_full, reason_of}
use Rattle.master.specs.Async.{fill, space_poll, go_on, wait_space, write_async_internal}
use Rattle.transfer.specs.Inner.Points.{with_point}
use Rattle.transfer.specs.Inner.Machine.{next_at, next_fill, next_wait, fill_word, store_at, step_of, step_fill}
use Rattle.transfer.specs.Inner.Machine.{step_wait, places, free_step, full_step, filling, after_index, returned}
use Rattle.transfer.specs.Inner.Machine.{mask_for, poll_point, moved_to}
use Rattle.transfer.specs.declared.Transfer.{Transfer}
use Rattle.std.specs.Prelude.{Ok, Err}
use Rattle.transfer.specs.declared.Caller.TheVariants as C
use Rattle.transfer.specs.declared.AbortPoint.TheVariants as A
use Rattle.transfer.specs.declared.FillPoint.TheVariants as F
use Rattle.transfer.specs.declared.Poll.TheVariants as O
use Rattle.transfer.specs.declared.Point.{Point}
use Rattle.transfer.specs.declared.Point.TheVariants.{Abort, WriteAsync}
use Rattle.i2c.proofs.Basics.{M, Agrees, reason_agrees, pend_agrees}
use Rattle.i2c.proofs.Bytes.{Held, held_head, held_end, held_last}
use Rattle.i2c.proofs.EndAsync.{Good, ending, ending_agrees}

module _ (coded : Bool) (kinds lengths bytes : List ℕ) (t : Transfer) (k : Unit {0} → Behaviour (Unit {0}) Answer) (top n : ℕ)
    (good : Good coded kinds lengths bytes t k top) where
  abbrev W : Machine
  W = M coded kinds lengths bytes

  abbrev Does : ℕ → Transfer → List ℕ → Behaviour (Unit {0}) Answer → Type 0
  Does = Agrees coded kinds lengths bytes

  -- the rounds after this one
  abbrev Back : ℕ → (List ℕ → Behaviour (Unit {0}) Answer) → Type 0
  Back m next = (m' : ℕ)
      → m' < m
      → (rest : List ℕ) (i : ℕ) (b : List ℕ)
      → Held bytes t rest i
      → Does m' (with_point t (WriteAsync (F.Free i))) b (next rest)

  -- the wait for a free place
  waits : (i : ℕ) (rest : List ℕ) (m : ℕ)
      → m ≤ top
      → m ≤ n
      → (b : List ℕ) (next : List ℕ → Behaviour (Unit {0}) Answer)
      → Held bytes t rest i
      → Back m next
      → Does m (with_point t (Abort A.Source (C.Space i))) b
      (wait_on tt (λ _. (space_poll reason_of)) (put TX_TL 1 >> modify INTR_MASK (λ w. set_m_tx_abrt (set_m_tx_empty w))) n
      (λ res. by_turn (go_on rest res) next (ending t k n)))
  unfolding tx_fifo_full tx_fifo_capacity next_at next_fill next_wait store_at step_of step_fill step_wait places
      full_step returned mask_for poll_point
  waits i rest m h l b next held back =
      loop_agree W n _ _ (λ x y. with_point t (Abort A.Source (C.Space i))) (λ (x : Unit {0}) (y : Unit {0}). Unit {0}) n m l
      (λ m₁ l₁ x y b u turn again. reason_agrees coded kinds lengths bytes t (C.Space i) m₁ n b _
      (λ m₂ l₂ p. reads_agree W m₂ refl (λ m₃ l₃ v. by_test (ltb 16 (level v))
      (λ q. rw q (ends_agree W m₃ refl))
      (λ q. rw q (by_test (eqb (16 - level v) 0)
      (λ z. rw z (writes_agree W m₃ refl
      (λ m₄ l₄. pend_agrees coded kinds lengths bytes t (O.Space i) m₄ b _
      (λ m₅ l₅. again m₅ (omega arith) tt tt b tt))))
      (λ z. rw z (back m₃ (omega arith) rest i b held))))))
      (λ m₂ l₂ p r. ending_agrees coded kinds lengths bytes t k top n good (Err r) m₂ (omega arith) (omega arith) p b)) tt tt b tt

  -- the free places are filled
  fills : (space : ℕ) (rest : List ℕ) (i m : ℕ)
      → m ≤ top
      → m ≤ n
      → (p : Point) (b : List ℕ) (next : List ℕ → Behaviour (Unit {0}) Answer)
      → Held bytes t rest i
      → Back m next
      → Does m (moved_to coded kinds lengths (with_point t p) (filling t.operation.len t.operation.send_stop i space)) b
      (fill t.operation.send_stop space rest n (λ f. wait_space reason_of f n (λ w. by_turn w next (ending t k n))))
  unfolding fill filling next_at next_fill fill_word store_at step_of step_fill after_index
  fills zero rest i m h l p b next held back = waits i rest m h l b next held back
  fills (suc space) [] i m h l p b next held back =
      let e : i ≡ t.operation.len = held_end bytes t i held in
      rw (ne_eqb (suc space) 0 (λ z. omega arith), le-ltb i t.operation.len (omega arith))
      (ending_agrees coded kinds lengths bytes t k top n good (Ok tt) m h l p b)
  fills (suc space) (byte ∷ rest) i m h l p b next held back =
      let c : (get_or bytes (t.operation.at + i) 0 ≡ byte) × (Held bytes t rest (i + 1) × (i < t.operation.len)) = held_head bytes t byte rest i held in
      let e : get_or bytes (t.operation.at + i) 0 ≡ byte = c.0 in
      let g : ltb i t.operation.len ≡ true = lt-ltb i t.operation.len c.1.1 in
      let z : suc space - 1 ≡ space = omega arith in
      rw (ne_eqb (suc space) 0 (λ z. omega arith), g)
      (writes_agree W m (rw (held_last bytes t byte rest i held, e))
      (λ m₁ l₁. rw (z, g) (fills space rest (i + 1) m₁ (omega arith) (omega arith)
      (WriteAsync (F.Fill i (suc space))) b next c.1.0 (λ m₂ l₂. back m₂ (omega arith)))))

module _ (coded : Bool) (kinds lengths bytes : List ℕ) where
  pub write_async_agrees : (t : Transfer) (k : Unit {0} → Behaviour (Unit {0}) Answer) (top n m : ℕ)
      → m ≤ top
      → m ≤ n
      → (ws : List ℕ)
      → Held bytes t ws 0
      → Good coded kinds lengths bytes t k top
      → (b : List ℕ)
      → Agrees coded kinds lengths bytes m (with_point t (WriteAsync (F.Free 0))) b (write_async_internal reason_of ws t.operation.send_stop n k)
  unfolding write_async_internal tx_fifo_capacity next_at next_fill store_at step_of step_fill places free_step
  write_async_agrees t k top n m h l ws held good b =
      loop_agree (M coded kinds lengths bytes) n _ _ (λ rest i. with_point t (WriteAsync (F.Free i))) (λ rest i. Held bytes t rest i) n m l
      (λ m₁ l₁ rest i b held next back. reads_agree (M coded kinds lengths bytes) m₁ refl (λ m₂ l₂ v. by_test (ltb 16 (level v))
      (λ q. rw q (ends_agree (M coded kinds lengths bytes) m₂ refl))
      (λ q. rw q (fills coded kinds lengths bytes t k top n good (16 - level v) rest i m₂ (omega arith) (omega arith)
      (WriteAsync (F.Free i)) b next held (λ m₃ l₃. back m₃ (omega arith))))))
      ws 0 b held
