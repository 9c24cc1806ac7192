-- Along `respond_to_read`: a claim P about an outcome, of the abort source that was
-- read last, the chunk that the poll is in and the bytes left after it, that holds
-- where a run stops and that each access of a poll keeps, holds of the whole wait.
use Prim.Native.Nat.{ℕ, zero, suc}
use mathlib.Core.Bool.{false, ◌&&◌}
use mathlib.Core.List.{List, [], ◌∷◌}
use mathlib.Core.Path.{◌≡◌, refl}
use mathlib.Core.Logic.{◌⊎◌, inl, inr}
use lib.Dec.{eqb}
use lib.ListN.{take, drop}
use Rattle.regs.proofs.Tests.{by_test}
use Rattle.regs.specs.Registers.{DATA_CMD, INTR_MASK, TX_ABRT_SOURCE, CLR_RX_DONE, CLR_INTR}
use Rattle.regs.specs.Fields.{tx_empty, rd_req, tx_abrt, rx_done}
use Rattle.regs.specs.Program.{Behaviour, reads, writes, marks, cut, rounds, put, by_turn, polled, pending}
use Rattle.regs.specs.Program.{wait_on, Result, ok, err, Outcome, outcome, just, logged, PENDING}
use Rattle.regs.specs.declared.access.Entry.TheVariants as E
use Rattle.regs.specs.declared.answers.AbortReason.{AbortReason}
use Rattle.regs.specs.declared.answers.AbortReason.TheVariants as A
use Rattle.regs.specs.declared.answers.Answer.{Answer}
use Rattle.regs.specs.declared.answers.ReadStatus.{ReadStatus}
use Rattle.regs.specs.declared.answers.ReadStatus.TheVariants.{Done, NeedMoreBytes, LeftoverBytes}
use Rattle.regs.specs.declared.answers.Refusal.{Refusal}
use Rattle.regs.specs.declared.answers.Reply.{Reply}
use Rattle.regs.specs.declared.answers.Reply.TheVariants.{LogFull, OutOfReadings}
use Rattle.slave.specs.I2cSlave.{Driver, FIFO_SIZE, RespondedTo, abort_reason, send_chunk, respond_chunk}
use Rattle.slave.specs.I2cSlave.{respond_abort, respond_poll, respond_mask}
use Rattle.slave.specs.declared.SlaveState.{SlaveState}
use Rattle.slave.proofs.Basics.{Out}

abbrev pub Claim : Type 1
Claim = ℕ → List ℕ → List ℕ → Outcome SlaveState Reply → Type 0

-- what P has to be
pub record Kept (P : Claim) : Type 0 where
  pub stopped : (w : ℕ) (c q : List ℕ) (r : Reply) (b : List ℕ) (z : SlaveState)
      → (r ≡ LogFull) ⊎ (r ≡ OutOfReadings)
      → P w c q (just r b z)
  pub read : (w : ℕ) (c q : List ℕ) (r v : ℕ) (o : Outcome SlaveState Reply)
      → eqb r TX_ABRT_SOURCE ≡ false
      → P w c q o
      → P w c q (logged (E.Read r v) o)
  pub source : (w : ℕ) (c q : List ℕ) (v : ℕ) (o : Outcome SlaveState Reply) → P v c q o → P w c q (logged (E.Read TX_ABRT_SOURCE v) o)
  pub masked : (w : ℕ) (q : List ℕ) (v : ℕ) (o : Outcome SlaveState Reply) → P w [] q o → P w [] q (logged (E.Write INTR_MASK v) o)
  pub marked : (w : ℕ) (q : List ℕ) (o : Outcome SlaveState Reply)
      → P w (take FIFO_SIZE q) (drop FIFO_SIZE q) o
      → P w [] q (logged (E.Marked PENDING) o)
  pub sent : (w v : ℕ) (c q : List ℕ) (o : Outcome SlaveState Reply) → P w c q o → P w (v ∷ c) q (logged (E.Write DATA_CMD v) o)

-- how a result comes: a status with all bytes sent, LeftoverBytes of the source that was read last, an error
pub data Came : ℕ → List ℕ → List ℕ → Result ReadStatus Refusal → Type 0 where
  came_done : {w : ℕ} → Came w [] [] (ok Done)
  came_more : {w : ℕ} → Came w [] [] (ok NeedMoreBytes)
  came_leftover : {w : ℕ} {c q : List ℕ} {k : ℕ} → abort_reason w ≡ A.TxNotEmpty k → Came w c q (ok (LeftoverBytes k))
  came_error : {w : ℕ} {c q : List ℕ} {e : Refusal} → Came w c q (err e)

-- the access that clears what a result rests on, before what follows the result
abbrev pub cleared : Result ReadStatus Refusal → Behaviour SlaveState Answer → Behaviour SlaveState Answer
cleared (ok Done) t = reads CLR_RX_DONE (λ _. t)
cleared (ok NeedMoreBytes) t = t
cleared (ok (LeftoverBytes k)) t = reads CLR_INTR (λ _. t)
cleared (err e) t = t

module _ (P : Claim) (kept : Kept P) where
  -- of a behaviour, whatever room, readings, buffer and state there are
  pub record All (w : ℕ) (c q : List ℕ) (t : Behaviour SlaveState Answer) : Type 0 where
    pub holds : (room : ℕ) (rs b : List ℕ) (z : SlaveState) → P w c q (Out t room rs b z)

  pub reads_all : {w : ℕ} {c q : List ℕ} {r : ℕ} {f : ℕ → Behaviour SlaveState Answer}
      → eqb r TX_ABRT_SOURCE ≡ false
      → ((v : ℕ) → All w c q (f v))
      → All w c q (reads r f)
  unfolding outcome
  reads_all {w} {c} {q} {r} {f} e h = record { holds = go }
    where
      go : (room : ℕ) (rs b : List ℕ) (z : SlaveState) → P w c q (Out (reads r f) room rs b z)
      go zero rs b z = kept.stopped w c q LogFull b z (inl refl)
      go (suc room) [] b z = kept.stopped w c q OutOfReadings b z (inr refl)
      go (suc room) (v ∷ rs) b z = kept.read w c q r v _ e ((h v).holds room rs b z)

  source_all : {w : ℕ} {c q : List ℕ} {f : ℕ → Behaviour SlaveState Answer}
      → ((v : ℕ) → All v c q (f v))
      → All w c q (reads TX_ABRT_SOURCE f)
  unfolding outcome
  source_all {w} {c} {q} {f} h = record { holds = go }
    where
      go : (room : ℕ) (rs b : List ℕ) (z : SlaveState) → P w c q (Out (reads TX_ABRT_SOURCE f) room rs b z)
      go zero rs b z = kept.stopped w c q LogFull b z (inl refl)
      go (suc room) [] b z = kept.stopped w c q OutOfReadings b z (inr refl)
      go (suc room) (v ∷ rs) b z = kept.source w c q v _ ((h v).holds room rs b z)

  masks_all : {w : ℕ} {q : List ℕ} {v : ℕ} {t : Behaviour SlaveState Answer} → All w [] q t → All w [] q (writes INTR_MASK v t)
  unfolding outcome
  masks_all {w} {q} {v} {t} h = record { holds = go }
    where
      go : (room : ℕ) (rs b : List ℕ) (z : SlaveState) → P w [] q (Out (writes INTR_MASK v t) room rs b z)
      go zero rs b z = kept.stopped w [] q LogFull b z (inl refl)
      go (suc room) rs b z = kept.masked w q v _ (h.holds room rs b z)

  marks_all : {w : ℕ} {q : List ℕ} {t : Behaviour SlaveState Answer}
      → All w (take FIFO_SIZE q) (drop FIFO_SIZE q) t
      → All w [] q (marks PENDING t)
  unfolding outcome
  marks_all {w} {q} {t} h = record { holds = go }
    where
      go : (room : ℕ) (rs b : List ℕ) (z : SlaveState) → P w [] q (Out (marks PENDING t) room rs b z)
      go zero rs b z = kept.stopped w [] q LogFull b z (inl refl)
      go (suc room) rs b z = kept.marked w q _ (h.holds room rs b z)

  sends_all : {w v : ℕ} {c q : List ℕ} {t : Behaviour SlaveState Answer} → All w c q t → All w (v ∷ c) q (writes DATA_CMD v t)
  unfolding outcome
  sends_all {w} {v} {c} {q} {t} h = record { holds = go }
    where
      go : (room : ℕ) (rs b : List ℕ) (z : SlaveState) → P w (v ∷ c) q (Out (writes DATA_CMD v t) room rs b z)
      go zero rs b z = kept.stopped w (v ∷ c) q LogFull b z (inl refl)
      go (suc room) rs b z = kept.sent w v c q _ (h.holds room rs b z)

  pub cut_all : {w : ℕ} {c q : List ℕ} → All w c q cut
  unfolding outcome
  cut_all {w} {c} {q} = record { holds = λ room rs b z. kept.stopped w c q LogFull b z (inl refl) }

  pub cleared_all : {w : ℕ} {c q : List ℕ} {t : Behaviour SlaveState Answer} (r : Result ReadStatus Refusal)
      → All w c q t
      → All w c q (cleared r t)
  cleared_all (ok Done) h = reads_all refl (λ _. h)
  cleared_all (ok NeedMoreBytes) h = h
  cleared_all (ok (LeftoverBytes k)) h = reads_all refl (λ _. h)
  cleared_all (err e) h = h

  -- what follows `respond_to_read`, for each result
  module _ (n : ℕ) (K : Result ReadStatus Refusal → Behaviour SlaveState Answer)
      (on : (w : ℕ) (c q : List ℕ) (r : Result ReadStatus Refusal) → Came w c q r → All w c q (cleared r (K r))) where
    abbrev Back : (List ℕ → Behaviour SlaveState Answer) → Type 0
    Back t = (w : ℕ) (q : List ℕ) → All w (take FIFO_SIZE q) (drop FIFO_SIZE q) (t q)

    abbrev after : (List ℕ → Behaviour SlaveState Answer) → RespondedTo → Behaviour SlaveState Answer
    after t r = polled (put INTR_MASK respond_mask) r n (λ w. by_turn w t K)

    pends : (w : ℕ) (q : List ℕ) (t : List ℕ → Behaviour SlaveState Answer) → Back t → All w [] q (after t (pending q))
    pends w q t back = masks_all (marks_all (back w q))

    chunk : (w : ℕ) (c q : List ℕ) (t : Behaviour SlaveState Answer) → All w [] q t → All w c q (send_chunk c n (λ _. t))
    unfolding send_chunk
    chunk w [] q t h = h
    chunk w (v ∷ c) q t h = reads_all refl (λ _. sends_all (chunk w c q t h))

    feeds : (w stat : ℕ) (q : List ℕ) (t : List ℕ → Behaviour SlaveState Answer)
        → Back t
        → All w (take FIFO_SIZE q) (drop FIFO_SIZE q) (respond_chunk stat q n (after t))
    feeds w stat [] t back =
        by_test (rx_done stat)
        (λ e. rw e (on w [] [] _ came_done))
        (λ e. rw e (by_test (rd_req stat && tx_empty stat) (λ e. rw e (on w [] [] _ came_more)) (λ e. rw e (pends w [] t back))))
    feeds w stat (x ∷ xs) t back = chunk w (take FIFO_SIZE (x ∷ xs)) (drop FIFO_SIZE (x ∷ xs)) _ (pends w (drop FIFO_SIZE (x ∷ xs)) t back)

    aborts : (w : ℕ) (c q : List ℕ) (a : AbortReason) (p : Driver RespondedTo)
        (t : List ℕ → Behaviour SlaveState Answer)
        → abort_reason w ≡ a
        → All w c q (respond_abort (err a) p n (after t))
    aborts w c q A.NoAcknowledge p t e = on w c q _ came_error
    aborts w c q A.ArbitrationLoss p t e = on w c q _ came_error
    aborts w c q (A.TxNotEmpty k) p t e = on w c q _ (came_leftover e)
    aborts w c q (A.Other u) p t e = on w c q _ came_error
    aborts w c q (A.DataNotAcknowledged u) p t e = on w c q _ came_error

    polls : (w : ℕ) (q : List ℕ) (t : List ℕ → Behaviour SlaveState Answer)
        → Back t
        → All w (take FIFO_SIZE q) (drop FIFO_SIZE q) (respond_poll q n (after t))
    polls w q t back =
        reads_all refl (λ stat.
        by_test (tx_abrt stat)
        (λ e. rw e (source_all (λ u.
        by_test (eqb u 0)
        (λ z. rw z (feeds u stat q t back))
        (λ z. rw z (reads_all refl (λ v. aborts u (take FIFO_SIZE q) (drop FIFO_SIZE q) (abort_reason u) (respond_chunk stat q) t refl))))))
        (λ e. rw e (feeds w stat q t back)))

    turns : (left : ℕ) → Back (λ q. rounds left n (λ y n₁ k. respond_poll y n₁ (λ r. polled (put INTR_MASK respond_mask) r n₁ k)) q K)
    unfolding rounds
    turns zero w q = cut_all
    turns (suc left) w q = polls w q _ (turns left)

    pub waits : (w : ℕ) (q : List ℕ) → All w (take FIFO_SIZE q) (drop FIFO_SIZE q) (wait_on q respond_poll (put INTR_MASK respond_mask) n K)
    waits w q = turns n w q
