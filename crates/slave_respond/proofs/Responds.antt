-- The machine's points of a response do what `respond_to_read` does, whatever follows it.
use Prim.Native.Nat.{ℕ, zero, suc, ◌+◌, ◌-◌, ◌<◌, ◌≤◌}
use native.Mathlib.Omega.{arith}
use native.Mathlib.Numerals.{add-one}
use mathlib.Core.Bool.{true, false, ◌&&◌}
use mathlib.Core.List.{List, ◌∷◌}
use mathlib.Core.Path.{◌≡◌, refl, sym, ap}
use lib.Dec.{eqb, ltb}
use lib.ListN.{length, get_or, take, drop, replicate, get_or-replicate, length-drop, drop_of_length-le}
use lib.Seq.{drop-cons, drop-drop, take_all}
use borrow.Author.Tests.{lt-ltb, le-ltb, ltb-true, ltb-false}
use Rattle.regs.proofs.Tests.{by_test}
use Rattle.regs.specs.Registers.{INTR_MASK, DATA_CMD}
use Rattle.regs.specs.Fields.{set_field, tx_empty, rd_req, tx_abrt, rx_done}
use Rattle.regs.specs.Program.{Behaviour, ends, put, by_turn, polled, pending, wait_on, Result, ok, err}
use Rattle.regs.specs.Steps.{Machine}
use Rattle.regs.specs.declared.answers.AbortReason.{AbortReason}
use Rattle.regs.specs.declared.answers.AbortReason.TheVariants as A
use Rattle.regs.specs.declared.answers.ReadStatus.{ReadStatus}
use Rattle.regs.specs.declared.answers.ReadStatus.TheVariants.{Done, NeedMoreBytes, LeftoverBytes}
use Rattle.regs.specs.declared.answers.Refusal.{Refusal}
use Rattle.regs.specs.declared.answers.Refusal.TheVariants.{Abort}
use Rattle.regs.specs.declared.answers.Answer.{Answer}
use Rattle.regs.specs.declared.answers.Answer.TheVariants.{Accepted, Responded}
use Rattle.regs.specs.declared.access.Next.TheVariants as N
use Rattle.regs.proofs.Refine.{Agree, ends_agree, reads_agree, writes_agree, marks_agree, loop_agree}
use Rattle.slave.specs.I2cSlave.{Driver, RespondedTo, FIFO_SIZE, is_empty, abort_reason, send_chunk}
use Rattle.slave.specs.I2cSlave.{respond_chunk, respond_abort, respond_poll, respond_mask, respond_to_read}
use Rattle.slave.specs.I2cSlave.{till_stop, respond_till_stop, and_fill, respond_and_fill, answer}
use Rattle.slave_respond.specs.Inner.Machine.{Responder, responder, machine, CHUNK, count_of, byte_at, response}
use Rattle.slave_respond.specs.Inner.Machine.{more_bytes, fed, after_reason}
use Rattle.slave.specs.declared.SlaveState.{SlaveState}
use Rattle.slave_respond.specs.declared.Job.{Job}
use Rattle.slave_respond.specs.declared.Job.TheVariants.{Respond, RespondThenFill, Fill, FillAfter}
use Rattle.slave_respond.specs.declared.RespondPoint.TheVariants as P
use Rattle.slave_respond.specs.declared.Response.{Response}

-- the code's mask is what the setters make of 0
mask_is : N.Write INTR_MASK 0xd0 ≡ N.Write INTR_MASK respond_mask
unfolding set_field
mask_is = refl

-- where a response that ended so leads
abbrev answered : Job → ReadStatus → Response
answered job Done = response job (P.Ended Done)
answered job NeedMoreBytes = more_bytes job
answered job (LeftoverBytes n) = response job (P.Ended (LeftoverBytes n))

-- a machine with these bytes, whose length stands in it: at every point for a response of the bytes, and any number for fill bytes alone
module _ (bytes : List ℕ) where
  abbrev M : Machine
  M = machine bytes

  -- what a job sends
  abbrev source_of : Job → List ℕ
  source_of Respond = bytes
  source_of (RespondThenFill f) = bytes
  source_of (Fill f) = replicate FIFO_SIZE f
  source_of (FillAfter f) = replicate FIFO_SIZE f

  byte_is : (job : Job) (i : ℕ) → i < length (source_of job) → byte_at job bytes i ≡ get_or (source_of job) i 0
  byte_is Respond i h = refl
  byte_is (RespondThenFill f) i h = refl
  byte_is (Fill f) i h = sym (get_or-replicate 16 i f 0 h)
  byte_is (FillAfter f) i h = sym (get_or-replicate 16 i f 0 h)

  module _ (job : Job) (size : ℕ) (count_is : count_of job size ≡ length (source_of job)) (me : SlaveState) (n : ℕ)
      (K : Result ReadStatus Refusal → Behaviour SlaveState Answer)
      (fails : (m : ℕ) (a : AbortReason) (b : List ℕ)
      → Agree M m (responder me size (response job (P.Aborted a))) b b me (K (err (Abort a))))
    where
      abbrev src : List ℕ
      src = source_of job

      -- where a poll starts: the bytes that are left are those from i on
      abbrev at : List ℕ → ℕ → Responder
      at rest i = responder me size (response job (P.RawIntrStat i))

      abbrev Holds : List ℕ → ℕ → Type 0
      Holds rest i = rest ≡ drop i src

      -- the polls after this one; and what follows a response that ended
      abbrev Back : ℕ → (List ℕ → Behaviour SlaveState Answer) → Type 0
      Back m t = (m' : ℕ) → m' < m → (rest : List ℕ) (i : ℕ) (b : List ℕ) → Holds rest i → Agree M m' (at rest i) b b me (t rest)

      abbrev Outs : ℕ → Type 0
      Outs m = (m' : ℕ) → m' ≤ m → (s : ReadStatus) (b : List ℕ) → Agree M m' (responder me size (answered job s)) b b me (K (ok s))

      abbrev after : (List ℕ → Behaviour SlaveState Answer) → RespondedTo → Behaviour SlaveState Answer
      after t r = polled (put INTR_MASK respond_mask) r n (λ w. by_turn w t K)

      pends : (m i : ℕ) (rest b : List ℕ) (t : List ℕ → Behaviour SlaveState Answer) → Holds rest i → Back m t
          → Agree M m (responder me size (response job (P.IntrMask i))) b b me (after t (pending rest))
      pends m i rest b t holds back =
          writes_agree M m mask_is (λ m₁ l₁. marks_agree M m₁ refl (λ m₂ l₂. back m₂ (omega arith) rest i b holds))

      -- byte i of a chunk that ends at e, with `more` bytes after it
      sends : (more m i e : ℕ) (chunk b : List ℕ) (t : Behaviour SlaveState Answer)
          → chunk ≡ take (suc more) (drop i src)
          → i + suc more ≡ e
          → e ≤ length src
          → ((m' : ℕ) → m' < m → Agree M m' (responder me size (response job (P.IntrMask e))) b b me t)
          → Agree M m (responder me size (response job (P.ClrRdReq i e))) b b me (send_chunk chunk n (λ _. t))
      unfolding send_chunk
      sends zero m i e chunk b t c h l out =
          let g : i < length src = omega arith in
          rw (c, drop-cons src i 0 g)
          (reads_agree M m refl (λ m₁ l₁ v.
          writes_agree M m₁ (ap (N.Write DATA_CMD) (byte_is job i g)) (λ m₂ l₂.
          rw (lt-ltb i e (omega arith), le-ltb (i + 1) e (omega arith)) (out m₂ (omega arith)))))
      sends (suc more) m i e chunk b t c h l out =
          let g : i < length src = omega arith in
          rw (c, drop-cons src i 0 g)
          (reads_agree M m refl (λ m₁ l₁ v.
          writes_agree M m₁ (ap (N.Write DATA_CMD) (byte_is job i g)) (λ m₂ l₂.
          rw (lt-ltb i e (omega arith), lt-ltb (i + 1) e (omega arith))
          (sends more m₂ (i + 1) e (take (suc more) (drop (suc i) src)) b t (rw add-one) (omega arith) l
          (λ m₃ l₃. out m₃ (omega arith))))))

      -- what a poll without an abort comes to
      feeds : (m stat i : ℕ) (rest b : List ℕ) (t : List ℕ → Behaviour SlaveState Answer) → Holds rest i → Back m t → Outs m
          → Agree M m (responder me size (fed job stat i (count_of job size))) b b me (respond_chunk stat rest n (after t))
      feeds m stat i rest b t holds back outs =
          rw count_is
          (by_test (ltb i (length src))
          (λ q.
          let g : i < length src = ltb-true i (length src) q in
          let some : is_empty rest ≡ false = rw (holds, drop-cons src i 0 g) in
          by_test (ltb (length src - i) CHUNK)
          (λ q₂.
          let s : length src - i < CHUNK = ltb-true (length src - i) CHUNK q₂ in
          let ln : length (drop i src) ≡ length src - i = length-drop i src in
          let more : suc (length src - i - 1) ≡ length src - i = omega arith in
          rw (q, q₂, some)
          (sends (length src - i - 1) m i (length src) _ b _
          (rw (
            holds,
            more,
            take_all 16 (drop i src) (omega arith),
            take_all (length src - i) (drop i src)
                (omega arith),
          )) (omega arith) (omega arith)
          (λ m₁ l₁. pends m₁ (length src) _ b t
          (rw (
            holds,
            drop-drop 16 i src,
            drop_of_length-le src {i = i + 16} (omega arith),
            drop_of_length-le src {i = length src} (omega arith),
          ))
          (λ m₂ l₂. back m₂ (omega arith)))))
          (λ q₂.
          let s : CHUNK ≤ length src - i = ltb-false (length src - i) CHUNK q₂ in
          rw (q, q₂, some)
          (sends 15 m i (i + CHUNK) _ b _ (ap (take 16) holds) refl (omega arith)
          (λ m₁ l₁. pends m₁ (i + CHUNK) _ b t (rw (holds, drop-drop 16 i src)) (λ m₂ l₂. back m₂ (omega arith))))))
          (λ q.
          let g : length src ≤ i = ltb-false i (length src) q in
          let none : is_empty rest ≡ true = rw (holds, drop_of_length-le src g) in
          rw (q, none)
          (by_test (rx_done stat)
          (λ q₁. rw q₁ (reads_agree M m refl (λ m₁ l₁ v. outs m₁ (omega arith) Done b)))
          (λ q₁. rw q₁ (by_test (rd_req stat && tx_empty stat)
          (λ q₂. rw q₂ (outs m (omega arith) NeedMoreBytes b))
          (λ q₂. rw q₂ (pends m i rest b t holds back)))))))

      aborts : (m : ℕ) (a : AbortReason) (b : List ℕ) (p : Driver RespondedTo) (t : List ℕ → Behaviour SlaveState Answer) → Outs m
          → Agree M m (responder me size (response job (after_reason a))) b b me (respond_abort (err a) p n (after t))
      aborts m A.NoAcknowledge b p t outs = fails m A.NoAcknowledge b
      aborts m A.ArbitrationLoss b p t outs = fails m A.ArbitrationLoss b
      aborts m (A.TxNotEmpty k) b p t outs = reads_agree M m refl (λ m₁ l₁ v. outs m₁ (omega arith) (LeftoverBytes k) b)
      aborts m (A.Other w) b p t outs = fails m (A.Other w) b
      aborts m (A.DataNotAcknowledged w) b p t outs = fails m (A.DataNotAcknowledged w) b

      -- one poll
      polls : (m i : ℕ) (rest b : List ℕ) (t : List ℕ → Behaviour SlaveState Answer)
          → Holds rest i
          → Back m t
          → ((m' : ℕ) → m' < m → Outs m')
          → Agree M m (at rest i) b b me (respond_poll rest n (after t))
      polls m i rest b t holds back outs =
          reads_agree M m refl (λ m₁ l₁ stat.
          by_test (tx_abrt stat)
          (λ q. rw q (reads_agree M m₁ refl (λ m₂ l₂ w.
          by_test (eqb w 0)
          (λ z. rw z (feeds m₂ stat i rest b t holds (λ m₃ l₃. back m₃ (omega arith)) (outs m₂ (omega arith))))
          (λ z. rw z (reads_agree M m₂ refl (λ m₃ l₃ v. aborts m₃ (abort_reason w) b _ t (outs m₃ (omega arith))))))))
          (λ q. rw q (feeds m₁ stat i rest b t holds (λ m₃ l₃. back m₃ (omega arith)) (outs m₁ l₁))))

      -- the wait of `respond_to_read`
      pub waits : (m : ℕ) (buffer b : List ℕ) → m ≤ n → buffer ≡ src → ((m' : ℕ) → m' < m → Outs m')
          → Agree M m (responder me size (response job (P.RawIntrStat 0))) b b me
          (wait_on buffer respond_poll (put INTR_MASK respond_mask) n K)
      waits m buffer b h e outs =
          loop_agree M n _ K at Holds n m h
          (λ m₁ l₁ rest i b₁ holds t back. polls m₁ i rest b₁ t holds back (λ m₂ l₂. outs m₂ (omega arith))) buffer 0 b e

  -- `respond_till_stop`, of a job that sends the fill byte again and again
  module _ (job : Job) (f size : ℕ) (count_is : count_of job size ≡ length (source_of job))
      (source : replicate FIFO_SIZE f ≡ source_of job)
      (once_more : more_bytes job ≡ response job (P.RawIntrStat 0)) (me : SlaveState) (n : ℕ)
      (K : Result (Unit {0}) Refusal → Behaviour SlaveState Answer)
      (fails : (m : ℕ) (a : AbortReason) (b : List ℕ)
      → Agree M m (responder me size (response job (P.Aborted a))) b b me (K (err (Abort a))))
      (is_done : (m : ℕ) (b : List ℕ) → Agree M m (responder me size (answered job Done)) b b me (K (ok tt)))
      (is_over : (m k : ℕ) (b : List ℕ) → Agree M m (responder me size (answered job (LeftoverBytes k))) b b me (K (ok tt))) where
    fills : (m : ℕ) (b : List ℕ) → m ≤ n → Agree M m (responder me size (response job (P.RawIntrStat 0))) b b me (respond_till_stop f n K)
    unfolding respond_till_stop respond_to_read
    fills m b h =
        loop_agree M n _ K (λ (x : Unit {0}) (y : Unit {0}). responder me size (response job (P.RawIntrStat 0))) (λ x y. Unit {0}) n m h
        (λ m₁ l₁ x y b₁ _ t back. waits job size count_is me n (λ r. by_turn (till_stop r) t K) fails m₁ _ b₁ (omega arith) source
        (λ m₂ l₂ m₃ l₃ s b₂. ends_so m₁ t (λ m₄ l₄ b₃. back m₄ l₄ tt tt b₃ tt) m₃ (omega arith) s b₂)) tt tt b tt
      where
        ends_so : (m₁ : ℕ) (t : Unit {0} → Behaviour SlaveState Answer)
            → ((m₄ : ℕ)
            → m₄ < m₁
            → (b₃ : List ℕ)
            → Agree M m₄ (responder me size (response job (P.RawIntrStat 0))) b₃ b₃ me (t tt))
            → (m₃ : ℕ)
            → m₃ < m₁
            → (s : ReadStatus) (b₂ : List ℕ)
            → Agree M m₃ (responder me size (answered job s)) b₂ b₂ me (by_turn (till_stop (ok s)) t K)
        ends_so m₁ t back m₃ l Done b₂ = is_done m₃ b₂
        ends_so m₁ t back m₃ l NeedMoreBytes b₂ = rw once_more (back m₃ l b₂)
        ends_so m₁ t back m₃ l (LeftoverBytes k) b₂ = is_over m₃ k b₂

-- ---- the Rust's functions, as the calls have them

pub responds : (x : ℕ) (xs : List ℕ) (me : SlaveState) (b : List ℕ) (m n : ℕ) → m ≤ n
    → Agree (machine (x ∷ xs)) m (responder me (length (x ∷ xs)) (response Respond (P.RawIntrStat 0))) b b me
    (respond_to_read (x ∷ xs) n (λ r. ends (answer Responded r)))
unfolding respond_to_read
responds x xs me b m n h =
    waits (x ∷ xs) Respond (length (x ∷ xs)) refl me n _ (λ m₁ a b₁. ends_agree (machine (x ∷ xs)) m₁ refl) m
    (x ∷ xs) b h refl (λ m₁ l₁ m₂ l₂ s b₁. status m₂ s b₁)
  where
    status : (m₂ : ℕ) (s : ReadStatus) (b₁ : List ℕ)
        → Agree (machine (x ∷ xs)) m₂ (responder me (length (x ∷ xs)) (answered Respond s)) b₁ b₁ me
        (ends (Responded s))
    status m₂ Done b₁ = ends_agree (machine (x ∷ xs)) m₂ refl
    status m₂ NeedMoreBytes b₁ = ends_agree (machine (x ∷ xs)) m₂ refl
    status m₂ (LeftoverBytes k) b₁ = ends_agree (machine (x ∷ xs)) m₂ refl

pub responds_till_stop : (bytes : List ℕ) (f : ℕ) (me : SlaveState) (b : List ℕ) (m n : ℕ) → m ≤ n
    → Agree (machine bytes) m (responder me 0 (response (Fill f) (P.RawIntrStat 0))) b b me
    (respond_till_stop f n (λ r. ends (answer (λ _. Accepted) r)))
responds_till_stop bytes f me b m n h =
    fills bytes (Fill f) f 0 refl refl refl me n _ (λ m₁ a b₁. ends_agree (machine bytes) m₁ refl)
    (λ m₁ b₁. ends_agree (machine bytes) m₁ refl) (λ m₁ k b₁. ends_agree (machine bytes) m₁ refl) m b h

pub responds_and_fills : (x : ℕ) (xs : List ℕ) (f : ℕ) (me : SlaveState) (b : List ℕ) (m n : ℕ) → m ≤ n
    → Agree (machine (x ∷ xs)) m (responder me (length (x ∷ xs)) (response (RespondThenFill f) (P.RawIntrStat 0))) b
    b me (respond_and_fill (x ∷ xs) f n (λ r. ends (answer Responded r)))
unfolding respond_to_read respond_and_fill
responds_and_fills x xs f me b m n h =
    waits (x ∷ xs) (RespondThenFill f) (length (x ∷ xs)) refl me n _ (λ m₁ a b₁. ends_agree (machine (x ∷ xs)) m₁ refl) m (x ∷ xs) b h refl
    (λ m₁ l₁ m₂ l₂ s b₁. goes_on m₂ (omega arith) s b₁)
  where
    goes_on : (m₂ : ℕ) → m₂ ≤ n → (s : ReadStatus) (b₁ : List ℕ)
        → Agree (machine (x ∷ xs)) m₂ (responder me (length (x ∷ xs)) (answered (RespondThenFill f) s)) b₁ b₁ me
        (and_fill f (ok s) n (λ r. ends (answer Responded r)))
    goes_on m₂ l Done b₁ = ends_agree (machine (x ∷ xs)) m₂ refl
    goes_on m₂ l (LeftoverBytes k) b₁ = ends_agree (machine (x ∷ xs)) m₂ refl
    goes_on m₂ l NeedMoreBytes b₁ =
        fills (x ∷ xs) (FillAfter f) f (length (x ∷ xs)) refl refl refl me n _ (λ m₃ a b₂. ends_agree (machine (x ∷ xs)) m₃ refl)
        (λ m₃ b₂. ends_agree (machine (x ∷ xs)) m₃ refl) (λ m₃ k b₂. ends_agree (machine (x ∷ xs)) m₃ refl) m₂ b₁ l
