-- What the functions share: `setup`, `read_and_clear_abort_reason`, the end of a poll in `wait_on`, and `wait_stop_det`.
use Prim.Native.Nat.{ℕ, ◌+◌, ◌%◌, ◌^◌, ◌<◌, ◌≤◌}
use native.Mathlib.Omega.{arith}
use mathlib.Core.Bool.{Bool, true, false, ◌&&◌, true≢false}
use mathlib.Core.List.{List}
use mathlib.Core.Path.{◌≡◌, refl, sym}
use lib.Dec.{eqb, ltb}
use Rattle.regs.proofs.Tests.{by_test}
use Rattle.regs.specs.Program.{Behaviour, ends, reads, writes, marks, ok, err, by_turn, Poll}
use Rattle.std.specs.Prelude.{if◌then◌else◌}
use Rattle.regs.specs.Program.{pending, ready, polled, wait_on, return, modify}
use Rattle.regs.specs.Registers.{INTR_MASK, RAW_INTR_STAT, CLR_STOP_DET}
use Rattle.regs.specs.Fields.{stop_det, set_m_stop_det, set_m_tx_abrt}
use Rattle.regs.specs.Steps.{Machine}
use Rattle.regs.specs.declared.answers.AbortReason.{AbortReason}
use Rattle.regs.specs.declared.answers.Answer.{Answer}
use Rattle.regs.specs.declared.answers.Answer.TheVariants.{Refused}
use Rattle.regs.specs.declared.answers.Refusal.TheVariants as X
use Rattle.regs.proofs.Refine.{Agree, ends_agree, reads_agree, writes_agree, marks_agree, loop_agree}
use Rattle.master.specs.Driver.{Driver, Tried, reason_of, setup, read_and_clear_abort_reason}
use Rattle.master.specs.Async.{both, stop_poll, wait_stop_det}
use Rattle.transfer.specs.Inner.Points.{with_point}
use Rattle.transfer.specs.Inner.Machine.{machine, next_at, next_setup, next_abort, next_wait, next_stop, store_at}
use Rattle.transfer.specs.Inner.Machine.{step_of, step_setup, step_abort, step_wait, step_stop, returned, stop_returned}
use Rattle.transfer.specs.Inner.Machine.{wait_stop, try_step, mask_for, poll_point, moved_to, begun}
use Rattle.transfer.specs.declared.Transfer.{Transfer}
use Rattle.transfer.specs.Inner.Points as T
use Rattle.std.specs.Prelude.{Ok, Err}
use Rattle.transfer.specs.declared.Caller.{Caller}
use Rattle.transfer.specs.declared.Caller.TheVariants as C
use Rattle.transfer.specs.declared.AbortPoint.TheVariants as A
use Rattle.transfer.specs.declared.Poll as P
use Rattle.transfer.specs.declared.Poll.TheVariants as O
use Rattle.transfer.specs.declared.WaitPoint.TheVariants as W
use Rattle.transfer.specs.declared.StopPoint.TheVariants as S
use Rattle.transfer.specs.declared.SetupPoint.TheVariants.{Disable, Enable}
use Rattle.transfer.specs.declared.Point.{Point}
use Rattle.transfer.specs.declared.Point.TheVariants.{Setup, Abort, Wait, Stop, Finished}

-- what a test of two says of each
pub first : (a b : Bool) → (a && b) ≡ true → a ≡ true
first true b e = refl
first false b e = absurd (true≢false (sym e))

pub second : (a b : Bool) → (a && b) ≡ true → b ≡ true
second true b e = e
second false b e = absurd (true≢false (sym e))

-- the most bytes of one direction: the limit of a call, and one more where a packet error code goes with them
abbrev pub MOST : ℕ
MOST = 4097

-- a place within them does not wrap
pub sum_is : (a n : ℕ) → a + n ≤ MOST → (a + n) % 2 ^ 64 ≡ a + n
sum_is a n h = omega arith

-- what the machine knows of an abort, as the Rust's value
abbrev pub as_tried : T.Tried → Tried (Unit {0})
as_tried (Ok u) = ok u
as_tried (Err r) = err r

module _ (coded : Bool) (kinds lengths bytes : List ℕ) where
  abbrev pub M : Machine
  M = machine coded kinds lengths bytes

  -- the transfer t at a point, and where a step leads from there
  abbrev pub Agrees : ℕ → Transfer → List ℕ → Behaviour (Unit {0}) Answer → Type 0
  Agrees m t b p = Agree M m t b b tt p

  -- an abort that nobody catches
  pub fails : (t : Transfer) (m : ℕ) (b : List ℕ) (r : AbortReason)
      → Agrees m (with_point t (Finished (Refused (X.Abort r)))) b (ends (Refused (X.Abort r)))
  unfolding next_at
  fails t m b r = ends_agree M m refl

  -- fn setup, where the address is in range
  pub setup_agrees : (t : Transfer) (m n : ℕ) (b : List ℕ) (k : Unit {0} → Behaviour (Unit {0}) Answer) → ltb t.address 0x80 ≡ true
      → ((m' : ℕ) → m' < m → (p : Point) → Agrees m' (begun coded kinds lengths (with_point t p)) b (k tt))
      → Agrees m (with_point t (Setup Disable)) b (setup t.address n k)
  unfolding setup next_at next_setup step_of step_setup store_at
  setup_agrees t m n b k q next =
      rw q (writes_agree M m refl
      (λ m₁ l₁. writes_agree M m₁ refl
      (λ m₂ l₂. writes_agree M m₂ refl (λ m₃ l₃. next m₃ (omega arith) (Setup Enable)))))

  -- fn read_and_clear_abort_reason, called from any place
  pub reason_agrees : (t : Transfer) (caller : Caller) (m n : ℕ) (b : List ℕ) (k : Tried (Unit {0}) → Behaviour (Unit {0}) Answer)
      → ((m' : ℕ)
      → m' < m
      → (p : Point)
      → Agrees m' (moved_to coded kinds lengths (with_point t p) (returned t.operation.len t.operation.send_stop caller (Ok tt))) b
      (k (ok tt)))
      → ((m' : ℕ)
      → m' < m
      → (p : Point) (r : AbortReason)
      → Agrees m'
      (moved_to coded kinds lengths (with_point t p) (returned t.operation.len t.operation.send_stop caller (Err r))) b
      (k (err r)))
      → Agrees m (with_point t (Abort A.Source caller)) b ((read_and_clear_abort_reason reason_of) n k)
  unfolding read_and_clear_abort_reason next_at next_abort step_of step_abort store_at
  reason_agrees t caller m n b k fine failed =
      reads_agree M m refl (λ m₁ l₁ v. by_test (eqb v 0)
      (λ q. rw q (fine m₁ l₁ (Abort A.Source caller)))
      (λ q. rw q (reads_agree M m₁ refl (λ m₂ l₂ w. failed m₂ (omega arith) (Abort (A.Clear v) caller) (reason_of v)))))

  -- the end of a poll in `wait_on` that is not ready: the mask is changed, a pending mark is made, and the poll begins again
  pub pend_agrees : (t : Transfer) (poll : P.Poll) (m : ℕ) (b : List ℕ) (rest : Behaviour (Unit {0}) Answer)
      → ((m' : ℕ) → m' < m → Agrees m' (with_point t (poll_point poll)) b rest)
      → Agrees m (with_point t (Wait (W.Mask poll))) b (reads INTR_MASK (λ w. writes INTR_MASK (mask_for poll w) (marks 0 rest)))
  unfolding next_at next_wait step_of step_wait store_at
  pend_agrees t poll m b rest back =
      reads_agree M m refl (λ m₁ l₁ v. writes_agree M m₁ refl (λ m₂ l₂. marks_agree M m₂ refl (λ m₃ l₃. back m₃ (omega arith))))

  -- fn wait_stop_det: what follows an abort, and what follows none
  module _ (t : Transfer) (k : Tried (Unit {0}) → Behaviour (Unit {0}) Answer) (top n : ℕ)
      (good : (m : ℕ) → m ≤ top → (p : Point) (b : List ℕ) → Agrees m (begun coded kinds lengths (with_point t p)) b (k (ok tt)))
      (bad : (m : ℕ)
      → m ≤ top
      → (b : List ℕ) (r : AbortReason)
      → Agrees m (with_point t (Finished (Refused (X.Abort r)))) b (k (err r)))
    where
      -- STOP_DET is cleared
      cleared : (r : T.Tried) (m : ℕ)
          → m ≤ top
          → (b : List ℕ)
          → Agrees m (with_point t (Stop (S.Clear r))) b (reads CLR_STOP_DET (λ v. k (as_tried r)))
      unfolding next_at next_stop step_of step_stop store_at try_step
      cleared (Ok tt) m h b = reads_agree M m refl (λ m₁ l₁ v. good m₁ (omega arith) (Stop (S.Clear (Ok tt))) b)
      cleared (Err r) m h b = reads_agree M m refl (λ m₁ l₁ v. bad m₁ (omega arith) b r)

      -- the polls, from the abort's source on
      polling : (had : T.Tried) (m : ℕ) → m ≤ top → m ≤ n → (b : List ℕ)
          → Agrees m (with_point t (Abort A.Source (C.Stop had))) b
          (wait_on tt (λ _. stop_poll reason_of (as_tried had)) (modify INTR_MASK (λ w. set_m_tx_abrt (set_m_stop_det w))) n
          (λ second. reads CLR_STOP_DET (λ v. k (both (as_tried had) second))))
      unfolding next_at next_stop step_of step_stop store_at returned stop_returned mask_for poll_point
      polling (Ok tt) m h l b =
          loop_agree M n _ _ (λ x y. with_point t (Abort A.Source (C.Stop (Ok tt)))) (λ (x : Unit {0}) (y : Unit {0}). Unit {0}) n m l
          (λ m₁ l₁ x y b i rest back. reason_agrees t (C.Stop (Ok tt)) m₁ n b _
          (λ m₂ l₂ p. reads_agree M m₂ refl (λ m₃ l₃ v. by_test (stop_det v)
          (λ q. rw q (cleared (Ok tt) m₃ (omega arith) b))
          (λ q. rw q (pend_agrees t (O.Stop (Ok tt)) m₃ b _ (λ m₄ l₄. back m₄ (omega arith) tt tt b tt)))))
          (λ m₂ l₂ p r. cleared (Err r) m₂ (omega arith) b)) tt tt b tt
      polling (Err r) m h l b =
          loop_agree M n _ _ (λ x y. with_point t (Abort A.Source (C.Stop (Err r)))) (λ (x : Unit {0}) (y : Unit {0}). Unit {0}) n m l
          (λ m₁ l₁ x y b i rest back.
          let status : (m₂ : ℕ) → m₂ < m₁ → Agrees m₂ (with_point t (Stop (S.Stat (Err r)))) b
          (reads RAW_INTR_STAT (λ s. (if◌then◌else◌ {A = Driver (Poll (Unit {0}) (Tried (Unit {0})))} (stop_det s)
          (return (ready (ok tt))) (return (pending tt)))
          n (λ w. polled (modify INTR_MASK (λ w. set_m_tx_abrt (set_m_stop_det w))) w n
          (λ w. by_turn w rest (λ second. reads CLR_STOP_DET (λ v. k (both (err r) second)))))))
          = λ m₂ l₂. reads_agree M m₂ refl (λ m₃ l₃ v. by_test (stop_det v)
          (λ q. rw q (cleared (Err r) m₃ (omega arith) b))
          (λ q. rw q (pend_agrees t (O.Stop (Err r)) m₃ b _ (λ m₄ l₄. back m₄ (omega arith) tt tt b tt)))) in
          reason_agrees t (C.Stop (Err r)) m₁ n b _ (λ m₂ l₂ p. status m₂ l₂) (λ m₂ l₂ p s. status m₂ l₂)) tt tt b tt

      wanted : (stop : Bool) (m : ℕ)
          → m ≤ top
          → m ≤ n
          → (p : Point) (b : List ℕ)
          → Agrees m (moved_to coded kinds lengths (with_point t p) (wait_stop stop (Ok tt))) b
          (wait_stop_det reason_of (ok tt) stop n k)
      unfolding wait_stop wait_stop_det
      wanted true m h l p b = polling (Ok tt) m h l b
      wanted false m h l p b = good m h p b

      pub stops_agree : (had : T.Tried) (m : ℕ) → m ≤ top → m ≤ n → (p : Point) (b : List ℕ)
          → Agrees m (moved_to coded kinds lengths (with_point t p) (wait_stop t.operation.send_stop had)) b
          (wait_stop_det reason_of (as_tried had) t.operation.send_stop n k)
      unfolding wait_stop wait_stop_det
      stops_agree (Ok tt) m h l p b = wanted t.operation.send_stop m h l p b
      stops_agree (Err r) m h l p b = polling (Err r) m h l b
