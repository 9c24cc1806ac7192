-- A claim that `Waits` takes along `respond_to_read` holds of the calls that answer with it.
use Prim.Native.Nat.{ℕ, zero, suc}
use native.Mathlib.Omega.{arith}
use mathlib.Core.Bool.{false}
use mathlib.Core.List.{List, [], ◌∷◌}
use mathlib.Core.Path.{◌≡◌, refl}
use lib.Dec.{ltb}
use lib.ListN.{length, take, drop}
use Rattle.regs.proofs.Tests.{by_test}
use Rattle.regs.specs.Program.{Behaviour, ends, outcome, just, Result, ok, err, Turn, again, done, rounds, by_turn}
use Rattle.regs.specs.declared.answers.AbortReason.TheVariants.{TxNotEmpty}
use Rattle.regs.specs.declared.answers.Answer.{Answer}
use Rattle.regs.specs.declared.answers.Answer.TheVariants.{Accepted, Responded, Refused}
use Rattle.regs.specs.declared.answers.ReadStatus.{ReadStatus}
use Rattle.regs.specs.declared.answers.ReadStatus.TheVariants.{Done, NeedMoreBytes, LeftoverBytes}
use Rattle.regs.specs.declared.answers.Refusal.{Refusal}
use Rattle.regs.specs.declared.answers.Reply.TheVariants.{Answered}
use Rattle.slave.specs.I2cSlave.{FIFO_SIZE, abort_reason, answer, respond_to_read, till_stop, fill_bytes}
use Rattle.slave.specs.I2cSlave.{respond_till_stop, filled, and_fill, respond_and_fill, respond_to_read_call}
use Rattle.slave.specs.I2cSlave.{respond_till_stop_call, respond_and_fill_call}
use Rattle.slave.specs.declared.SlaveState.{SlaveState}
use Rattle.slave.proofs.Waits.{Claim, Kept, Came, cleared, All, cut_all, cleared_all, waits}
use Rattle.slave.proofs.Waits.Came.{came_done, came_more, came_leftover, came_error}

-- the answers that P holds of: a status with all bytes sent, LeftoverBytes of the source that was read last, a refusal
pub record Ends (P : Claim) : Type 0 where
  pub done : (w : ℕ) (b : List ℕ) (z : SlaveState) → P w [] [] (just (Answered (Responded Done)) b z)
  pub more : (w : ℕ) (b : List ℕ) (z : SlaveState) → P w [] [] (just (Answered (Responded NeedMoreBytes)) b z)
  pub leftover : (w : ℕ) (c q : List ℕ) (k : ℕ)
      → abort_reason w ≡ TxNotEmpty k
      → (b : List ℕ) (z : SlaveState)
      → P w c q (just (Answered (Responded (LeftoverBytes k))) b z)
  pub refused : (w : ℕ) (c q : List ℕ) (why : Refusal) (b : List ℕ) (z : SlaveState) → P w c q (just (Answered (Refused why)) b z)

-- a result that a response tells as it is, also where fill bytes may follow
abbrev pub Told : Result ReadStatus Refusal → Type 0
Told (ok NeedMoreBytes) = ⊥
Told (ok Done) = Unit {0}
Told (ok (LeftoverBytes k)) = Unit {0}
Told (err e) = Unit {0}

-- the bytes that the call is given are the first that it sends
bytes_first : (bytes : List ℕ) (f n : ℕ)
    → ltb 4096 (length bytes) ≡ false
    → respond_and_fill_call bytes f n ends ≡ respond_and_fill bytes f n (λ r. ends (answer Responded r))
unfolding respond_and_fill_call
bytes_first bytes f n e = rw e refl

module _ (P : Claim) (kept : Kept P) where
  pub ended : {w : ℕ} {c q : List ℕ} {a : Answer}
      → ((b : List ℕ) (z : SlaveState) → P w c q (just (Answered a) b z))
      → All P kept w c q (ends a)
  unfolding outcome
  ended h = record { holds = λ room rs b z. h b z }

  pub told : (on : Ends P) (w : ℕ) (c q : List ℕ) (r : Result ReadStatus Refusal)
      → Came w c q r
      → All P kept w c q (cleared r (ends (answer Responded r)))
  told on w _ _ _ came_done = cleared_all P kept (ok Done) (ended (on.done w))
  told on w _ _ _ came_more = ended (on.more w)
  told on w c q (ok (LeftoverBytes k)) (came_leftover e) = cleared_all P kept (ok (LeftoverBytes k)) (ended (on.leftover w c q k e))
  told on w c q (err why) came_error = ended (on.refused w c q why)

  pub responded : (on : Ends P) (bytes : List ℕ) (n : ℕ)
      → All P kept 0 (take FIFO_SIZE bytes) (drop FIFO_SIZE bytes) (respond_to_read_call bytes n ends)
  unfolding respond_to_read_call respond_to_read
  responded on [] n = ended (on.refused 0 [] [] _)
  responded on (x ∷ xs) n =
      by_test (ltb 4096 (length (x ∷ xs)))
      (λ e. rw e (ended (on.refused 0 _ _ _)))
      (λ e. rw e (waits P kept n _ (told on) 0 (x ∷ xs)))

  abbrev pub Again : ℕ → Type 0
  Again f = (w : ℕ) (t : Behaviour SlaveState Answer)
      → All P kept w (take FIFO_SIZE (fill_bytes f)) (drop FIFO_SIZE (fill_bytes f)) t
      → All P kept w [] [] t

  -- P of what follows a fill that ends with x, whatever result it ends at
  abbrev pub AtEnd : (Result (Unit {0}) Refusal → Behaviour SlaveState Answer) → Type 0
  AtEnd K = (w : ℕ) (c q : List ℕ) (r : Result ReadStatus Refusal) (x : Result (Unit {0}) Refusal)
      → Came w c q r
      → till_stop r ≡ done x
      → All P kept w c q (cleared r (K x))

  -- a fill goes on only where all bytes are sent
  goes_on : (w : ℕ) (c q : List ℕ) (r : Result ReadStatus Refusal) (t : Behaviour SlaveState Answer)
      → Came w c q r
      → till_stop r ≡ again tt
      → All P kept w [] [] t
      → All P kept w c q (cleared r t)
  goes_on w _ _ _ t came_done e h = cleared_all P kept (ok Done) h
  goes_on w _ _ _ t came_more e h = h
  goes_on w c q _ t (came_leftover k) e h = let z : ◌≡◌ {A = ℕ} 0 1 = cc in absurd (omega arith)
  goes_on w c q _ t came_error e h = let z : ◌≡◌ {A = ℕ} 0 1 = cc in absurd (omega arith)

  -- fill bytes: a chunk of them is sent again and again, and P does not tell how many were sent
  module _ (f : ℕ) (again_of : Again f) where
    module _ (n : ℕ) (K : Result (Unit {0}) Refusal → Behaviour SlaveState Answer) (at_end : AtEnd K) where
      abbrev filling : ℕ → Unit {0} → Behaviour SlaveState Answer
      filling left y = rounds left n (λ _ n₁ k. respond_to_read (fill_bytes f) n₁ (λ r. k (till_stop r))) y K

      turned : (left w : ℕ) (c q : List ℕ) (r : Result ReadStatus Refusal)
          → Came w c q r
          → All P kept w [] [] (filling left tt)
          → (t : Turn (Unit {0}) (Result (Unit {0}) Refusal)) → till_stop r ≡ t
          → All P kept w c q (cleared r (by_turn t (filling left) K))
      turned left w c q r came ih (again _) e = goes_on w c q r _ came e ih
      turned left w c q r came ih (done x) e = at_end w c q r x came e

      turns : (left w : ℕ) → All P kept w [] [] (filling left tt)
      unfolding rounds respond_to_read
      turns zero w = cut_all P kept
      turns (suc left) w =
          again_of w _ (waits P kept n (λ r. by_turn (till_stop r) (filling left) K)
          (λ w c q r came. turned left w c q r came (turns left w) (till_stop r) refl) w (fill_bytes f))

      stops : (w : ℕ) → All P kept w [] [] (respond_till_stop f n K)
      unfolding respond_till_stop
      stops w = turns n w

    pub filled_alone : (n : ℕ)
        → AtEnd (λ x. ends (answer (λ _. Accepted) x))
        → All P kept 0 [] [] (respond_till_stop_call f n ends)
    unfolding respond_till_stop_call
    filled_alone n at_end = stops n _ at_end 0

    -- fill bytes after a buffer
    module _ (refused : (w : ℕ) (c q : List ℕ) (why : Refusal) → All P kept w c q (ends (Refused why)))
        (direct : (w : ℕ) (c q : List ℕ) (r : Result ReadStatus Refusal) → Came w c q r → Told r
        → All P kept w c q (cleared r (ends (answer Responded r))))
        (at_end : AtEnd (λ x. ends (answer Responded (filled x)))) (n : ℕ) where
      follows : (w : ℕ) (c q : List ℕ) (r : Result ReadStatus Refusal)
          → Came w c q r
          → All P kept w c q (cleared r (and_fill f r n (λ r. ends (answer Responded r))))
      follows w _ _ _ came_done = direct w [] [] (ok Done) came_done tt
      follows w _ _ _ came_more = stops n _ at_end w
      follows w c q (ok (LeftoverBytes k)) (came_leftover e) = direct w c q (ok (LeftoverBytes k)) (came_leftover e) tt
      follows w c q (err e) came_error = direct w c q (err e) came_error tt

      filled_up : (bytes : List ℕ)
          → All P kept 0 (take FIFO_SIZE bytes) (drop FIFO_SIZE bytes)
          (respond_and_fill bytes f n (λ r. ends (answer Responded r)))
      unfolding respond_and_fill respond_to_read
      filled_up [] = refused 0 [] [] _
      filled_up (x ∷ xs) = waits P kept n _ follows 0 (x ∷ xs)

      pub filled_after : (bytes : List ℕ)
          → All P kept 0 (take FIFO_SIZE bytes) (drop FIFO_SIZE bytes) (respond_and_fill_call bytes f n ends)
      unfolding respond_and_fill_call
      filled_after bytes =
          by_test (ltb 4096 (length bytes))
          (λ e. rw e (refused 0 _ _ _))
          (λ e. rw (bytes_first bytes f n e) (filled_up bytes))
