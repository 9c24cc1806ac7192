-- The machine's points of a listen do what `listen` does.
use Prim.Native.Nat.{ℕ, zero, suc, ◌+◌, ◌-◌, ◌<◌, ◌≤◌}
use native.Mathlib.Omega.{arith}
use mathlib.Core.Bool.{Bool, true, ◌&&◌}
use mathlib.Core.List.{List}
use mathlib.Core.Path.{◌≡◌, refl}
use lib.Dec.{eqb, ltb}
use lib.ListN.{set}
use borrow.Author.Tests.{lt-ltb, le-ltb}
use Rattle.std.specs.Prelude.{Option, Some, None, is_some}
use Rattle.regs.proofs.Tests.{by_test}
use Rattle.regs.specs.Registers.{RX_TL, INTR_MASK}
use Rattle.regs.specs.Fields.{set_field, dat, rd_req, stop_det, gen_call, restart_det, rfne, level}
use Rattle.regs.specs.Program.{Behaviour, ends, writes, put, by_turn, polled, pending}
use Rattle.regs.specs.Steps.{Machine, stored_in}
use Rattle.regs.specs.declared.answers.Answer.{Answer}
use Rattle.regs.specs.declared.answers.Answer.TheVariants.{Heard}
use Rattle.regs.specs.declared.access.Next.TheVariants as N
use Rattle.regs.proofs.Refine.{Agree, ends_agree, reads_agree, writes_agree, marks_agree, stores_agree, asks_agree, keeps_agree, loop_agree}
use Rattle.slave.specs.I2cSlave.{answer, with_pending, drain_places, listen_drain, listen_command}
use Rattle.slave.specs.I2cSlave.{listen_poll, listen_mask, Listened, listen}
use Rattle.slave_listen.specs.Inner.Machine.{Listener, listener, machine, settled, drain_from, after_level, is_next}
use Rattle.slave.specs.declared.SlaveState.{SlaveState}
use Rattle.slave_listen.specs.declared.ListenPoint.TheVariants as L
use Rattle.slave.proofs.Basics.{state, or_true, none_pending}

-- the code's mask is what the setters make of 0
mask_is : N.Write INTR_MASK 0x1a24 ≡ N.Write INTR_MASK listen_mask
unfolding set_field
mask_is = refl

module _ (length : ℕ) where
  abbrev M : Machine
  M = machine

  -- where a poll starts
  abbrev at : ℕ → SlaveState → Listener
  at len me = listener me length (L.RawIntrStat len)

  -- a pending byte has a place there
  abbrev Holds : ℕ → SlaveState → Type 0
  Holds len me = is_some me.pending_byte ≡ true → len < length

  -- the polls after this one
  abbrev Back : ℕ → (ℕ → Behaviour SlaveState Answer) → Type 0
  Back m t = (m' : ℕ) → m' < m → (len : ℕ) (me : SlaveState) (b : List ℕ) → Holds len me → Agree M m' (at len me) b b me (t len)

  -- what follows what a poll says
  abbrev after : ℕ → (ℕ → Behaviour SlaveState Answer) → Listened → Behaviour SlaveState Answer
  after n t r = polled (put INTR_MASK listen_mask) r n (λ w. by_turn w t (λ r. ends (answer Heard r)))

  -- a poll that is not done
  pends : (m len : ℕ) (me : SlaveState) (b : List ℕ) (t : ℕ → Behaviour SlaveState Answer) (n : ℕ) → Holds len me → Back m t
      → Agree M m (listener me length (L.IntrMask len)) b b me (after n t (pending len))
  pends m len me b t n holds back =
      writes_agree M m mask_is (λ m₁ l₁. marks_agree M m₁ refl (λ m₂ l₂. back m₂ (omega arith) len me b holds))

  -- what a poll says, with the FIFO drained
  settles : (m stat len : ℕ) (me : SlaveState) (b : List ℕ) (t : ℕ → Behaviour SlaveState Answer) (n : ℕ) → Holds len me → Back m t
      → Agree M m (listener me length (settled length stat len)) b b me (listen_command length stat len n (after n t))
  settles m stat len me b t n holds back =
      by_test (eqb length len)
      (λ e. rw e (by_test (gen_call stat) (λ q. rw q (ends_agree M m refl)) (λ q. rw q (ends_agree M m refl))))
      (λ e. rw e (by_test (restart_det stat && rd_req stat)
      (λ q. rw q (reads_agree M m refl (λ m₁ l₁ v. ends_agree M m₁ refl)))
      (λ q. rw q (by_test (gen_call stat && stop_det stat && ltb 0 len)
      (λ q. rw q (reads_agree M m refl (λ m₁ l₁ v. reads_agree M m₁ refl (λ m₂ l₂ v. ends_agree M m₂ refl))))
      (λ q. rw q (by_test (stop_det stat && ltb 0 len)
      (λ q. rw q (reads_agree M m refl (λ m₁ l₁ v. ends_agree M m₁ refl)))
      (λ q. rw q (by_test (rd_req stat)
      (λ q. rw q (reads_agree M m refl
      (λ m₁ l₁ v. reads_agree M m₁ refl (λ m₂ l₂ v. reads_agree M m₂ refl (λ m₃ l₃ v. ends_agree M m₃ refl)))))
      (λ q. rw q (by_test (stop_det stat)
      (λ q. rw q (reads_agree M m refl (λ m₁ l₁ v. pends m₁ len me b t n holds (λ m₂ l₂. back m₂ (omega arith)))))
      (λ q. rw q (pends m len me b t n holds back))))))))))))

  -- the drain is over
  sets_threshold : (m stat len : ℕ) (me : SlaveState) (b : List ℕ) (t : ℕ → Behaviour SlaveState Answer) (n : ℕ) → Holds len me → Back m t
      → Agree M m (listener me length (L.Watermark stat len)) b b me (writes RX_TL 11 (listen_command length stat len n (after n t)))
  sets_threshold m stat len me b t n holds back =
      writes_agree M m refl (λ m₁ l₁. settles m₁ stat len me b t n holds (λ m₂ l₂. back m₂ (omega arith)))

  -- the drain, with `places` places from the offset on
  drains : (places m stat offset : ℕ) (me : SlaveState) (b : List ℕ) (t : ℕ → Behaviour SlaveState Answer) (n : ℕ)
      → me.pending_byte ≡ None
      → length - offset ≡ places
      → Back m t
      → Agree M m (listener me length (drain_from length stat offset)) b b me
      (drain_places places offset n (λ len. writes RX_TL 11 (listen_command length stat len n (after n t))))
  unfolding drain_places
  drains zero m stat offset me b t n none e back =
      rw (le-ltb offset length (omega arith)) (sets_threshold m stat offset me b t n (none_pending none) back)
  drains (suc places) m stat offset me b t n none e back =
      let more : ltb offset length ≡ true = lt-ltb offset length (omega arith) in
      rw more
      (reads_agree M m refl (λ m₁ l₁ status.
      by_test (rfne status)
      (λ q. rw q (reads_agree M m₁ refl (λ m₂ l₂ w.
      by_test (is_next offset w)
      (λ q. rw q (asks_agree M m₂
      (keeps_agree M m₂ (sets_threshold m₂ stat offset (with_pending (Some (dat w)) me) b t n (λ _. omega arith)
      (λ m₃ l₃. back m₃ (omega arith))))))
      (λ q. rw (q, more) (stores_agree M m₂
      (drains places m₂ stat (offset + 1) me (set b offset (dat w)) t n none (omega arith)
      (λ m₃ l₃. back m₃ (omega arith))))))))
      (λ q. rw q (sets_threshold m₁ stat offset me b t n (none_pending none) (λ m₂ l₂. back m₂ (omega arith))))))

  -- after the level is read, with a byte pending and with none
  levels : (p : Option ℕ) (address : ℕ) (g : Bool) (m stat len v : ℕ) (b : List ℕ)
      (t : ℕ → Behaviour SlaveState Answer) (n : ℕ)
      → (is_some p ≡ true → len < length)
      → Back m t
      → Agree M m (listener (with_pending (after_level length stat len p v).pending (state p address g)) length
      (after_level length stat len p v).point)
      (stored_in b (after_level length stat len p v).store) b (state p address g)
      (listen_drain length len v n (λ len. listen_command length stat len n (after n t)))
  levels None address g m stat len v b t n holds back =
      asks_agree M m (by_test (ltb 0 (level v))
      (λ q. rw q (asks_agree M m (keeps_agree M m (drains (length - len) m stat len _ b t n refl refl back))))
      (λ q. rw q (settles m stat len _ b t n holds back)))
  levels (Some c) address g m stat len v b t n holds back =
      asks_agree M m (rw (or_true (ltb 0 (level v)), lt-ltb len length (holds refl))
      (asks_agree M m (keeps_agree M m
      (stores_agree M m (drains (length - (len + 1)) m stat (len + 1) _ (set b len c) t n refl refl back)))))

  -- one poll
  polls : (m len : ℕ) (me : SlaveState) (b : List ℕ) (t : ℕ → Behaviour SlaveState Answer) (n : ℕ) → Holds len me → Back m t
      → Agree M m (at len me) b b me (listen_poll length len n (after n t))
  polls m len me b t n holds back =
      reads_agree M m refl (λ m₁ l₁ stat.
      reads_agree M m₁ refl (λ m₂ l₂ v.
      levels me.pending_byte me.address me.general_call m₂ stat len v b t n holds (λ m₃ l₃. back m₃ (omega arith))))

  pub listens : (me : SlaveState) (b : List ℕ) (m n : ℕ)
      → m ≤ n
      → Holds 0 me
      → Agree M m (listener me length L.RxTl) b b me (listen length n (λ r. ends (answer Heard r)))
  unfolding listen
  listens me b m n h holds =
      writes_agree M m refl (λ m₁ l₁.
      loop_agree M n _ (λ r. ends (answer Heard r)) at Holds n m₁ (omega arith)
      (λ m₂ l₂ len me b holds t back. polls m₂ len me b t n holds back) 0 me b holds)
