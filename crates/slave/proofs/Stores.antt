-- What `listen` stores, whatever it answers: `listen_conserves`. Along its text, with len bytes stored so far, what it reads is
-- stored at the next place or kept, by the law of regs/proofs/Stores.antt.
use Prim.Native.Nat.{ℕ, zero, suc, ◌+◌, ◌/◌, ◌<◌, ◌≤◌}
use native.Mathlib.Omega.{arith}
use mathlib.Core.Bool.{Bool, true, false, not, ◌&&◌}
use mathlib.Core.List.{List, [], ◌∷◌}
use mathlib.Core.Path.{◌≡◌, refl, sym}
use lib.Dec.{eqb, ltb, T}
use lib.ListN.{length}
use borrow.Author.Tests.{eqb-true, eqb-false, ltb-true}
use Rattle.std.specs.Prelude.{Option, Some, None, is_some, option_to_list}
use Rattle.regs.proofs.Tests.{both_of, by_test}
use Rattle.regs.proofs.Stores.{Stores, ends_stores, reads_stores, data_stores, writes_stores, marks_stores, store_stores}
use Rattle.regs.proofs.Stores.{asks_stores, keeps_stores, cut_stores, Late, Opens, refuses, begins, asks_opens, Whole, whole}
use Rattle.regs.specs.Registers.{DATA_CMD, RX_TL, INTR_MASK}
use Rattle.regs.specs.Fields.{dat, first_data_byte, rd_req, stop_det, gen_call, restart_det, rfne, level}
use Rattle.regs.specs.Left.{no_access}
use Rattle.regs.specs.Program.{Behaviour, ends, reads, writes, marks, stores, asks, keeps, rounds, put}
use Rattle.regs.specs.Program.{by_turn, polled, pending, when, exit, return, ◌>>◌, ◌>>=◌}
use Rattle.regs.specs.declared.answers.Answer.{Answer}
use Rattle.regs.specs.declared.answers.Answer.TheVariants.{Heard, Refused}
use Rattle.regs.specs.declared.answers.Refusal.TheVariants.{NoPlaceForPending}
use Rattle.regs.specs.declared.answers.Reply.{Reply}
use Rattle.regs.specs.declared.answers.Reply.TheVariants.{Answered}
use Rattle.slave.specs.I2cSlave.{Listened, answer, with_pending, drain_places, listen_drain}
use Rattle.slave.specs.I2cSlave.{listen_command, listen_poll, listen_mask, listen, listen_call}
use Rattle.slave.specs.Calls.{listens, left_by_call}
use Rattle.slave.specs.Counts.{kept, Tells, general_call, read, write_read, write, partial_write}
use Rattle.slave.specs.Counts.{partial_general_call, no_place, over_limits, out_of_readings, log_full, ListenConserves}
use Rattle.slave.specs.declared.SlaveState.{SlaveState}
use Rattle.slave.proofs.Basics.{state, or_true, none_pending}

-- ---- along `listen`, with a buffer so long

module _ (L : ℕ) where
  -- with len bytes stored and the bytes w not yet stored
  abbrev Keeps : ℕ → List ℕ → SlaveState → Behaviour SlaveState Answer → Type 0
  Keeps len w me t = Stores kept (Late (Tells L)) L len w me t

  -- where nothing but the pending byte waits

  ending : {len : ℕ} {me : SlaveState} {a : Answer}
      → T (not (no_access (Answered a)))
      → Tells L (Answered a) len
      → Keeps len (kept me) me (ends a)
  ending late h = ends_stores refl (late, h)

  reading : {len r : ℕ} {me : SlaveState} {f : ℕ → Behaviour SlaveState Answer}
      → eqb r DATA_CMD ≡ false
      → ((v : ℕ) → Keeps len (kept me) me (f v))
      → Keeps len (kept me) me (reads r f)
  reading q h = reads_stores q refl h

  writing : {len r v : ℕ} {me : SlaveState} {t : Behaviour SlaveState Answer}
      → Keeps len (kept me) me t
      → Keeps len (kept me) me (writes r v t)
  writing h = writes_stores refl h

  marking : {len x : ℕ} {me : SlaveState} {t : Behaviour SlaveState Answer}
      → Keeps len (kept me) me t
      → Keeps len (kept me) me (marks x t)
  marking h = marks_stores refl h

  -- of any bytes that wait

  asking : {len : ℕ} {w : List ℕ} {me : SlaveState} {f : SlaveState → Behaviour SlaveState Answer}
      → Keeps len w me (f me)
      → Keeps len w me (asks f)
  asking h = asks_stores h

  keeping : {len : ℕ} {w : List ℕ} {me me' : SlaveState} {t : Behaviour SlaveState Answer}
      → Keeps len w me' t
      → Keeps len w me (keeps me' t)
  keeping h = keeps_stores h

  storing : {len d : ℕ} {w : List ℕ} {me : SlaveState} {t : Behaviour SlaveState Answer}
      → len < L
      → Keeps (len + 1) w me t
      → Keeps len (d ∷ w) me (stores len d t)
  storing l h = store_stores l h

  -- no byte is kept

  reading_none : {len r : ℕ} {me : SlaveState} {f : ℕ → Behaviour SlaveState Answer}
      → eqb r DATA_CMD ≡ false
      → kept me ≡ []
      → ((v : ℕ) → Keeps len [] me (f v))
      → Keeps len [] me (reads r f)
  reading_none q e h = reads_stores q (sym e) h

  receiving : {len : ℕ} {me : SlaveState} {f : ℕ → Behaviour SlaveState Answer}
      → kept me ≡ []
      → ((v : ℕ) → Keeps len (dat v ∷ []) me (f v))
      → Keeps len [] me (reads DATA_CMD f)
  receiving e h = data_stores (sym e) h

  -- the pending byte has a place
  record At (len : ℕ) (me : SlaveState) : Type 0 where
    most : len ≤ L
    place : is_some me.pending_byte ≡ true → len < L

  abbrev Back : (ℕ → Behaviour SlaveState Answer) → Type 0
  Back t = (len : ℕ) (me : SlaveState) → At len me → Keeps len (kept me) me (t len)

  abbrev after : ℕ → (ℕ → Behaviour SlaveState Answer) → Listened → Behaviour SlaveState Answer
  after n t r = polled (put INTR_MASK listen_mask) r n (λ w. by_turn w t (λ r. ends (answer Heard r)))

  -- a full buffer
  filled : {len : ℕ} {r : Reply} → L ≡ len → Tells L r L → Tells L r len
  filled e h = rw (← e) h

  pends : (len : ℕ) (me : SlaveState) (t : ℕ → Behaviour SlaveState Answer) (n : ℕ)
      → At len me
      → Back t
      → Keeps len (kept me) me (after n t (pending len))
  pends len me t n a back = writing (marking (back len me a))

  settles : (stat len : ℕ) (me : SlaveState) (t : ℕ → Behaviour SlaveState Answer) (n : ℕ)
      → At len me
      → Back t
      → Keeps len (kept me) me (listen_command L stat len n (after n t))
  settles stat len me t n a back =
      by_test (eqb L len)
      (λ e. let same : L ≡ len = eqb-true L len e in
      rw e (by_test (gen_call stat)
      (λ q. rw q (ending tt (filled same partial_general_call)))
      (λ q. rw q (ending tt (filled same partial_write)))))
      (λ e.
      let ne : L ≡ len → ⊥ = eqb-false L len e in
      let l : len < L = omega (arith, a.most) in
      rw e (by_test (restart_det stat && rd_req stat)
      (λ q. rw q (reading refl (λ v. ending tt (write_read l))))
      (λ q. rw q (by_test (gen_call stat && stop_det stat && ltb 0 len)
      (λ q. let some = ltb-true 0 len (both_of (gen_call stat && stop_det stat) (ltb 0 len) q).1 in
      rw q (reading refl (λ v. reading refl (λ v. ending tt (general_call some l)))))
      (λ q. rw q (by_test (stop_det stat && ltb 0 len)
      (λ q. let some = ltb-true 0 len (both_of (stop_det stat) (ltb 0 len) q).1 in
      rw q (reading refl (λ v. ending tt (write some l))))
      (λ q. rw q (by_test (rd_req stat)
      (λ q. rw q (reading refl (λ v. reading refl (λ v. reading refl (λ v. ending tt (read l))))))
      (λ q. rw q (by_test (stop_det stat)
      (λ q. rw q (reading refl (λ v. pends len me t n a back)))
      (λ q. rw q (pends len me t n a back))))))))))))

  -- the drain, with `places` places from the offset on
  drains : (places stat offset : ℕ) (me : SlaveState) (t : ℕ → Behaviour SlaveState Answer) (n : ℕ)
      → me.pending_byte ≡ None
      → offset + places ≤ L
      → Back t
      → Keeps offset [] me (drain_places places offset n (λ len. writes RX_TL 11 (listen_command L stat len n (after n t))))
  unfolding drain_places
  drains zero stat offset me t n none most back =
      let w : kept me ≡ [] = rw none in
      rw (← w) (writing (settles stat offset me t n (record { most = omega arith; place = none_pending none }) back))
  drains (suc places) stat offset me t n none most back =
      let w : kept me ≡ [] = rw none in
      reading_none refl w (λ status.
      by_test (rfne status)
      (λ q. rw q (receiving w (λ v.
      by_test (not (eqb offset 0) && first_data_byte v)
      (λ q. rw q (asking (keeping
      (writing (settles stat offset (with_pending (Some (dat v)) me) t n
      (record { most = omega arith; place = λ _. omega arith }) back)))))
      (λ q. rw q (storing (omega arith) (drains places stat (offset + 1) me t n none (omega arith) back))))))
      (λ q. rw (q, ← w) (writing
      (settles stat offset me t n (record { most = omega arith; place = none_pending none }) back))))

  levels : (p : Option ℕ) (address : ℕ) (g : Bool) (stat len v : ℕ) (t : ℕ → Behaviour SlaveState Answer) (n : ℕ)
      → At len (state p address g)
      → Back t
      → Keeps len (option_to_list p) (state p address g) (listen_drain L len v n (λ len. listen_command L stat len n (after n t)))
  levels None address g stat len v t n a back =
      asking (by_test (ltb 0 (level v))
      (λ q. rw q (asking (keeping (drains _ stat len _ t n refl (omega (arith, a.most)) back))))
      (λ q. rw q (settles stat len _ t n a back)))
  levels (Some c) address g stat len v t n a back =
      let l : len < L = a.place refl in
      asking (rw (or_true (ltb 0 (level v)))
      (asking (keeping (storing l (drains _ stat (len + 1) _ t n refl (omega arith) back)))))

  polls : (len : ℕ) (me : SlaveState) (t : ℕ → Behaviour SlaveState Answer) (n : ℕ)
      → At len me
      → Back t
      → Keeps len (kept me) me (listen_poll L len n (after n t))
  polls len me t n a back =
      let drained : (stat v : ℕ) → Keeps len (kept me) me (listen_drain L len v n (λ len. listen_command L stat len n (after n t))) =
      λ stat v. levels me.pending_byte me.address me.general_call stat len v t n a back in
      search (reading, asking, keeping)

  waits : (left n : ℕ)
      → Back (λ len. rounds left n (λ y n₁ k. listen_poll L y n₁ (λ r. polled (put INTR_MASK listen_mask) r n₁ k))
      len (λ r. ends (answer Heard r)))
  unfolding rounds
  waits zero n len me a = cut_stores refl
  waits (suc left) n len me a = polls len me _ n a (waits left n)

  starts : (me : SlaveState) (n : ℕ) → At 0 me → Opens kept (Tells L) L me (listen L n (λ r. ends (answer Heard r)))
  unfolding listen
  starts me n a = begins (writing (waits n n 0 me a))

calls : (me : SlaveState) (L n : ℕ) → Opens kept (Tells L) L me (listen_call L n ends)
unfolding listen_call
calls me L n =
    by_test (ltb 4096 L)
    (λ q. rw q (refuses over_limits))
    (λ q. rw q (asks_opens (go me.pending_byte me.address me.general_call)))
  where
    go : (p : Option ℕ) (address : ℕ) (g : Bool) → Opens kept (Tells L) L (state p address g)
        ((when (is_some p && eqb L 0) (exit (Refused NoPlaceForPending))
        >> (listen L >>= (λ r. return (answer Heard r))))
        n ends)
    go None address g = starts L _ n (record { most = omega arith; place = λ e. none_pending refl e })
    go (Some c) address g =
        by_test (eqb L 0)
        (λ q. rw q (refuses no_place))
        (λ q. rw q (starts L _ n
        (record {
          most = omega arith;
          place = λ _. let z : L ≡ 0 → ⊥ = eqb-false L 0 q in omega arith;
        })))

pub listen_whole : (buffer log readings : List ℕ) (me : SlaveState)
    → Whole kept (Tells (length buffer)) buffer me (left_by_call (listens buffer) log readings me)
listen_whole buffer log readings me =
    whole kept (Tells (length buffer)) (λ _. log_full) (λ _. out_of_readings) (calls me (length buffer) _)
    (length log / 2) readings buffer refl

pub listen_conserves : ListenConserves
listen_conserves buffer log readings me =
    let w = listen_whole buffer log readings me in
    record { count = w.count; stored = w.stored; told = w.answer }
