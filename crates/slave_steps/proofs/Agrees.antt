-- From its start the machine does what each call does. Where `listen` or a response
-- has begun, that is known of the machines below, which stand inside this one.
use Prim.Native.Nat.{ℕ, ◌≤◌}
use native.Mathlib.Omega.{arith}
use mathlib.Core.Bool.{Bool, ◌&&◌}
use mathlib.Core.List.{List, [], ◌∷◌}
use mathlib.Core.Path.{◌≡◌, refl}
use lib.Dec.{eqb, ltb, eqb-suc-zero}
use lib.ListN.{length}
use borrow.Author.Tests.{eqb-false}
use Rattle.std.specs.Prelude.{Option, Some, None, is_some}
use Rattle.regs.proofs.Tests.{by_test}
use Rattle.regs.specs.Program.{Behaviour, ends, ◌>>◌, ◌>>=◌, return, when, exit}
use Rattle.regs.specs.Steps.{Machine}
use Rattle.regs.specs.declared.answers.Answer.{Answer}
use Rattle.regs.specs.declared.answers.Answer.TheVariants.{Heard, Refused}
use Rattle.regs.specs.declared.answers.Refusal.TheVariants.{NoPlaceForPending}
use Rattle.regs.proofs.Refine.{Agree, ends_agree, asks_agree}
use Rattle.regs.proofs.Lift.{lift}
use Rattle.slave.specs.I2cSlave.{listen, answer, listen_call, respond_to_read, respond_and_fill}
use Rattle.slave.specs.I2cSlave.{respond_to_read_call, respond_till_stop_call, respond_and_fill_call}
use Rattle.slave.specs.declared.SlaveState.{SlaveState}
use Rattle.slave.proofs.Basics.{state, none_pending}
use Rattle.slave_listen.specs.Inner.Machine.{Listener, machine as listening}
use Rattle.slave_listen.proofs.Listens.{listens}
use Rattle.slave_respond.specs.Inner.Machine.{Responder, machine as responding}
use Rattle.slave_respond.specs.declared.Job.TheVariants.{Respond, RespondThenFill}
use Rattle.slave_respond.proofs.Responds.{responds, responds_till_stop, responds_and_fills}
use Rattle.slave_steps.specs.Inner.Machine.{slave, machine, start_listen, listen_point, start_respond, start_fill}
use Rattle.slave_steps.specs.declared.Slave.{Slave}
use Rattle.slave_steps.specs.declared.Point.TheVariants.{Listening, Responding}

abbrev of_listener : Listener → Slave
of_listener s = slave s.state s.length (Listening s.point)

abbrev of_responder : Responder → Slave
of_responder s = slave s.state s.length (Responding s.response)

module _ (bytes : List ℕ) where
  abbrev M : Machine
  M = machine bytes

  in_listen : {m : ℕ} {s : Listener} {b c : List ℕ} {z : SlaveState} {t : Behaviour SlaveState Answer}
      → Agree listening m s b c z t
      → Agree M m (of_listener s) b c z t
  in_listen =
      lift listening.next listening.advance listening.store listening.state M.next M.advance
      M.store M.state of_listener
      (λ s. refl) (λ s v. refl) (λ s v. refl) (λ s. refl)

  in_response : {m : ℕ} {s : Responder} {b c : List ℕ} {z : SlaveState} {t : Behaviour SlaveState Answer}
      → Agree (responding bytes) m s b c z t
      → Agree M m (of_responder s) b c z t
  in_response =
      lift (responding bytes).next (responding bytes).advance (responding bytes).store (responding bytes).state
      M.next M.advance M.store M.state of_responder
      (λ s. refl) (λ s v. refl) (λ s v. refl) (λ s. refl)

  pub listen_agrees : (length : ℕ) (me : SlaveState) (b : List ℕ) (m n : ℕ)
      → m ≤ n
      → Agree M m (start_listen me length) b b me (listen_call length n ends)
  unfolding listen_call
  listen_agrees length me b m n h =
      by_test (ltb 4096 length)
      (λ q. rw q (ends_agree M m refl))
      (λ q. rw q (asks_agree M m (starts me.pending_byte me.address me.general_call)))
    where
      starts : (p : Option ℕ) (address : ℕ) (g : Bool)
          → Agree M m (slave (state p address g) length (listen_point p length)) b b (state p address g)
          ((when (is_some p && eqb length 0) (exit (Refused NoPlaceForPending))
          >> (listen length >>= (λ r. return (answer Heard r))))
          n ends)
      starts None address g = in_listen (listens length _ b m n h (λ e. none_pending refl e))
      starts (Some c) address g =
          by_test (eqb length 0)
          (λ q. rw q (ends_agree M m refl))
          (λ q. rw q (in_listen (listens length _ b m n h (λ _. let z : length ≡ 0 → ⊥ = eqb-false length 0 q in omega arith))))

  pub respond_till_stop_agrees : (f : ℕ) (me : SlaveState) (b : List ℕ) (m n : ℕ)
      → m ≤ n
      → Agree M m (start_fill me f) b b me (respond_till_stop_call f n ends)
  unfolding respond_till_stop_call
  respond_till_stop_agrees f me b m n h = in_response (responds_till_stop bytes f me b m n h)

pub respond_agrees : (bytes : List ℕ) (me : SlaveState) (b : List ℕ) (m n : ℕ) → m ≤ n
    → Agree (machine bytes) m (start_respond me Respond (length bytes)) b b me (respond_to_read_call bytes n ends)
unfolding respond_to_read respond_to_read_call
respond_agrees [] me b m n h = ends_agree (machine []) m refl
respond_agrees (x ∷ xs) me b m n h =
    by_test (ltb 4096 (length (x ∷ xs)))
    (λ q. rw q (ends_agree (machine (x ∷ xs)) m refl))
    (λ q. rw (q, eqb-suc-zero (length xs)) (in_response (x ∷ xs) (responds x xs me b m n h)))

pub respond_and_fill_agrees : (bytes : List ℕ) (f : ℕ) (me : SlaveState) (b : List ℕ) (m n : ℕ) → m ≤ n
    → Agree (machine bytes) m (start_respond me (RespondThenFill f) (length bytes)) b b me (respond_and_fill_call bytes f n ends)
unfolding respond_to_read respond_and_fill respond_and_fill_call
respond_and_fill_agrees [] f me b m n h = ends_agree (machine []) m refl
respond_and_fill_agrees (x ∷ xs) f me b m n h =
    by_test (ltb 4096 (length (x ∷ xs)))
    (λ q. rw q (ends_agree (machine (x ∷ xs)) m refl))
    (λ q. rw (q, eqb-suc-zero (length xs)) (in_response (x ∷ xs) (responds_and_fills x xs f me b m n h)))
