-- Only a `listen` stores into the lent buffer: at every other point the machine stores nothing and goes on to such a point.
use Prim.Native.Nat.{ℕ, zero, suc, ◌+◌, ◌/◌}
use mathlib.Core.Bool.{Bool, true, false}
use mathlib.Core.List.{List}
use mathlib.Core.Path.{◌≡◌, refl, sym, ◌∙◌}
use lib.Dec.{eqb, ltb}
use lib.ListN.{length}
use Rattle.regs.proofs.Tests.{false_true}
use Rattle.std.specs.Prelude.{if◌then◌else◌, None, Ok, Err}
use Rattle.regs.specs.Inner.Machine.{Final, final, ran, taken, by_performed, entered, head_of, value_of}
use Rattle.regs.specs.Steps.{stored_in}
use Rattle.regs.specs.Store.{Performed}
use Rattle.regs.specs.declared.access.Ran.{Ran}
use Rattle.slave.specs.declared.SlaveState.{SlaveState}
use Rattle.slave_steps.specs.Inner.Machine.{machine, next_at, advance_at}
use Rattle.slave_steps.specs.declared.Slave.{Slave}
use Rattle.slave_steps.specs.declared.Point.{Point}
use Rattle.slave_steps.specs.declared.Point.TheVariants as Q
use Rattle.slave_run.specs.Requests.{is_listen, BufferKept}
use Rattle.slave_run.specs.Inner.Starts.{started}
use Rattle.slave_run.specs.declared.Request.{Request}
use Rattle.slave_run.specs.declared.Request.TheVariants.{Reset, Listen, RespondToRead, RespondTillStop, RespondAndFill}
use Rattle.slave_run.proofs.Agree.{request_leaves}

abbrev quiet : Point → Bool
quiet (Q.Refused why) = true
quiet (Q.BlockReset a g) = true
quiet (Q.Resetting p) = true
quiet (Q.Listening p) = false
quiet (Q.Responding r) = true

either_quiet : (t : Bool) (p q : Point) → quiet p ≡ true → quiet q ≡ true → quiet (if t then p else q) ≡ true
either_quiet true p q e f = e
either_quiet false p q e f = f

starts_quiet : (q : Request) (me : SlaveState) (n m : ℕ) → is_listen q ≡ false → quiet (started me q n m).point ≡ true
starts_quiet (Reset address g) me n m e = either_quiet (eqb address 0) _ _ refl refl
starts_quiet Listen me n m e = absurd (false_true (sym e))
starts_quiet RespondToRead me n m e = either_quiet (ltb 4096 n) _ _ refl (either_quiet (eqb n 0) _ _ refl refl)
starts_quiet (RespondTillStop fill) me n m e = refl
starts_quiet (RespondAndFill fill) me n m e = either_quiet (ltb 4096 n) _ _ refl (either_quiet (eqb n 0) _ _ refl refl)

stays_quiet : (p : Point) (me : SlaveState) (n v : ℕ)
    → quiet p ≡ true
    → (quiet (advance_at p me n v).slave.point ≡ true) × ((advance_at p me n v).store ≡ None)
stays_quiet (Q.Refused why) me n v e = (refl, refl)
stays_quiet (Q.BlockReset a g) me n v e = (refl, refl)
stays_quiet (Q.Resetting p) me n v e = (refl, refl)
stays_quiet (Q.Listening p) me n v e = absurd (false_true e)
stays_quiet (Q.Responding r) me n v e = (refl, refl)

module _ (bytes rs : List ℕ) where
  ran_quiet : (left : ℕ) (s : Slave) (k u : ℕ) (l b : List ℕ)
      → quiet s.point ≡ true
      → (ran (machine bytes) rs left s k u l b).buffer ≡ b
  unfolding ran
  ran_quiet zero s k u l b e = refl
  ran_quiet (suc left) s k u l b e =
      go (taken rs u (next_at bytes s.state s.point))
      (λ v u' m. rw (stays_quiet s.point s.state s.length v e).1
      (ran_quiet left ((machine bytes).advance s v) (k + 1) u' m b (stays_quiet s.point s.state s.length v e).0))
    where
      go : (w : Performed)
          → ((v u' : ℕ) (m : List ℕ)
          → (ran (machine bytes) rs left ((machine bytes).advance s v) (k + 1) u' m (stored_in b ((machine bytes).store s v))).buffer ≡ b)
          → (by_performed w
          (λ v u'. ran (machine bytes) rs left ((machine bytes).advance s v) (k + 1) u'
          (entered l k (head_of ((machine bytes).next s)) (value_of ((machine bytes).next s) v))
          (stored_in b ((machine bytes).store s v)))
          (λ r. final r k u l b s.state)).buffer ≡ b
      go (Ok (v, u')) h = h v u' _
      go (Err r) h = refl

pub buffer_kept : BufferKept
buffer_kept q e bytes buffer log readings me =
    sym (request_leaves bytes buffer readings log me {after = F.log} {b = F.buffer} {z = F.state} r q refl).buffer
    ∙ ran_quiet bytes readings (length log / 2) s 0 0 log buffer (starts_quiet q me (length bytes) (length buffer) e)
  where
    s : Slave
    s = started me q (length bytes) (length buffer)

    F : Final SlaveState
    F = ran (machine bytes) readings (length log / 2) s 0 0 log buffer

    r : Ran
    r = record { reply = F.reply; entries = F.entries; used = F.used }
