-- One turn of a machine's run.
use Rattle.std.specs.Prelude.{Ok, Err}
use Prim.Native.Nat.{ℕ, zero, suc, ◌+◌, ◌-◌, ◌<◌}
use native.Mathlib.Omega.{arith}
use mathlib.Core.List.{List}
use mathlib.Core.Path.{◌≡◌}
use borrow.Author.Tests.{lt-ltb, le-ltb}
use Rattle.regs.specs.Inner.Machine.{taken, performed, at_full, head_of, value_of, entered, final, ran}
use Rattle.regs.specs.Store.{Performed}
use Rattle.regs.specs.Steps.{Machine, stored_in}
use Rattle.regs.specs.declared.answers.Reply.{Reply}

module _ (M : Machine) (rs : List ℕ) where
  -- with k entries of `room` in the log, the access at s stops the run
  pub at_stop : (left room : ℕ) (s : M.S) (k u : ℕ) (l b : List ℕ) (r : Reply)
      → k + left ≡ room
      → performed rs u k room (M.next s) ≡ Err r
      → ran M rs left s k u l b ≡ final r k u l b (M.state s)
  unfolding ran
  at_stop zero room s k u l b r e h =
      let q : Err (at_full (M.next s)) ≡ Err r = rw (le-ltb k room (omega arith)) at h in
      let p : at_full (M.next s) ≡ r = cc in
      rw p
  at_stop (suc left) room s k u l b r e h =
      let q : taken rs u (M.next s) ≡ Err r = rw (lt-ltb k room (omega arith)) at h in
      rw q

  -- or is done
  pub at_access : (left room : ℕ) (s : M.S) (k u : ℕ) (l b : List ℕ) (v u' : ℕ)
      → k + left ≡ room
      → performed rs u k room (M.next s) ≡ Ok (v, u')
      → ran M rs left s k u l b ≡ ran M rs (left - 1) (M.advance s v) (k + 1) u'
      (entered l k (head_of (M.next s)) (value_of (M.next s) v)) (stored_in b (M.store s v))
  unfolding ran
  at_access zero room s k u l b v u' e h =
      let q : ◌≡◌ {A = Performed} (Err (at_full (M.next s))) (Ok (v, u')) = rw (le-ltb k room (omega arith)) at h in
      let z : ◌≡◌ {A = ℕ} 0 1 = cc in absurd (omega arith)
  at_access (suc left) room s k u l b v u' e h =
      let q : taken rs u (M.next s) ≡ Ok (v, u') = rw (lt-ltb k room (omega arith)) at h in
      let p : suc left - 1 ≡ left = omega arith in
      rw (q, p)

-- an access is done only where the log has room
pub has_room : (rs : List ℕ) (left room k u : ℕ) (M : Machine) (s : M.S) (v u' : ℕ)
    → k + left ≡ room
    → performed rs u k room (M.next s) ≡ Ok (v, u')
    → 0 < left
has_room rs zero room k u M s v u' e h =
    let q : ◌≡◌ {A = Performed} (Err (at_full (M.next s))) (Ok (v, u')) = rw (le-ltb k room (omega arith)) at h in
    let z : ◌≡◌ {A = ℕ} 0 1 = cc in absurd (omega arith)
has_room rs (suc left) room k u M s v u' e h = omega arith
