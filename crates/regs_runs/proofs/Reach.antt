-- A run is reached in parts: no step, one part after the other, one access, and the access that stops it.
use Rattle.std.specs.Prelude.{Result, Ok, Err}
use Prim.Native.Nat.{ℕ, ◌+◌, ◌/◌, ◌-◌, ◌<◌, ◌^◌}
use native.Mathlib.Omega.{arith}
use mathlib.Core.List.{List}
use mathlib.Core.Path.{◌≡◌, refl, sym, ap, ◌∙◌}
use lib.ListN.{length, length-set, get_or}
use mathlib.Core.Bool.{false}
use lib.Dec.{ltb}
use borrow.Author.Tests.{lt-ltb, le-ltb, ltb-true, ltb-false}
use Rattle.regs.specs.Inner.Machine.{at_full, performed, log_after, entered, Final, final, ran}
use Rattle.regs.specs.Steps.{Machine, stored_in}
use Rattle.regs.specs.Inner.Recording.{Keeps, Performs, performed_in, read_of, used_after, entries_after}
use Rattle.regs.specs.declared.access.Recording.{Recording}
use Rattle.regs.specs.declared.answers.Reply.{Reply}
use Rattle.regs.specs.declared.access.Next.{Next}
use Rattle.regs.specs.declared.access.Next.TheVariants.{Read, Write, Mark}
use Rattle.regs.specs.Store.{Store}
use Rattle.regs.specs.Store.{Performed}
use Rattle.regs.proofs.Tests.{by_test}
use Rattle.regs.proofs.Unroll.{at_stop, at_access}
use Rattle.regs.proofs.Refine.{length_stored}
use Rattle.regs_runs.specs.Inner.Reaches.{Reaches}

module _ (M : Machine) (readings : List ℕ) where
  pub stays : {s : M.S} {e u : ℕ} {l b : List ℕ} → length l < 2 ^ 64 → Reaches M readings s e u l b s e u l b
  stays f = record { same = refl; up = omega arith; room = λ h. h; long = refl; wide = refl; fits = f }

-- an access is done only where the log has room
room_for : (rs : List ℕ) (u k room : ℕ) (n : Next) {v w : ℕ} → performed rs u k room n ≡ Ok (v, w) → k < room
room_for rs u k room n {v} {w} q = by_test (ltb k room) (ltb-true k room) (λ no.
    let z : ◌≡◌ {A = Performed} (Err (at_full n)) (Ok (v, w)) = rw no at q in
    let y : ◌≡◌ {A = ℕ} 0 1 = cc in absurd (omega arith))

-- the access that stops a run stops it too where there are more entries than room: then none is done
stops : (M : Machine) (rs : List ℕ) (s : M.S) (k u : ℕ) (l b : List ℕ) {r : Reply} → performed rs u k (length l / 2) (M.next s) ≡ Err r
    → ran M rs (length l / 2 - k) s k u l b ≡ final r k u l b (M.state s)
stops M rs s k u l b {r} q = by_test (ltb k (length l / 2))
    (λ yes. at_stop M rs (length l / 2 - k) (length l / 2) s k u l b r (omega (arith, ltb-true k (length l / 2) yes)) q)
    (λ no.
    let none : length l / 2 - k ≡ 0 = omega (arith, ltb-false k (length l / 2) no) in
    let full : ltb k k ≡ false = le-ltb k k (omega arith) in
    rw none (at_stop M rs 0 k s k u l b r (omega arith) (rw full (rw no at q))))

module _ {M : Machine} {readings : List ℕ} {s₀ : M.S} {e₀ u₀ : ℕ} {l₀ b₀ : List ℕ} {s : M.S} {e u : ℕ}
    {l b : List ℕ} (g : Reaches M readings s₀ e₀ u₀ l₀ b₀ s e u l b) where
  half : length l / 2 ≡ length l₀ / 2
  half = ap (λ (x : ℕ). x / 2) g.long

  pub then : {s₂ : M.S} {e₂ u₂ : ℕ} {l₂ b₂ : List ℕ}
      → Reaches M readings s e u l b s₂ e₂ u₂ l₂ b₂
      → Reaches M readings s₀ e₀ u₀ l₀ b₀ s₂ e₂ u₂ l₂ b₂
  then k =
      record {
        same = (rw half at k.same) ∙ g.same;
        up = omega (arith, g.up, k.up);
        room = λ h. rw half at (k.room (rw half (g.room h)));
        long = k.long ∙ g.long;
        wide = k.wide ∙ g.wide;
        fits = g.fits;
      }

  base : ran M readings (length l / 2 - e) s e u l b ≡ ran M readings (length l₀ / 2 - e₀) s₀ e₀ u₀ l₀ b₀
  base = rw half g.same

  -- an access that is done
  module _ {v w : ℕ} (q : performed readings u e (length l / 2) (M.next s) ≡ Ok (v, w)) where
    more : e < length l₀ / 2
    more = rw half at (room_for readings u e (length l / 2) (M.next s) q)

    did : Reaches M readings s₀ e₀ u₀ l₀ b₀ (M.advance s v) (e + 1) w (log_after (Ok (v, w)) l e (M.next s)) (stored_in b (M.store s v))
    did =
        let less : length l / 2 - e - 1 ≡ length l₀ / 2 - (e + 1) = omega (arith, half) in
        let sum : e + (length l / 2 - e) ≡ length l / 2 = omega (arith, room_for readings u e (length l / 2) (M.next s) q) in
        record {
          same = rw (← less) (sym (at_access M readings (length l / 2 - e) (length l / 2) s e u l b v w sum q) ∙ base);
          up = omega (arith, g.up);
          room = λ h. omega (arith, more);
          long = simp length-set g.long;
          wide = length_stored b (M.store s v) ∙ g.wide;
          fits = g.fits;
        }

  -- a reading is left and the log has room, so a read is done
  pub did_read : {r : ℕ} {s' : M.S} {e' u' : ℕ}
      → M.next s ≡ Read r
      → e < length l₀ / 2
      → u < length readings
      → M.advance s (get_or readings u 0) ≡ s'
      → e' ≡ e + 1
      → u' ≡ u + 1
      → Reaches M readings s₀ e₀ u₀ l₀ b₀ s' e' u' (entered l e (0x100 + r) (get_or readings u 0))
      (stored_in b (M.store s (get_or readings u 0)))
  did_read {r} {s'} n h k a p q =
      let room : e < length l / 2 = omega (arith, h, half) in
      let is : performed readings u e (length l / 2) (M.next s) ≡ Ok ((get_or readings u 0), (u + 1)) =
      rw (n, lt-ltb e (length l / 2) room, lt-ltb u (length readings) k) in
      rw (p, q) (rw (n, a) at (did is))

  -- the log has room, so a write is done
  pub did_write : {r x : ℕ} {s' : M.S} {e' : ℕ} → M.next s ≡ Write r x → e < length l₀ / 2 → M.advance s 0 ≡ s' → e' ≡ e + 1
      → Reaches M readings s₀ e₀ u₀ l₀ b₀ s' e' u (entered l e (0x200 + r) x) (stored_in b (M.store s 0))
  did_write {r} {x} {s'} n h a p =
      let room : e < length l / 2 = omega (arith, h, half) in
      let is : performed readings u e (length l / 2) (M.next s) ≡ Ok (0, u) = rw (n, lt-ltb e (length l / 2) room) in
      rw p (rw (n, a) at (did is))

  -- the log has room, so a mark is made
  pub did_mark : {x : ℕ} {s' : M.S} {e' : ℕ} → M.next s ≡ Mark x → e < length l₀ / 2 → M.advance s 0 ≡ s' → e' ≡ e + 1
      → Reaches M readings s₀ e₀ u₀ l₀ b₀ s' e' u (entered l e (0x300 + x) 0) (stored_in b (M.store s 0))
  did_mark {x} {s'} n h a p =
      let room : e < length l / 2 = omega (arith, h, half) in
      let is : performed readings u e (length l / 2) (M.next s) ≡ Ok (0, u) = rw (n, lt-ltb e (length l / 2) room) in
      rw p (rw (n, a) at (did is))

  -- what performing the access that is next does
  module _ {n : Next} (en : n ≡ M.next s) {d : Performed} {l' : List ℕ}
      (done : (d ≡ performed readings u e (length l / 2) n) × (l' ≡ log_after d l e n)) where
    there : performed readings u e (length l / 2) (M.next s) ≡ d
    there = rw (← en) (sym done.0)

    pub halts : {r : Reply} → d ≡ Err r → final r e u l' b (M.state s) ≡ ran M readings (length l / 2 - e) s e u l b
    halts {r} q =
        let el : l' ≡ l = done.1 ∙ ap (λ (x : Performed). log_after x l e n) q in
        rw el (sym (stops M readings s e u l b (there ∙ q)))

    pub goes : {v w : ℕ} {k : Store} {b' : List ℕ} {s' : M.S} → d ≡ Ok (v, w) → k ≡ M.store s v → b' ≡ stored_in b k → s' ≡ M.advance s v
        → Reaches M readings s₀ e₀ u₀ l₀ b₀ s' (e + 1) w l' b'
    goes {v} {w} q ek eb es =
        let el : l' ≡ log_after (Ok (v, w)) l e n = done.1 ∙ ap (λ (x : Performed). log_after x l e n) q in
        rw (el, eb, ek, es, en) (did (there ∙ q))

    pub has_more : {v w : ℕ} → d ≡ Ok (v, w) → e < length l₀ / 2
    has_more q = more (there ∙ q)

-- the loans of a recording stay the same over two parts of a run
pub keeps_on : {a b c : Recording} → Keeps a b → Keeps b c → Keeps a c
keeps_on x y = record { readings = y.readings ∙ x.readings; loan = y.loan ∙ x.loan; size = y.size ∙ x.size }

pub keeps_all : {a : Recording} → Keeps a a
keeps_all = record { readings = refl; loan = refl; size = refl }

-- what performing the access that is next does, in a recording
pub stopped_by : (d : Performed) {r : Reply} → read_of d ≡ Err r → d ≡ Err r
stopped_by (Ok (v, u)) q = absurd_ok q
  where
    absurd_ok : {r : Reply} → ◌≡◌ {A = Result ℕ Reply} (Ok v) (Err r) → ◌≡◌ {A = Performed} (Ok (v, u)) (Err r)
    absurd_ok p = cc
stopped_by (Err reply) q = cc

pub taken_by : (d : Performed) {v : ℕ} (u : ℕ) → read_of d ≡ Ok v → d ≡ Ok (v, used_after d u)
taken_by (Ok (w, used)) u q = cc
taken_by (Err reply) u q = cc

module _ {M : Machine} {s₀ : M.S} {e₀ u₀ : ℕ} {l₀ b₀ : List ℕ} {s : M.S} {b : List ℕ} {before after : Recording}
    (g : Reaches M before.readings.now s₀ e₀ u₀ l₀ b₀ s before.entries before.used before.log.now b) {n : Next}
    (en : n ≡ M.next s) {outcome : Result ℕ Reply} (p : Performs before n outcome after) where
  abbrev d : Performed
  d = performed_in before n

  pub recording_halts : {r : Reply} → outcome ≡ Err r
      → final r after.entries after.used after.log.now b (M.state s)
      ≡ ran M before.readings.now (length before.log.now / 2 - before.entries) s before.entries before.used before.log.now b
  recording_halts {r} q =
      let is : d ≡ Err r = stopped_by d (sym p.done ∙ q) in
      let u : after.used ≡ before.used = p.used ∙ ap (λ (x : Performed). used_after x before.used) is in
      let e : after.entries ≡ before.entries = p.entries ∙ ap (λ (x : Performed). entries_after x before.entries) is in
      rw (u, e) (halts g en (refl, p.log) is)

  pub recording_goes : {v : ℕ} {k : Store} {b' : List ℕ} {s' : M.S} → outcome ≡ Ok v → k ≡ M.store s v → b' ≡ stored_in b k → s' ≡ M.advance s v
      → Reaches M after.readings.now s₀ e₀ u₀ l₀ b₀ s' after.entries after.used after.log.now b'
  recording_goes {v} {k} {b'} {s'} q ek eb es =
      let is : d ≡ Ok (v, used_after d before.used) = taken_by d before.used (sym p.done ∙ q) in
      let e : after.entries ≡ before.entries + 1 = p.entries ∙ ap (λ (x : Performed). entries_after x before.entries) is in
      rw (p.keeps.readings, p.used, e) (goes g en (refl, p.log) is ek eb es)

  pub recording_has_more : {v : ℕ} → outcome ≡ Ok v → before.entries < length l₀ / 2
  recording_has_more q = has_more g en (refl, p.log) (taken_by d before.used (sym p.done ∙ q))

-- what a part of a run leaves at its end, the run from an earlier state leaves
pub ends : {M : Machine} {readings : List ℕ} {s₀ : M.S} {e₀ u₀ : ℕ} {l₀ b₀ : List ℕ} {s : M.S} {e u : ℕ}
    {l b : List ℕ} {f : Final M.K}
    → Reaches M readings s₀ e₀ u₀ l₀ b₀ s e u l b
    → f ≡ ran M readings (length l / 2 - e) s e u l b → f ≡ ran M readings (length l₀ / 2 - e₀) s₀ e₀ u₀ l₀ b₀
ends g x = x ∙ base g

-- and so does the whole run
pub whole : {M : Machine} {readings : List ℕ} {s₀ : M.S} {l₀ b₀ : List ℕ} {s : M.S} {e u : ℕ} {l b : List ℕ}
    {f : Final M.K}
    → Reaches M readings s₀ 0 0 l₀ b₀ s e u l b
    → f ≡ ran M readings (length l / 2 - e) s e u l b → f ≡ ran M readings (length l₀ / 2) s₀ 0 0 l₀ b₀
whole {l₀ = l₀} g x =
    let z : length l₀ / 2 - 0 ≡ length l₀ / 2 = omega arith in
    rw z at (ends g x)
