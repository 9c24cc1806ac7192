-- Polls of `listen` that find nothing.
use Prim.Native.Nat.{ℕ, ◌+◌, ◌*◌, ◌/◌, ◌<◌, ◌≤◌, ◌^◌}
use native.Mathlib.Omega.{arith}
use mathlib.Core.Bool.{true, not, ◌&&◌, and-false}
use mathlib.Core.List.{List}
use mathlib.Core.Path.{◌≡◌, refl}
use lib.Dec.{eqb}
use lib.ListN.{length, get_or}
use borrow.Author.Tests.{le-ltb, ne_eqb, eqb-true, not-true}
use Rattle.std.specs.Prelude.{None}
use Rattle.regs.proofs.Tests.{both_of}
use Rattle.regs.specs.Program.{PENDING}
use Rattle.regs.specs.Registers.{RAW_INTR_STAT, RXFLR, INTR_MASK}
use Rattle.regs.specs.Fields.{rd_req, stop_det, level}
use Rattle.regs.specs.Inner.Machine.{entered}
use Rattle.slave.specs.declared.SlaveState.{SlaveState}
use Rattle.slave_listen.specs.declared.ListenPoint.TheVariants.{RawIntrStat, Rxflr, IntrMask}
use Rattle.slave_steps.specs.Inner.Machine.{machine, slave}
use Rattle.slave_steps.specs.declared.Slave.{Slave}
use Rattle.slave_steps.specs.declared.Point.TheVariants.{Listening}
use Rattle.regs_runs.specs.Inner.Reaches.{Reaches}
use Rattle.regs.specs.declared.access.Recording.{Recording}
use Rattle.regs_runs.specs.Inner.Puts.{Puts}
use Rattle.regs_runs.proofs.Reach.{stays, then, keeps_all, keeps_on, did_read, did_write, did_mark}
use Rattle.slave_fast_polls.specs.Inner.Idles.{Awaits, idle_listen}

module _ (bytes : List ℕ) {readings : List ℕ} (me : SlaveState) (none : me.pending_byte ≡ None) {s₀ : Slave}
    {e₀ u₀ : ℕ} {l₀ b₀ : List ℕ} (places i : ℕ) {e u : ℕ} {l b : List ℕ} where
  poll_awaits : Reaches (machine bytes) readings s₀ e₀ u₀ l₀ b₀ (slave me places (Listening (RawIntrStat i))) e u l b → i < places
      → idle_listen (get_or readings u 0) (get_or readings (u + 1) 0) ≡ true → e + 4 ≤ length l₀ / 2 → u + 2 ≤ length readings
      → Reaches (machine bytes) readings s₀ e₀ u₀ l₀ b₀ (slave me places (Listening (RawIntrStat i))) (e + 4) (u + 2)
      (entered (entered (entered (entered l e (0x100 + RAW_INTR_STAT) (get_or readings u 0)) (e + 1) (0x100 + RXFLR)
      (get_or readings (u + 1) 0))
      (e + 2) (0x200 + INTR_MASK) 0x1a24)
      (e + 3) (0x300 + PENDING) 0)
      b
  poll_awaits g more idle room left =
      let M = machine bytes in
      let stat = get_or readings u 0 in
      let filled = get_or readings (u + 1) 0 in
      let s₁ = both_of (not (rd_req stat)) (not (stop_det stat) && eqb (level filled) 0) idle in
      let s₂ = both_of (not (stop_det stat)) (eqb (level filled) 0) s₁.1 in
      let empty : level filled ≡ 0 = eqb-true (level filled) 0 s₂.1 in
      let g₁ = did_read g {s' = slave me places (Listening (Rxflr stat i))} refl (omega (arith, room))
      (omega (arith, left)) refl refl refl in
      let q₂ : e + 2 ≡ e + 1 + 1 = omega arith in
      let v₂ : u + 2 ≡ u + 1 + 1 = omega arith in
      let a₂ : M.advance (slave me places (Listening (Rxflr stat i))) filled ≡ slave me places (Listening (IntrMask i)) =
      rw (
        none,
        le-ltb 0 (level filled) (omega (arith, empty)),
        ne_eqb places i (λ (z : places ≡ i). omega (arith, more, z)),
        not-true (rd_req stat) s₁.0,
        not-true (stop_det stat) s₂.0,
        and-false,
        and-false,
      ) in
      let w₂ : M.store (slave me places (Listening (Rxflr stat i))) filled ≡ None =
      rw (none, le-ltb 0 (level filled) (omega (arith, empty))) in
      let g₂ = rw w₂ at (did_read g₁ refl (omega (arith, room)) (omega (arith, left)) a₂ q₂ v₂) in
      let q₃ : e + 3 ≡ e + 2 + 1 = omega arith in
      let g₃ = did_write g₂ {r = INTR_MASK} {x = 0x1a24} refl (omega (arith, room)) refl q₃ in
      let q₄ : e + 4 ≡ e + 3 + 1 = omega arith in
      did_mark g₃ {x = PENDING} refl (omega (arith, room)) refl q₄

-- no poll, and one poll after the other
pub no_wait : {r : Recording} → length r.log.now < 2 ^ 64 → Awaits r r
no_wait {r} fits = record {
  keeps = keeps_all;
  room = λ h. h;
  reaches = λ bytes me places i b none more. stays (machine bytes) r.readings.now fits;
}

pub wait_after : {r r₁ r₂ : Recording} → Awaits r r₁ → Awaits r₁ r₂ → Awaits r r₂
wait_after x y = record {
  keeps = keeps_on x.keeps y.keeps;
  room = λ h. y.room (x.room h);
  reaches = λ bytes me places i b none more. then (x.reaches bytes me places i b none more)
      (rw x.keeps.readings at (y.reaches bytes me places i b none more));
}

-- the head of the loop, after so many polls
pub record Awaiting (before : Recording) (n : ℕ) (after : Recording) : Type 0 where
  pub awaits : Awaits before after
  pub used : after.used ≡ before.used + n * 2
  pub entries : after.entries ≡ before.entries + n * 4

pub none_waited : {r : Recording} → length r.log.now < 2 ^ 64 → Awaiting r 0 r
none_waited fits = record { awaits = no_wait fits; used = omega arith; entries = omega arith }

pub one_waited : {before r mid : Recording} {n : ℕ}
    → Awaiting before n r
    → Puts r 4
    (entered (entered (entered (entered r.log.now r.entries (0x100 + RAW_INTR_STAT) (get_or r.readings.now r.used 0))
    (r.entries + 1) (0x100 + RXFLR) (get_or r.readings.now (r.used + 1) 0))
    (r.entries + 2) (0x200 + INTR_MASK) 0x1a24)
    (r.entries + 3) (0x300 + PENDING) 0) mid
    → length r.log.now < 2 ^ 64
    → r.used + 2 ≤ length r.readings.now
    → r.entries + 4 ≤ length r.log.now / 2
    → idle_listen (get_or r.readings.now r.used 0) (get_or r.readings.now (r.used + 1) 0) ≡ true
    → Awaiting before (n + 1) (record mid { used = mid.used + 2 })
one_waited {r = r} g put fits left room quiet = record {
  awaits = wait_after g.awaits (record {
    keeps = record { readings = put.keeps.readings; loan = put.keeps.loan; size = put.keeps.size };
    room = λ h. rw (put.entries, put.keeps.size) room;
    reaches = λ bytes me places i b none more. rw (put.entries, put.used, put.log)
        (poll_awaits bytes me none places i (stays (machine bytes) r.readings.now fits) more quiet room left);
  });
  used = omega (arith, put.used, g.used);
  entries = omega (arith, put.entries, g.entries);
}
