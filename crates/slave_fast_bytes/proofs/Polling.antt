-- `listen`, poll after poll.
use Prim.Native.Nat.{ℕ, ◌+◌, ◌/◌, ◌<◌, ◌≤◌, ◌^◌}
use native.Mathlib.Omega.{arith}
use mathlib.Core.Bool.{true, false, not, ◌&&◌, and-false}
use mathlib.Core.List.{List}
use mathlib.Core.Path.{◌≡◌, refl, ◌∙◌}
use lib.Dec.{eqb}
use lib.ListN.{length, get_or}
use borrow.Author.Tests.{lt-ltb, ne_eqb, eqb-false, not-true}
use Rattle.std.specs.Prelude.{None}
use Rattle.regs.proofs.Tests.{both_of}
use Rattle.regs.specs.Registers.{STATUS, RX_TL, INTR_MASK, RAW_INTR_STAT, RXFLR}
use Rattle.regs.specs.Program.{PENDING}
use Rattle.regs.specs.Fields.{rfne, rd_req, stop_det, level}
use Rattle.regs.specs.Inner.Machine.{entered}
use Rattle.slave.specs.declared.SlaveState.{SlaveState}
use Rattle.slave_listen.specs.declared.ListenPoint.TheVariants.{Status, Watermark, IntrMask, RawIntrStat, Rxflr}
use Rattle.slave_steps.specs.Inner.Machine.{machine, slave}
use Rattle.slave_steps.specs.declared.Slave.{Slave}
use Rattle.slave_steps.specs.declared.Point.TheVariants.{Listening}
use Rattle.regs_runs.specs.Inner.Reaches.{Reaches}
use Rattle.regs_runs.proofs.Reach.{stays, then, keeps_all, keeps_on, did_read, did_write, did_mark}
use Rattle.regs.specs.declared.access.Recording.{Recording}
use Rattle.regs_runs.specs.Inner.Puts.{Puts}
use Rattle.slave_fast_bytes.specs.declared.listen.Message.{Message}
use Rattle.slave_fast_bytes.specs.Inner.Bursts.{Drains, ForAny, straight_poll}

module _ (bytes : List ℕ) {readings : List ℕ} (me : SlaveState) (none : me.pending_byte ≡ None) {s₀ : Slave}
    {e₀ u₀ : ℕ} {l₀ b₀ : List ℕ} (places stat i : ℕ) {e u : ℕ} {l b : List ℕ} where
  -- the FIFO is empty: RX_TL, INTR_MASK and a mark
  waits : Reaches (machine bytes) readings s₀ e₀ u₀ l₀ b₀ (slave me places (Listening (Status stat i))) e u l b
      → e + 4 ≤ length l₀ / 2
      → u < length readings
      → rfne (get_or readings u 0) ≡ false → rd_req stat ≡ false → stop_det stat ≡ false → i < places
      → Reaches (machine bytes) readings s₀ e₀ u₀ l₀ b₀ (slave me places (Listening (RawIntrStat i))) (e + 4) (u + 1)
      (entered (entered (entered (entered l e (0x100 + STATUS) (get_or readings u 0)) (e + 1) (0x200 + RX_TL) 11)
      (e + 2) (0x200 + INTR_MASK) 0x1a24)
      (e + 3) (0x300 + PENDING) 0)
      b
  waits g room left empty quiet on more =
      let M = machine bytes in
      let a₁ : M.advance (slave me places (Listening (Status stat i))) (get_or readings u 0)
      ≡ slave me places (Listening (Watermark stat i)) = rw empty in
      let g₁ = did_read g refl (omega (arith, room)) left a₁ refl refl in
      let q₂ : e + 2 ≡ e + 1 + 1 = omega arith in
      let a₂ : M.advance (slave me places (Listening (Watermark stat i))) 0 ≡ slave me places (Listening (IntrMask i)) =
      rw (ne_eqb places i (λ (z : places ≡ i). omega (arith, more, z)), quiet, on, and-false, and-false) in
      let g₂ = did_write g₁ {r = RX_TL} {x = 11} refl (omega (arith, room)) a₂ q₂ in
      let q₃ : e + 3 ≡ e + 2 + 1 = omega arith in
      let g₃ = did_write g₂ {r = INTR_MASK} {x = 0x1a24} refl (omega (arith, room)) refl q₃ in
      let q₄ : e + 4 ≡ e + 3 + 1 = omega arith in
      did_mark g₃ {x = PENDING} refl (omega (arith, room)) refl q₄

  -- the next poll
  polls : Reaches (machine bytes) readings s₀ e₀ u₀ l₀ b₀ (slave me places (Listening (RawIntrStat i))) e u l b
      → e + 2 ≤ length l₀ / 2
      → u + 2 ≤ length readings
      → 0 < level (get_or readings (u + 1) 0) → i < places
      → Reaches (machine bytes) readings s₀ e₀ u₀ l₀ b₀ (slave me places (Listening (Status (get_or readings u 0) i))) (e + 2) (u + 2)
      (entered (entered l e (0x100 + RAW_INTR_STAT) (get_or readings u 0)) (e + 1) (0x100 + RXFLR) (get_or readings (u + 1) 0)) b
  polls g room left filled more =
      let M = machine bytes in
      let g₁ = did_read g {s' = slave me places (Listening (Rxflr (get_or readings u 0) i))} refl
      (omega (arith, room)) (omega (arith, left)) refl refl refl in
      let q : e + 2 ≡ e + 1 + 1 = omega arith in
      let v : u + 2 ≡ u + 1 + 1 = omega arith in
      let a : M.advance (slave me places (Listening (Rxflr (get_or readings u 0) i))) (get_or readings (u + 1) 0)
      ≡ slave me places (Listening (Status (get_or readings u 0) i)) =
      rw (none, lt-ltb 0 (level (get_or readings (u + 1) 0)) filled, lt-ltb i places more) in
      let w : M.store (slave me places (Listening (Rxflr (get_or readings u 0) i))) (get_or readings (u + 1) 0)
      ≡ None = rw (none, lt-ltb 0 (level (get_or readings (u + 1) 0)) filled) in
      rw w at (did_read g₁ refl (omega (arith, room)) (omega (arith, left)) a q v)

-- a poll's entries are in the log, and its readings are used
pub poll_made : {m : Message} {before mid : Recording}
    → Puts before 6
    (entered (entered (entered (entered (entered (entered before.log.now before.entries
    (0x100 + STATUS) (get_or before.readings.now before.used 0))
    (before.entries + 1) (0x200 + RX_TL) 11)
    (before.entries + 2) (0x200 + INTR_MASK) 0x1a24)
    (before.entries + 3) (0x300 + PENDING) 0)
    (before.entries + 4) (0x100 + RAW_INTR_STAT) (get_or before.readings.now (before.used + 1) 0))
    (before.entries + 5) (0x100 + RXFLR) (get_or before.readings.now (before.used + 2) 0)) mid
    → before.used + 3 ≤ length before.readings.now
    → before.entries + 6 ≤ length before.log.now / 2
    → length before.log.now < 2 ^ 64
    → m.index < m.places
    → straight_poll m.stat (get_or before.readings.now before.used 0) (get_or before.readings.now (before.used + 2) 0) ≡ true
    → ForAny (λ (b : List ℕ). Drains m before b (record m { stat = get_or before.readings.now (before.used + 1) 0 })
    (record mid { used = mid.used + 3 }) b)
poll_made {m} {before} put left room fits more straight = λ b. record {
  keeps = record { readings = put.keeps.readings; loan = put.keeps.loan; size = put.keeps.size };
  room = λ h. rw (put.entries, put.keeps.size) room;
  up = rw put.entries (omega arith);
  places = refl;
  reaches = λ bytes me none.
      let stat = m.stat in
      let entries = before.entries in
      let used = before.used in
      let status = get_or before.readings.now used 0 in
      let filled = get_or before.readings.now (used + 2) 0 in
      let s₁ = both_of (not (rfne status)) (not (rd_req stat) && (not (stop_det stat) && not (eqb (level filled) 0))) straight in
      let s₂ = both_of (not (rd_req stat)) (not (stop_det stat) && not (eqb (level filled) 0)) s₁.1 in
      let s₃ = both_of (not (stop_det stat)) (not (eqb (level filled) 0)) s₂.1 in
      let some : (level filled ≡ 0) → ⊥ = eqb-false (level filled) 0 (not-true (eqb (level filled) 0) s₃.1) in
      let u₂ : used + 1 + 1 ≡ used + 2 = omega arith in
      let u₃ : used + 1 + 2 ≡ used + 3 = omega arith in
      let q₅ : entries + 4 + 1 ≡ entries + 5 = omega arith in
      let q₆ : entries + 4 + 2 ≡ entries + 6 = omega arith in
      let g₀ = stays (machine bytes) before.readings.now {s = slave me m.places (Listening (Status stat m.index))}
      {e = entries} {u = used} {l = before.log.now} {b = b} fits in
      let g₄ = waits bytes me none m.places stat m.index g₀ (omega (arith, room)) (omega (arith, left))
      (not-true (rfne status) s₁.0) (not-true (rd_req stat) s₂.0) (not-true (stop_det stat) s₃.0)
      more in
      let g₆ = polls bytes me none m.places stat m.index g₄ (omega (arith, room)) (omega (arith, left))
      (rw u₂ (omega (arith, some))) more in
      rw (put.entries, put.used, put.log) (rw (u₂, u₃, q₅, q₆) at g₆);
}

-- nothing was done, and one part after the other
pub no_drain : {m : Message} {r : Recording} {b : List ℕ}
    → length r.log.now < 2 ^ 64
    → Drains m r b m r b
no_drain {r = r} fits = record {
  keeps = keeps_all;
  room = λ h. h;
  up = omega arith;
  places = refl;
  reaches = λ bytes me none. stays (machine bytes) r.readings.now fits;
}

pub drains_on : {m m₁ m₂ : Message} {r r₁ r₂ : Recording} {b b₁ b₂ : List ℕ}
    → Drains m r b m₁ r₁ b₁
    → Drains m₁ r₁ b₁ m₂ r₂ b₂
    → Drains m r b m₂ r₂ b₂
drains_on f g = record {
  keeps = keeps_on f.keeps g.keeps;
  room = λ h. g.room (f.room h);
  up = omega (arith, f.up, g.up);
  places = g.places ∙ f.places;
  reaches = λ bytes me none. then (f.reaches bytes me none) (rw (f.keeps.readings, f.places) at (g.reaches bytes me none));
}
