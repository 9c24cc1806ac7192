-- Polls that find nothing to do.
use Prim.Native.Nat.{ℕ, ◌+◌, ◌*◌, ◌/◌, ◌<◌, ◌≤◌, ◌^◌}
use native.Mathlib.Omega.{arith}
use mathlib.Core.Bool.{true, not, ◌&&◌}
use mathlib.Core.List.{List}
use mathlib.Core.Path.{◌≡◌, refl}
use lib.ListN.{length, get_or}
use borrow.Author.Tests.{le-ltb, not-true}
use Rattle.regs.proofs.Tests.{both_of}
use Rattle.regs.specs.Program.{PENDING}
use Rattle.regs.specs.Registers.{RAW_INTR_STAT, INTR_MASK}
use Rattle.regs.specs.Fields.{tx_abrt, tx_empty, rd_req, rx_done}
use Rattle.regs.specs.Inner.Machine.{entered}
use Rattle.slave.specs.declared.SlaveState.{SlaveState}
use Rattle.slave_respond.specs.Inner.Machine.{response, count_of}
use Rattle.slave_respond.specs.declared.Job.{Job}
use Rattle.slave_respond.specs.declared.RespondPoint.TheVariants.{RawIntrStat, IntrMask}
use Rattle.slave_steps.specs.Inner.Machine.{machine, slave}
use Rattle.slave_steps.specs.declared.Slave.{Slave}
use Rattle.slave_steps.specs.declared.Point.TheVariants.{Responding}
use Rattle.regs_runs.specs.Inner.Reaches.{Reaches}
use Rattle.regs.specs.declared.access.Recording.{Recording}
use Rattle.regs_runs.specs.Inner.Puts.{Puts}
use Rattle.regs_runs.proofs.Reach.{stays, then, keeps_all, keeps_on, did_read}
use Rattle.slave_fast_polls.specs.Inner.Idles.{Idles, idle_poll}
use Rattle.slave_fast_bytes.proofs.Sending.{waits}

module _ (bytes : List ℕ) {readings : List ℕ} (me : SlaveState) (job : Job) {s₀ : Slave} {e₀ u₀ : ℕ}
    {l₀ b₀ : List ℕ} (count i : ℕ) {e u : ℕ} {l b : List ℕ} where
  poll_idle : Reaches (machine bytes) readings s₀ e₀ u₀ l₀ b₀
      (slave me count (Responding (response job (RawIntrStat i)))) e u l b
      → count_of job count ≤ i
      → idle_poll (get_or readings u 0) ≡ true → e + 3 ≤ length l₀ / 2 → u < length readings
      → Reaches (machine bytes) readings s₀ e₀ u₀ l₀ b₀ (slave me count (Responding (response job (RawIntrStat i)))) (e + 3) (u + 1)
      (entered (entered (entered l e (0x100 + RAW_INTR_STAT) (get_or readings u 0)) (e + 1) (0x200 + INTR_MASK) 0xd0)
      (e + 2) (0x300 + PENDING) 0)
      b
  poll_idle g sent idle room left =
      let stat = get_or readings u 0 in
      let s₁ = both_of (not (tx_abrt stat)) (not (rx_done stat) && not (rd_req stat && tx_empty stat)) idle in
      let s₂ = both_of (not (rx_done stat)) (not (rd_req stat && tx_empty stat)) s₁.1 in
      let a : (machine bytes).advance (slave me count (Responding (response job (RawIntrStat i)))) stat
      ≡ slave me count (Responding (response job (IntrMask i))) =
      rw (
        not-true (tx_abrt stat) s₁.0,
        le-ltb i (count_of job count) sent,
        not-true (rx_done stat) s₂.0,
        not-true (rd_req stat && tx_empty stat) s₂.1,
      ) in
      let g₁ = did_read g refl (omega (arith, room)) left a refl refl in
      let q₂ : e + 1 + 1 ≡ e + 2 = omega arith in
      let q₃ : e + 1 + 2 ≡ e + 3 = omega arith in
      rw (q₂, q₃) at (waits bytes me job count i i g₁ (omega (arith, room)))

-- no poll, and one poll after the other
pub no_idle : {r : Recording} → length r.log.now < 2 ^ 64 → Idles r r
no_idle {r} fits = record {
  keeps = keeps_all;
  room = λ h. h;
  reaches = λ bytes me job count i b sent. stays (machine bytes) r.readings.now fits;
}

pub idle_after : {r r₁ r₂ : Recording} → Idles r r₁ → Idles r₁ r₂ → Idles r r₂
idle_after x y = record {
  keeps = keeps_on x.keeps y.keeps;
  room = λ h. y.room (x.room h);
  reaches = λ bytes me job count i b sent. then (x.reaches bytes me job count i b sent)
      (rw x.keeps.readings at (y.reaches bytes me job count i b sent));
}

-- the head of the loop, after so many polls
pub record Idling (before : Recording) (n : ℕ) (after : Recording) : Type 0 where
  pub idles : Idles before after
  pub used : after.used ≡ before.used + n
  pub entries : after.entries ≡ before.entries + n * 3

pub none_idled : {r : Recording} → length r.log.now < 2 ^ 64 → Idling r 0 r
none_idled fits = record { idles = no_idle fits; used = omega arith; entries = omega arith }

pub one_idled : {before r mid : Recording} {n : ℕ}
    → Idling before n r
    → Puts r 3
    (entered (entered (entered r.log.now r.entries (0x100 + RAW_INTR_STAT) (get_or r.readings.now r.used 0))
    (r.entries + 1) (0x200 + INTR_MASK) 0xd0)
    (r.entries + 2) (0x300 + PENDING) 0) mid
    → length r.log.now < 2 ^ 64
    → r.used < length r.readings.now
    → r.entries + 3 ≤ length r.log.now / 2
    → idle_poll (get_or r.readings.now r.used 0) ≡ true
    → Idling before (n + 1) (record mid { used = mid.used + 1 })
one_idled {r = r} g put fits left room quiet = record {
  idles = idle_after g.idles (record {
    keeps = record { readings = put.keeps.readings; loan = put.keeps.loan; size = put.keeps.size };
    room = λ h. rw (put.entries, put.keeps.size) room;
    reaches = λ bytes me job count i b sent. rw (put.entries, put.used, put.log)
        (poll_idle bytes me job count i (stays (machine bytes) r.readings.now fits) sent quiet room left);
  });
  used = omega (arith, put.used, g.used);
  entries = omega (arith, put.entries, g.entries);
}
