-- A response, byte after byte and chunk after chunk.
use Prim.Native.Nat.{ℕ, ◌+◌, ◌*◌, ◌/◌, ◌-◌, ◌<◌, ◌≤◌, ◌^◌}
use native.Mathlib.Omega.{arith}
use mathlib.Core.Bool.{Bool, true, false}
use mathlib.Core.List.{List}
use mathlib.Core.Path.{◌≡◌, refl, ap, ◌∙◌}
use lib.Dec.{ltb}
use lib.ListN.{length, get_or}
use borrow.Author.Tests.{lt-ltb, le-ltb, ltb-false}
use Rattle.regs.specs.Program.{PENDING}
use Rattle.std.specs.Prelude.{if◌then◌else◌}
use Rattle.regs.specs.Registers.{CLR_RD_REQ, DATA_CMD, RAW_INTR_STAT, INTR_MASK}
use Rattle.regs.specs.Fields.{tx_abrt}
use Rattle.regs.specs.Inner.Machine.{entered}
use Rattle.slave.specs.declared.SlaveState.{SlaveState}
use Rattle.slave_respond.specs.Inner.Machine.{response, count_of, byte_at, chunk_end}
use Rattle.slave_respond.specs.declared.Job.{Job}
use Rattle.slave_respond.specs.declared.RespondPoint.{RespondPoint}
use Rattle.slave_respond.specs.declared.RespondPoint.TheVariants.{RawIntrStat, ClrRdReq, DataCmd, IntrMask, Mark}
use Rattle.slave_steps.specs.Inner.Machine.{machine, slave}
use Rattle.slave_steps.specs.declared.Slave.{Slave}
use Rattle.slave_steps.specs.declared.Point.TheVariants.{Responding}
use Rattle.regs_runs.specs.Inner.Reaches.{Reaches}
use Rattle.regs_runs.proofs.Reach.{stays, then, keeps_all, keeps_on, did_read, did_write, did_mark}
use Rattle.regs.specs.declared.access.Recording.{Recording}
use Rattle.regs.specs.Inner.Recording.{Keeps}
use Rattle.regs_runs.specs.Inner.Puts.{Puts}
use Rattle.slave_fast_bytes.specs.Inner.Bursts.{ForAny, Responds, StraightChunk}

-- at byte i of a chunk
abbrev pub sending : ℕ → ℕ → RespondPoint
sending i end = if ltb i end then ClrRdReq i end else IntrMask end

module _ (bytes : List ℕ) {readings : List ℕ} (me : SlaveState) (job : Job) {s₀ : Slave} {e₀ u₀ : ℕ}
    {l₀ b₀ : List ℕ} (count i end : ℕ) {e u : ℕ} {l b : List ℕ} where
  byte_sent : Reaches (machine bytes) readings s₀ e₀ u₀ l₀ b₀
      (slave me count (Responding (response job (sending i end)))) e u l b
      → ((i : ℕ) → byte_at job bytes i ≡ get_or bytes i 0)
      → i < end → e + 2 ≤ length l₀ / 2 → u < length readings
      → Reaches (machine bytes) readings s₀ e₀ u₀ l₀ b₀ (slave me count (Responding (response job (sending (i + 1) end)))) (e + 2) (u + 1)
      (entered (entered l e (0x100 + CLR_RD_REQ) (get_or readings u 0)) (e + 1) (0x200 + DATA_CMD) (get_or bytes i 0)) b
  byte_sent g own more room left =
      let M = machine bytes in
      let within = lt-ltb i end more in
      let at : Reaches M readings s₀ e₀ u₀ l₀ b₀ (slave me count (Responding (response job (ClrRdReq i end)))) e u l b = rw within at g in
      let g₁ = did_read at {s' = slave me count (Responding (response job (DataCmd i end)))} refl
      (omega (arith, room)) left refl refl refl in
      let q : e + 2 ≡ e + 1 + 1 = omega arith in
      let a : M.advance (slave me count (Responding (response job (DataCmd i end)))) 0
      ≡ slave me count (Responding (response job (sending (i + 1) end))) = rw within in
      did_write g₁ {r = DATA_CMD} {x = get_or bytes i 0} (rw (own i)) (omega (arith, room)) a q

  -- a poll that finds no abort
  poll_sends : Reaches (machine bytes) readings s₀ e₀ u₀ l₀ b₀
      (slave me count (Responding (response job (RawIntrStat i)))) e u l b
      → count_of job count ≡ count
      → tx_abrt (get_or readings u 0) ≡ false → i < count → end ≡ chunk_end i count → e < length l₀ / 2 → u < length readings
      → Reaches (machine bytes) readings s₀ e₀ u₀ l₀ b₀
      (slave me count (Responding (response job (ClrRdReq i end)))) (e + 1) (u + 1)
      (entered l e (0x100 + RAW_INTR_STAT) (get_or readings u 0)) b
  poll_sends g own quiet more ends room left =
      let a : (machine bytes).advance (slave me count (Responding (response job (RawIntrStat i))))
      (get_or readings u 0)
      ≡ slave me count (Responding (response job (ClrRdReq i (chunk_end i count)))) =
      rw (quiet, own, lt-ltb i count more) in
      rw ends (did_read g refl room left a refl refl)

  -- until the next poll
  pub waits : Reaches (machine bytes) readings s₀ e₀ u₀ l₀ b₀
      (slave me count (Responding (response job (IntrMask i)))) e u l b
      → e + 2 ≤ length l₀ / 2
      → Reaches (machine bytes) readings s₀ e₀ u₀ l₀ b₀ (slave me count (Responding (response job (RawIntrStat i)))) (e + 2) u
      (entered (entered l e (0x200 + INTR_MASK) 0xd0) (e + 1) (0x300 + PENDING) 0) b
  waits g room =
      let g₁ = did_write g {r = INTR_MASK} {x = 0xd0} {s' = slave me count (Responding (response job (Mark i)))}
      refl (omega (arith, room)) refl refl in
      let q : e + 2 ≡ e + 1 + 1 = omega arith in
      did_mark g₁ {x = PENDING} refl (omega (arith, room)) refl q

-- a chunk has bytes, and ends within the response
pub chunk_bounds : (i count : ℕ) → i < count → (i < chunk_end i count) × (chunk_end i count ≤ count)
chunk_bounds i count more = rw (lt-ltb i count more) (go (ltb (count - i) 16) refl)
  where
    go : (b : Bool) → ltb (count - i) 16 ≡ b → (i < (if b then count else i + 16)) × ((if b then count else i + 16) ≤ count)
    go true e = (more, omega arith)
    go false e = (omega arith, omega (arith, ltb-false (count - i) 16 e, more))

-- the head of the loop over a chunk's bytes, at byte i
pub record Sending (from end : ℕ) (bytes : List ℕ) (before : Recording) (i : ℕ) (after : Recording) : Type 0 where
  pub came : ForAny (λ (count : ℕ). Responds count bytes (ClrRdReq from end) before (sending i end) after)
  pub counted : after.entries + from * 2 ≡ before.entries + i * 2
  pub taken : after.used + from ≡ before.used + i
  pub keeps : Keeps before after

module _ {from end : ℕ} {bytes : List ℕ} {before : Recording} where
  pub none_sent : from < end
      → length before.log.now < 2 ^ 64
      → Sending from end bytes before from before
  none_sent some fits =
      record {
        came = λ count. record {
          keeps = keeps_all;
          room = λ h. h;
          reaches = λ me job b own same. rw (lt-ltb from end some) (stays (machine bytes) before.readings.now fits);
        };
        counted = refl;
        taken = refl;
        keeps = keeps_all;
      }

  pub one_sent : {i : ℕ} {r mid : Recording}
      → Sending from end bytes before i r
      → i < end
      → r.entries + 2 ≤ length r.log.now / 2
      → r.used < length r.readings.now
      → Puts r 2 (entered (entered r.log.now r.entries (0x100 + CLR_RD_REQ) (get_or r.readings.now r.used 0))
      (r.entries + 1) (0x200 + DATA_CMD) (get_or bytes i 0)) mid
      → Sending from end bytes before (i + 1) (record mid { used = mid.used + 1 })
  one_sent {i} {r} {mid} g within room left put =
      let on : Keeps r mid = put.keeps in
      let e : length r.log.now / 2 ≡ length before.log.now / 2 = ap (λ (x : ℕ). x / 2) g.keeps.size in
      let all : Keeps before (record mid { used = mid.used + 1 }) =
      record {
        readings = on.readings ∙ g.keeps.readings;
        loan = on.loan ∙ g.keeps.loan;
        size = on.size ∙ g.keeps.size;
      } in
      record {
        came = λ count. record {
          keeps = all;
          room = λ h. rw (put.entries, put.keeps.size) room;
          reaches = λ me job b own same. rw (put.entries, put.used, put.log, ← g.keeps.readings)
              (byte_sent bytes me job count i end
              (rw (← g.keeps.readings) at ((g.came count).reaches me job b own same)) same within
              (omega (arith, room, e)) left);
        };
        counted = omega (arith, g.counted, put.entries);
        taken = omega (arith, g.taken, put.used);
        keeps = all;
      }

  pub all_sent : {i : ℕ} {r : Recording}
      → Sending from end bytes before i r
      → end ≤ i
      → ForAny (λ (count : ℕ). Responds count bytes (ClrRdReq from end) before (IntrMask end) r)
  all_sent {i} g z = rw (le-ltb i end z) at g.came

module _ {count : ℕ} {bytes : List ℕ} where
  pub no_chunk : {p : RespondPoint} {r : Recording}
      → length r.log.now < 2 ^ 64
      → Responds count bytes p r p r
  no_chunk {r = r} fits =
      record {
        keeps = keeps_all;
        room = λ h. h;
        reaches = λ me job b own same. stays (machine bytes) r.readings.now fits;
      }

  pub responds_on : {p p₁ p₂ : RespondPoint} {r r₁ r₂ : Recording}
      → Responds count bytes p r p₁ r₁
      → Responds count bytes p₁ r₁ p₂ r₂
      → Responds count bytes p r p₂ r₂
  responds_on f g = record {
    keeps = keeps_on f.keeps g.keeps;
    room = λ h. g.room (f.room h);
    reaches = λ me job b own same. (then) (f.reaches me job b own same) (rw f.keeps.readings at (g.reaches me job b own same));
  }

  -- the poll before a chunk
  pub chunk_polled : {i end : ℕ} {r mid : Recording}
      → StraightChunk r i count end
      → length r.log.now < 2 ^ 64
      → Puts r 1 (entered r.log.now r.entries (0x100 + RAW_INTR_STAT) (get_or r.readings.now r.used 0)) mid
      → Responds count bytes (RawIntrStat i) r (ClrRdReq i end) (record mid { used = mid.used + 1 })
  chunk_polled {i} {end} {r} s fits put = record {
    keeps = record { readings = put.keeps.readings; loan = put.keeps.loan; size = put.keeps.size };
    room = λ h. rw (put.entries, put.keeps.size) (omega (arith, s.fits));
    reaches = λ me job b own same. rw (put.entries, put.used, put.log)
        (poll_sends bytes me job count i end (stays (machine bytes) r.readings.now fits)
        own s.quiet s.before s.ends (omega (arith, s.fits)) (omega (arith, s.left)));
  }

  -- the wait behind it
  pub chunk_waited : {i : ℕ} {r mid : Recording}
      → r.entries + 2 ≤ length r.log.now / 2
      → length r.log.now < 2 ^ 64
      → Puts r 2 (entered (entered r.log.now r.entries (0x200 + INTR_MASK) 0xd0) (r.entries + 1) (0x300 + PENDING) 0) mid
      → Responds count bytes (IntrMask i) r (RawIntrStat i) mid
  chunk_waited {i} {r} room fits put = record {
    keeps = put.keeps;
    room = λ h. rw (put.entries, put.keeps.size) room;
    reaches = λ me job b own same. rw (put.entries, put.used, put.log)
        (waits bytes me job count i i (stays (machine bytes) r.readings.now fits) room);
  }
