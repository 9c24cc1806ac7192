-- `listen`, byte after byte.
use Rattle.std.specs.Prelude.{Some}
use Prim.Native.Nat.{ℕ, ◌+◌, ◌*◌, ◌/◌, ◌-◌, ◌<◌, ◌≤◌, ◌^◌}
use native.Mathlib.Omega.{arith}
use mathlib.Core.Bool.{true, false, not, ◌&&◌}
use mathlib.Core.List.{List}
use mathlib.Core.Path.{◌≡◌, refl}
use lib.Dec.{eqb}
use lib.ListN.{length, get_or, set}
use borrow.Author.Tests.{lt-ltb, not-true}
use Rattle.regs.proofs.Tests.{both_of}
use Rattle.regs.specs.Registers.{STATUS, DATA_CMD}
use Rattle.regs.specs.Fields.{rfne, first_data_byte, dat}
use Rattle.regs.specs.Inner.Machine.{entered}
use Rattle.slave.specs.declared.SlaveState.{SlaveState}
use Rattle.slave_listen.specs.declared.ListenPoint.TheVariants.{Status, DataCmd}
use Rattle.slave_steps.specs.Inner.Machine.{machine, slave}
use Rattle.slave_steps.specs.declared.Slave.{Slave}
use Rattle.slave_steps.specs.declared.Point.TheVariants.{Listening}
use Rattle.regs_runs.specs.Inner.Reaches.{Reaches}
use Rattle.regs_runs.proofs.Reach.{stays, did_read}
use Rattle.regs.specs.declared.access.Recording.{Recording}
use Rattle.regs_runs.specs.Inner.Puts.{Puts}
use Rattle.slave_fast_bytes.specs.declared.listen.Message.{Message}
use Rattle.slave_fast_bytes.specs.Inner.Bursts.{Drains, straight_byte}
use Rattle.slave_fast_bytes.proofs.Polling.{no_drain, drains_on}

module _ (bytes : List ℕ) {readings : List ℕ} (me : SlaveState) {s₀ : Slave} {e₀ u₀ : ℕ} {l₀ b₀ : List ℕ}
    (places stat i : ℕ) {e u : ℕ} {l b : List ℕ} where
  byte_drained : Reaches (machine bytes) readings s₀ e₀ u₀ l₀ b₀ (slave me places (Listening (Status stat i))) e u l b
      → e + 2 ≤ length l₀ / 2
      → u + 2 ≤ length readings
      → rfne (get_or readings u 0) ≡ true
      → not (eqb i 0) && first_data_byte (get_or readings (u + 1) 0) ≡ false
      → i + 1 < places
      → Reaches (machine bytes) readings s₀ e₀ u₀ l₀ b₀ (slave me places (Listening (Status stat (i + 1)))) (e + 2) (u + 2)
      (entered (entered l e (0x100 + STATUS) (get_or readings u 0)) (e + 1) (0x100 + DATA_CMD)
      (get_or readings (u + 1) 0))
      (set b i (dat (get_or readings (u + 1) 0)))
  byte_drained g room left there this more =
      let M = machine bytes in
      let a₁ : M.advance (slave me places (Listening (Status stat i))) (get_or readings u 0)
      ≡ slave me places (Listening (DataCmd stat i)) = rw there in
      let g₁ = did_read g refl (omega (arith, room)) (omega (arith, left)) a₁ refl refl in
      let q : e + 2 ≡ e + 1 + 1 = omega arith in
      let v : u + 2 ≡ u + 1 + 1 = omega arith in
      let a₂ : M.advance (slave me places (Listening (DataCmd stat i))) (get_or readings (u + 1) 0)
      ≡ slave me places (Listening (Status stat (i + 1))) =
      rw (this, lt-ltb i places (omega (arith, more)), lt-ltb (i + 1) places more) in
      let w : M.store (slave me places (Listening (DataCmd stat i))) (get_or readings (u + 1) 0)
      ≡ Some (i, dat (get_or readings (u + 1) 0)) = rw (this, lt-ltb i places (omega (arith, more))) in
      rw w at (did_read g₁ refl (omega (arith, room)) (omega (arith, left)) a₂ q v)

-- a byte's entries are in the log, its readings are used, and it is in its place
pub byte_stored : {m : Message} {before mid : Recording} {b b' : List ℕ}
    → Puts before 2
    (entered (entered before.log.now before.entries (0x100 + STATUS) (get_or before.readings.now before.used 0))
    (before.entries + 1) (0x100 + DATA_CMD) (get_or before.readings.now (before.used + 1) 0)) mid
    → before.used + 2 ≤ length before.readings.now
    → before.entries + 2 ≤ length before.log.now / 2
    → length before.log.now < 2 ^ 64
    → 1 < m.places - m.index
    → straight_byte m.index (get_or before.readings.now before.used 0) (get_or before.readings.now (before.used + 1) 0) ≡ true
    → b' ≡ set b m.index (dat (get_or before.readings.now (before.used + 1) 0))
    → Drains m before b (record m { index = m.index + 1 }) (record mid { used = mid.used + 2 }) b'
byte_stored {m} {before} put left room fits more straight eb =
    let next = not (eqb m.index 0) && first_data_byte (get_or before.readings.now (before.used + 1) 0) in
    let both = both_of (rfne (get_or before.readings.now before.used 0)) (not next) straight in
    record {
      keeps = record { readings = put.keeps.readings; loan = put.keeps.loan; size = put.keeps.size };
      room = λ h. rw (put.entries, put.keeps.size) room;
      up = rw put.entries (omega arith);
      places = refl;
      reaches = λ bytes me none. rw (put.entries, put.used, put.log, eb)
          (byte_drained bytes me m.places m.stat m.index
          (stays (machine bytes) before.readings.now fits) room left
          both.0 (not-true next both.1) (omega (arith, more)));
    }

-- the head of the loop, after so many bytes
pub record Draining (from : Message) (before : Recording) (b : List ℕ) (n : ℕ) (to : Message) (after : Recording)
    (b' : List ℕ) : Type 0 where
  pub came : Drains from before b to after b'
  pub index : to.index ≡ from.index + n
  pub used : after.used ≡ before.used + n * 2
  pub entries : after.entries ≡ before.entries + n * 2

pub none_drained : {m : Message} {r : Recording} {b : List ℕ} → length r.log.now < 2 ^ 64 → Draining m r b 0 m r b
none_drained fits = record { came = no_drain fits; index = omega arith; used = omega arith; entries = omega arith }

pub one_drained : {from m m' : Message} {before r r' : Recording} {b c c' : List ℕ} {n : ℕ}
    → Draining from before b n m r c
    → Drains m r c m' r' c'
    → m'.index ≡ m.index + 1
    → r'.used ≡ r.used + 2
    → r'.entries ≡ r.entries + 2
    → Draining from before b (n + 1) m' r' c'
one_drained d next i u e = record {
  came = drains_on d.came next;
  index = omega (arith, i, d.index);
  used = omega (arith, u, d.used);
  entries = omega (arith, e, d.entries);
}
