-- The places of a round of an async write. With n places left the transfer is where `filling` leads: at the next
-- byte, at the poll after the last place, or past the last byte.
use Prim.Native.Nat.{ℕ, ◌+◌, ◌/◌, ◌-◌, ◌<◌, ◌≤◌, ◌^◌}
use native.Mathlib.Omega.{arith}
use mathlib.Core.Bool.{Bool, true, false, ◌&&◌}
use mathlib.Core.List.{List}
use mathlib.Core.Path.{◌≡◌, refl, ◌∙◌}
use lib.ListN.{length, get_or}
use borrow.Author.Tests.{ne_eqb, lt-ltb, le-ltb}
use Rattle.regs.specs.Registers.{DATA_CMD}
use Rattle.regs.specs.Inner.Machine.{entered}
use Rattle.regs.specs.Inner.Recording.{Keeps, Enters}
use Rattle.regs.specs.declared.access.Recording.{Recording}
use Rattle.transfer.specs.Inner.Points.{with_point}
use Rattle.transfer.specs.Inner.Machine.{machine, moved_to, begun, opened, opened_read, opened_write, next_at}
use Rattle.transfer.specs.Inner.Machine.{next_fill, fill_word, store_at, step_of, step_fill, filling, wait_stop, after_index}
use Rattle.transfer.specs.declared.Transfer.{Transfer}
use Rattle.transfer.specs.Inner.Machine.{StepTaken, go}
use Rattle.std.specs.Prelude.{Some, None, Ok, Err}
use Rattle.transfer.specs.declared.Point.{Point}
use Rattle.transfer.specs.declared.Point.TheVariants.{WriteAsync, Abort}
use Rattle.transfer.specs.declared.FillPoint.TheVariants.{Fill}
use Rattle.transfer.specs.declared.AbortPoint.TheVariants.{Source}
use Rattle.transfer.specs.declared.Caller.TheVariants.{Space}
use Rattle.regs_runs.specs.Inner.Reaches.{Reaches}
use Rattle.regs_runs.proofs.Reach.{stays, then, keeps_all, keeps_on, did_write}
use Rattle.transfer_fast_write_async.specs.Inner.Fills.{Leads, Filled, SameFills}

-- where a step leads does not depend on the point that it is made from
pub from_any_point : (coded : Bool) (kinds lengths : List ℕ) (t : Transfer) (p : Point) (s : StepTaken)
    → moved_to coded kinds lengths (with_point t p) s ≡ moved_to coded kinds lengths t s
unfolding begun opened opened_read opened_write
from_any_point coded kinds lengths t p (Ok (Some q)) = refl
from_any_point coded kinds lengths t p (Ok None) = refl
from_any_point coded kinds lengths t p (Err r) = refl

module _ (coded : Bool) (kinds lengths bytes : List ℕ) {readings : List ℕ} (t : Transfer) {s₀ : Transfer} {e₀ u₀ : ℕ} {l₀ b₀ : List ℕ} (i left : ℕ)
    {e u : ℕ} {l b : List ℕ} where
  -- a byte and a place for it: the word is written
  pub word_written : Reaches (machine coded kinds lengths bytes) readings s₀ e₀ u₀ l₀ b₀
      (moved_to coded kinds lengths t (filling t.operation.len t.operation.send_stop i left)) e u l b
      → 0 < left → i < t.operation.len → e < length l₀ / 2
      → Reaches (machine coded kinds lengths bytes) readings s₀ e₀ u₀ l₀ b₀
      (moved_to coded kinds lengths t (filling t.operation.len t.operation.send_stop (i + 1) (left - 1))) (e + 1) u
      (entered l e (0x200 + DATA_CMD) (fill_word (get_or bytes (t.operation.at + i) 0) i t.operation.len t.operation.send_stop)) b
  unfolding next_at next_fill store_at step_of step_fill filling after_index
  word_written g some before room =
      let p : Point = WriteAsync (Fill i left) in
      let at : Reaches (machine coded kinds lengths bytes) readings s₀ e₀ u₀ l₀ b₀ (with_point t p) e u l b =
      rw (ne_eqb left 0 (λ (z : left ≡ 0). omega (arith, some, z)), lt-ltb i t.operation.len before) at g in
      let next : (machine coded kinds lengths bytes).advance (with_point t p) 0 ≡ moved_to coded kinds lengths t
      (filling t.operation.len t.operation.send_stop (i + 1) (left - 1)) =
      rw (lt-ltb i t.operation.len before) (from_any_point coded kinds lengths t p (filling t.operation.len t.operation.send_stop (i + 1) (left - 1))) in
      did_write at {r = DATA_CMD} {x = fill_word (get_or bytes (t.operation.at + i) 0) i t.operation.len t.operation.send_stop} refl room next refl

-- no place is left: TX_ABRT_SOURCE is next
pub no_place : (len : ℕ) (send_stop : Bool) (i : ℕ) → filling len send_stop i 0 ≡ go (Abort Source (Space i))
unfolding filling
no_place len send_stop i = refl

-- a place is left and no byte: the operation ends
pub no_byte : (len : ℕ) (send_stop : Bool) (i left : ℕ) → i ≡ len → 0 < left → filling len send_stop i left ≡ wait_stop send_stop (Ok tt)
unfolding filling
no_byte len send_stop i left ended some = rw (ne_eqb left 0 (λ (z : left ≡ 0). omega (arith, some, z)), le-ltb i len (omega (arith, ended)))

and_true : (b : Bool) → (b && true) ≡ b
and_true true = refl
and_true false = refl

-- STOP is asked for in the last round alone: before it no byte is the last one
pub same_word : (last : Bool) → (byte i len : ℕ) (send_stop : Bool) → (last ≡ false → i + 1 < len)
    → fill_word byte i len (send_stop && last) ≡ fill_word byte i len send_stop
unfolding fill_word
same_word true byte i len send_stop before = rw (and_true send_stop) refl
same_word false byte i len send_stop before = rw (ne_eqb (i + 1) len (λ (z : i + 1 ≡ len). omega (arith, z, before refl))) refl

module _ {t : Transfer} {bytes : List ℕ} where
  pub no_lead : {s : StepTaken} {r : Recording} → length r.log.now < 2 ^ 64 → Leads t bytes r s r s
  no_lead {r = r} fits = record {
    keeps = keeps_all;
    room = λ h. h;
    reaches = λ coded kinds lengths b t' alike. stays (machine coded kinds lengths bytes) r.readings.now fits;
  }

  pub lead_after : {s s₁ s₂ : StepTaken} {r r₁ r₂ : Recording} → Leads t bytes r s r₁ s₁ → Leads t bytes r₁ s₁ r₂ s₂ → Leads t bytes r s r₂ s₂
  lead_after x y = record {
    keeps = keeps_on x.keeps y.keeps;
    room = λ h. y.room (x.room h);
    reaches = λ coded kinds lengths b t' alike. then (x.reaches coded kinds lengths b t' alike)
        (rw x.keeps.readings at (y.reaches coded kinds lengths b t' alike));
  }

  pub lead_of : {s s' : StepTaken} {before after : Recording} {e u : ℕ} {l : List ℕ}
      → Keeps before after
      → after.entries ≡ e
      → after.used ≡ u
      → after.log.now ≡ l
      → e ≤ length before.log.now / 2
      → ((coded : Bool) (kinds lengths b : List ℕ) (t' : Transfer) → SameFills t t'
      → Reaches (machine coded kinds lengths bytes) before.readings.now (moved_to coded kinds lengths t' s) before.entries
      before.used before.log.now b (moved_to coded kinds lengths t' s') e u l b)
      → Leads t bytes before s after s'
  lead_of keeps entries used log room run = record {
    keeps = keeps;
    room = λ h. rw (entries, keeps.size) room;
    reaches = λ coded kinds lengths b t' alike. rw (entries, used, log) (run coded kinds lengths b t' alike);
  }

-- the loop's head: n of the places are filled
module _ {t : Transfer} {bytes : List ℕ} {from : ℕ} {before : Recording} where
  pub none_filled : length before.log.now < 2 ^ 64 → Filled t bytes from 0 before before
  none_filled fits = record {
    leads = λ space few.
        let all : space - 0 ≡ space = omega arith in
        let first : from + 0 ≡ from = omega arith in
        rw (all, first) (no_lead fits);
    keeps = keeps_all;
    entries = omega arith;
    used = refl;
  }

  pub one_filled : {mid after : Recording} {n w : ℕ}
      → Filled t bytes from n before mid
      → from + n < t.operation.len
      → before.entries + n < length before.log.now / 2
      → length before.log.now < 2 ^ 64
      → w ≡ fill_word (get_or bytes (t.operation.at + (from + n)) 0) (from + n) t.operation.len t.operation.send_stop
      → Enters mid (0x200 + DATA_CMD) w after
      → Filled t bytes from (n + 1) before after
  one_filled {mid} {after} {n} {w} g more room fits ew x =
      let space : mid.entries < length mid.log.now / 2 = rw g.keeps.size (omega (arith, g.entries, room)) in
      let small : length mid.log.now < 2 ^ 64 = rw g.keeps.size fits in
      record {
        leads = λ places few.
            let fewer : places - n - 1 ≡ places - (n + 1) = omega arith in
            let next : from + n + 1 ≡ from + (n + 1) = omega arith in
            lead_after (g.leads places (omega (arith, few)))
            (rw (← fewer, ← next) (lead_of x.keeps x.entries x.used x.log (omega (arith, space))
            (λ coded kinds lengths b t' alike. rw (ew, ← alike.len, ← alike.at, ← alike.send_stop)
            (word_written coded kinds lengths bytes t' (from + n) (places - n)
            (stays (machine coded kinds lengths bytes) mid.readings.now small)
            (omega (arith, few)) (rw alike.len more) space))));
        keeps = keeps_on g.keeps x.keeps;
        entries = omega (arith, x.entries, g.entries);
        used = x.used ∙ g.used;
      }
