-- No poll, one poll after the other, and a poll's entries with its readings.
use Prim.Native.Nat.{ℕ, ◌+◌, ◌/◌, ◌<◌, ◌≤◌, ◌^◌}
use native.Mathlib.Omega.{arith}
use mathlib.Core.Bool.{Bool}
use mathlib.Core.List.{List}
use mathlib.Core.Path.{◌≡◌}
use lib.ListN.{length}
use Rattle.regs.specs.Inner.Recording.{Keeps}
use Rattle.regs.specs.declared.access.Recording.{Recording}
use Rattle.regs.specs.declared.access.Entry.{Entry}
use Rattle.transfer.specs.Inner.Machine.{machine}
use Rattle.transfer.specs.Inner.Points.{with_point}
use Rattle.transfer.specs.declared.Transfer.{Transfer}
use Rattle.transfer.specs.declared.Point.{Point}
use Rattle.regs_runs.specs.Inner.Puts.{Puts, Polled, put_all}
use Rattle.regs_runs.specs.Inner.Reaches.{Reaches}
use Rattle.regs_runs.proofs.Reach.{stays, then, keeps_all, keeps_on}
use Rattle.transfer_fast_polls.specs.Inner.Stays.{Stays}

pub no_poll : {p : Point} {r : Recording} → length r.log.now < 2 ^ 64 → Stays p r r
no_poll {r = r} fits = record {
  keeps = keeps_all;
  room = λ h. h;
  reaches = λ coded kinds lengths bytes t b. stays (machine coded kinds lengths bytes) r.readings.now fits;
}

pub poll_after : {p : Point} {r r₁ r₂ : Recording} → Stays p r r₁ → Stays p r₁ r₂ → Stays p r r₂
poll_after x y = record {
  keeps = keeps_on x.keeps y.keeps;
  room = λ h. y.room (x.room h);
  reaches = λ coded kinds lengths bytes t b. then (x.reaches coded kinds lengths bytes t b)
      (rw x.keeps.readings at (y.reaches coded kinds lengths bytes t b));
}

-- a poll's entries are in the log, and its readings are used
pub polled : {p : Point} {before after : Recording} {quiet : Bool} {m : ℕ} {es : List Entry} → Polled before quiet m es after
    → ((coded : Bool) (kinds lengths bytes : List ℕ) (t : Transfer) (b : List ℕ)
    → Reaches (machine coded kinds lengths bytes) before.readings.now (with_point t p) before.entries before.used
    before.log.now b (with_point t p) (before.entries + length es) (before.used + m) (put_all before.log.now before.entries es) b)
    → Stays p before after
polled x run = record {
  keeps = x.keeps;
  room = λ h. rw (x.entries, x.keeps.size) x.room;
  reaches = λ coded kinds lengths bytes t b. rw (x.entries, x.used, x.log) (run coded kinds lengths bytes t b);
}

-- polls that are counted beforehand stay at each of some points, and took so many readings and entries
pub record Staying {I : Type 0} (at : I → Point) (before : Recording) (u e : ℕ) (after : Recording) : Type 0 where
  pub keeps : Keeps before after
  pub stays : (i : I) → Stays (at i) before after
  pub used : after.used ≡ before.used + u
  pub entries : after.entries ≡ before.entries + e

pub none_yet : {I : Type 0} {at : I → Point} {r : Recording} → length r.log.now < 2 ^ 64 → Staying at r 0 0 r
none_yet fits = record { keeps = keeps_all; stays = λ i. no_poll fits; used = omega arith; entries = omega arith }

pub one_further : {I : Type 0} {at : I → Point} {before r mid : Recording} {u e k u₁ e₁ : ℕ} {l : List ℕ} (m : ℕ)
    → Staying at before u e r
    → Puts r k l mid
    → r.entries + k ≤ length r.log.now / 2
    → u₁ ≡ u + m
    → e₁ ≡ e + k
    → ((i : I) (coded : Bool) (kinds lengths bytes : List ℕ) (t : Transfer) (b : List ℕ)
    → Reaches (machine coded kinds lengths bytes) r.readings.now (with_point t (at i)) r.entries r.used r.log.now b
    (with_point t (at i)) (r.entries + k) (r.used + m) l b)
    → Staying at before u₁ e₁ (record mid { used = mid.used + m })
one_further m g put room readings all run = record {
  keeps = keeps_on g.keeps (record { readings = put.keeps.readings; loan = put.keeps.loan; size = put.keeps.size });
  stays = λ i. poll_after (g.stays i) (record {
    keeps = record { readings = put.keeps.readings; loan = put.keeps.loan; size = put.keeps.size };
    room = λ h. rw (put.entries, put.keeps.size) room;
    reaches = λ coded kinds lengths bytes t b. rw (put.entries, put.used, put.log) (run i coded kinds lengths bytes t b);
  });
  used = omega (arith, put.used, g.used, readings);
  entries = omega (arith, put.entries, g.entries, all);
}
