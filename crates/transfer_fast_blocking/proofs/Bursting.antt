-- No burst, one burst after the other, and a burst's entries with its readings.
use Prim.Native.Nat.{ℕ, ◌+◌, ◌/◌, ◌<◌, ◌≤◌, ◌^◌}
use mathlib.Core.Bool.{Bool}
use mathlib.Core.List.{List}
use mathlib.Core.Path.{◌≡◌, refl, ◌∙◌}
use lib.ListN.{length}
use Rattle.regs.specs.Inner.Recording.{Keeps}
use Rattle.regs.specs.declared.access.Recording.{Recording}
use Rattle.transfer.specs.Inner.Machine.{machine}
use Rattle.transfer.specs.Inner.Points.{with_point}
use Rattle.transfer.specs.declared.Transfer.{Transfer}
use Rattle.transfer.specs.declared.Point.{Point}
use Rattle.regs_runs.specs.Inner.Puts.{Puts}
use Rattle.regs_runs.specs.Inner.Reaches.{Reaches}
use Rattle.regs_runs.proofs.Reach.{stays, then, keeps_all, keeps_on}
use Rattle.transfer_fast_blocking.specs.Inner.Bursts.{Bursts}

module _ {alike : Transfer → Type 0} {bytes : List ℕ} where
  pub no_burst : {p : Point} {r : Recording} {b : List ℕ} → length r.log.now < 2 ^ 64
      → Bursts alike bytes r b p r b p
  no_burst {r = r} fits = record {
    keeps = keeps_all;
    room = λ h. h;
    size = refl;
    reaches = λ coded kinds lengths t same. stays (machine coded kinds lengths bytes) r.readings.now fits;
  }

  pub burst_after : {p p₁ p₂ : Point} {r r₁ r₂ : Recording} {b b₁ b₂ : List ℕ}
      → Bursts alike bytes r b p r₁ b₁ p₁
      → Bursts alike bytes r₁ b₁ p₁ r₂ b₂ p₂
      → Bursts alike bytes r b p r₂ b₂ p₂
  burst_after x y = record {
    keeps = keeps_on x.keeps y.keeps;
    room = λ h. y.room (x.room h);
    size = y.size ∙ x.size;
    reaches = λ coded kinds lengths t same. then (x.reaches coded kinds lengths t same)
        (rw x.keeps.readings at (y.reaches coded kinds lengths t same));
  }

  -- what was recorded and done in a burst
  pub burst_of : {p p' : Point} {before after : Recording} {b b' : List ℕ} {e u : ℕ} {l : List ℕ}
      → Keeps before after
      → after.entries ≡ e
      → after.used ≡ u
      → after.log.now ≡ l
      → e ≤ length before.log.now / 2
      → length b' ≡ length b
      → ((coded : Bool) (kinds lengths : List ℕ) (t : Transfer) → alike t
      → Reaches (machine coded kinds lengths bytes) before.readings.now (with_point t p) before.entries before.used
      before.log.now b (with_point t p') e u l b')
      → Bursts alike bytes before b p after b' p'
  burst_of keeps entries used log room size run = record {
    keeps = keeps;
    room = λ h. rw (entries, keeps.size) room;
    size = size;
    reaches = λ coded kinds lengths t same. rw (entries, used, log) (run coded kinds lengths t same);
  }

  pub burst_put : (m : ℕ) {p p' : Point} {before mid : Recording} {b b' : List ℕ} {n : ℕ} {l : List ℕ} → Puts before n l mid
      → before.entries + n ≤ length before.log.now / 2
      → length b' ≡ length b
      → ((coded : Bool) (kinds lengths : List ℕ) (t : Transfer) → alike t
      → Reaches (machine coded kinds lengths bytes) before.readings.now (with_point t p) before.entries before.used
      before.log.now b (with_point t p') (before.entries + n) (before.used + m) l b')
      → Bursts alike bytes before b p (record mid { used = mid.used + m }) b' p'
  burst_put m put room size run = burst_of
      (record { readings = put.keeps.readings; loan = put.keeps.loan; size = put.keeps.size })
      put.entries (rw put.used) put.log room size run
