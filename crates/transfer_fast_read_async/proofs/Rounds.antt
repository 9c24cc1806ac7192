-- Rounds of an async read.
use Prim.Native.Nat.{ℕ, ◌+◌, ◌/◌, ◌-◌, ◌<◌, ◌≤◌, ◌^◌, min}
use native.Mathlib.Omega.{arith}
use mathlib.Core.Bool.{Bool}
use mathlib.Core.List.{List}
use mathlib.Core.Path.{◌≡◌, refl, ◌∙◌}
use lib.ListN.{length, get_or}
use borrow.Author.Tests.{le-ltb, eq-eqb, ne_eqb}
use Rattle.regs.specs.Registers.{TXFLR, RXFLR, TX_ABRT_SOURCE}
use Rattle.regs.specs.Fields.{level}
use Rattle.regs.specs.Inner.Machine.{entered}
use Rattle.regs.specs.declared.access.Recording.{Recording}
use Rattle.transfer.specs.declared.Round.{Round}
use Rattle.transfer.specs.Inner.Points.{with_point}
use Rattle.transfer.specs.Inner.Machine.{machine, next_at, next_round, next_abort, store_at, store_round, step_of}
use Rattle.transfer.specs.Inner.Machine.{step_round, step_abort, batch_step, places, queued, returned, fetching}
use Rattle.transfer.specs.declared.Transfer.{Transfer}
use Rattle.transfer.specs.declared.Point.TheVariants.{ReadAsync, Abort}
use Rattle.transfer.specs.declared.RoundPoint.TheVariants.{Capacity, Queue, Level, Fetch}
use Rattle.transfer.specs.declared.AbortPoint.TheVariants.{Source}
use Rattle.transfer.specs.declared.Caller.TheVariants.{Batch}
use Rattle.regs_runs.specs.Inner.Reaches.{Reaches}
use Rattle.regs_runs.specs.Inner.Puts.{Reads}
use Rattle.regs_runs.proofs.Reach.{stays, keeps_on, did_read}
use Rattle.transfer_fast_blocking.specs.Inner.Bursts.{Bursts}
use Rattle.transfer_fast_blocking.proofs.Bursting.{burst_after, burst_of}
use Rattle.transfer_fast_read_async.specs.Inner.Rounds.{round, Queued, Fetched, SameRounds}
use Rattle.transfer_fast_read_async.specs.Inner.Rounds.{StraightRound, after_round}

module _ (coded : Bool) (kinds lengths bytes : List ℕ) {readings : List ℕ} (t : Transfer) {s₀ : Transfer} {e₀ u₀ : ℕ}
    {l₀ b₀ : List ℕ} (remaining queue batch words count : ℕ) {e u : ℕ} {l b : List ℕ} where
  -- TXFLR
  pub counted : Reaches (machine coded kinds lengths bytes) readings s₀ e₀ u₀ l₀ b₀
      (with_point t (ReadAsync (Capacity (round remaining queue batch)))) e u l b
      → 0 < words
      → words ≡ min queue (16 - level (get_or readings u 0)) → e < length l₀ / 2 → u < length readings
      → Reaches (machine coded kinds lengths bytes) readings s₀ e₀ u₀ l₀ b₀
      (with_point t (ReadAsync (Queue (round remaining queue words) words))) (e + 1) (u + 1)
      (entered l e (0x100 + TXFLR) (get_or readings u 0)) b
  unfolding next_at next_round store_at store_round step_of step_round batch_step places queued
  counted g some are room left =
      let n = level (get_or readings u 0) in
      let low : n < 16 = omega (arith, some, are) in
      let a : (machine coded kinds lengths bytes).advance
      (with_point t (ReadAsync (Capacity (round remaining queue batch)))) (get_or readings u 0)
      ≡ with_point t (ReadAsync (Queue (round remaining queue words) words)) =
      rw (le-ltb 16 n (omega (arith, low)), ← are, ne_eqb words 0 (λ (z : words ≡ 0). omega (arith, some, z))) in
      did_read g refl room left a refl refl

  -- RXFLR and TX_ABRT_SOURCE
  pub polled : Reaches (machine coded kinds lengths bytes) readings s₀ e₀ u₀ l₀ b₀
      (with_point t (ReadAsync (Level (round remaining queue batch)))) e u l b
      → 0 < batch
      → 0 < remaining
      → batch ≤ level (get_or readings u 0)
      → get_or readings (u + 1) 0 ≡ 0
      → count ≡ min (level (get_or readings u 0)) remaining
      → e + 2 ≤ length l₀ / 2
      → u + 2 ≤ length readings
      → Reaches (machine coded kinds lengths bytes) readings s₀ e₀ u₀ l₀ b₀
      (with_point t (ReadAsync (Fetch (round (remaining - count) queue batch) count))) (e + 2) (u + 2)
      (entered (entered l e (0x100 + RXFLR) (get_or readings u 0)) (e + 1) (0x100 + TX_ABRT_SOURCE) (get_or readings (u + 1) 0)) b
  unfolding next_at next_round next_abort store_at store_round step_of step_round step_abort returned fetching
  polled g some remains filled quiet are room left =
      let g₁ = did_read g refl (omega (arith, room)) (omega (arith, left)) refl refl refl in
      let n = level (get_or readings u 0) in
      let q : e + 2 ≡ e + 1 + 1 = omega arith in
      let v : u + 2 ≡ u + 1 + 1 = omega arith in
      let got : count ≡ 0 → ⊥ = λ (z : count ≡ 0). omega (arith, some, remains, filled, are, z) in
      let a : (machine coded kinds lengths bytes).advance
      (with_point t (Abort Source (Batch (round remaining queue batch) n))) (get_or readings (u + 1) 0)
      ≡ with_point t (ReadAsync (Fetch (round (remaining - count) queue batch) count)) =
      rw (eq-eqb (get_or readings (u + 1) 0) 0 quiet, le-ltb n batch filled, ← are, ne_eqb count 0 got) in
      did_read g₁ refl (omega (arith, room)) (omega (arith, left)) a q v

-- a round: TXFLR is read, the words are queued, RXFLR and TX_ABRT_SOURCE are read, and the bytes are fetched
pub round_done : {t : Transfer} {x : Round} {words count : ℕ} {r r₁ r₂ r₃ r₄ r₅ : Recording} {b b' : List ℕ} {v₁ v₃ v₄ : ℕ}
    → StraightRound r x words count
    → length r.log.now < 2 ^ 64
    → Reads r TXFLR v₁ r₁
    → Queued t x.queue words r₁ r₂
    → Reads r₂ RXFLR v₃ r₃
    → Reads r₃ TX_ABRT_SOURCE v₄ r₄
    → Fetched t (x.remaining - count) count r₄ b r₅ b'
    → (bytes : List ℕ)
    → Bursts (SameRounds t) bytes r b (ReadAsync (Capacity x)) r₅ b' (ReadAsync (Capacity (after_round x words count)))
round_done {t} {x} {words} {count} {r} {r₁} {r₂} {r₃} {r₄} {r₅} {b} {b'} s fits e₁ q e₃ e₄ f bytes =
    let room : r.entries + 1 ≤ length r.log.now / 2 = omega (arith, s.fits) in
    let g₁ : Bursts (SameRounds t) bytes r b (ReadAsync (Capacity x)) r₁ b
    (ReadAsync (Queue (round x.remaining x.queue words) words)) =
    burst_of e₁.keeps e₁.entries e₁.used e₁.log room refl
    (λ coded kinds lengths t' alike. rw e₁.value
    (counted coded kinds lengths bytes t' x.remaining x.queue x.batch words count
    (stays (machine coded kinds lengths bytes) r.readings.now fits) s.some s.words_are
    (omega (arith, room)) (omega (arith, s.left)))) in
    let g₂ = burst_after g₁ (q.bursts bytes b x.remaining words) in
    let u₂ : r₂.used ≡ r.used + 1 = q.used ∙ e₁.used in
    let same : r₂.readings.now ≡ r.readings.now = g₂.keeps.readings in
    let u₃ : r₂.used + 1 ≡ r.used + 2 = omega (arith, u₂) in
    let room₂ : r₂.entries + 2 ≤ length r₂.log.now / 2 =
    rw g₂.keeps.size (omega (arith, s.fits, q.entries, e₁.entries)) in
    let g₃ : Bursts (SameRounds t) bytes r₂ b
    (ReadAsync (Level (round x.remaining (x.queue - words) words))) r₄ b
    (ReadAsync (Fetch (round (x.remaining - count) (x.queue - words) words) count)) =
    burst_of (keeps_on e₃.keeps e₄.keeps) (omega (arith, e₃.entries, e₄.entries)) (omega (arith, e₃.used, e₄.used))
    (rw (e₃.log, e₃.entries, e₃.value, e₄.value, e₃.keeps.readings, e₃.used) at e₄.log) room₂ refl
    (λ coded kinds lengths t' alike.
    polled coded kinds lengths bytes t' x.remaining (x.queue - words) words words count
    (stays (machine coded kinds lengths bytes) r₂.readings.now (rw g₂.keeps.size fits)) s.some
    (omega (arith, s.more)) (rw (same, u₂) s.filled) (rw (same, u₃) s.quiet) (rw (same, u₂) s.count_is) room₂
    (rw same (omega (arith, s.left, u₂)))) in
    burst_after (burst_after g₂ g₃) (f.bursts bytes (x.queue - words) words)
