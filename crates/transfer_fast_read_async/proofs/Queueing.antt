-- The words of a round of an async read.
use Prim.Native.Nat.{ℕ, ◌+◌, ◌/◌, ◌-◌, ◌<◌, ◌≤◌, ◌^◌}
use native.Mathlib.Omega.{arith}
use mathlib.Core.Bool.{Bool, false}
use mathlib.Core.List.{List}
use mathlib.Core.Path.{◌≡◌, refl, ◌∙◌}
use lib.Dec.{eqb}
use lib.ListN.{length}
use borrow.Author.Tests.{ne_eqb}
use Rattle.std.specs.Prelude.{if◌then◌else◌}
use Rattle.regs.specs.Registers.{DATA_CMD}
use Rattle.regs.specs.Inner.Machine.{entered}
use Rattle.regs.specs.Inner.Recording.{Keeps, Enters}
use Rattle.regs.specs.declared.access.Recording.{Recording}
use Rattle.transfer.specs.Inner.Points.{with_point}
use Rattle.transfer.specs.Inner.Machine.{machine, next_at, next_round, queue_word, store_at, store_round, step_of, step_round, queued}
use Rattle.transfer.specs.declared.Transfer.{Transfer}
use Rattle.transfer.specs.declared.Point.{Point}
use Rattle.transfer.specs.declared.Point.TheVariants.{ReadAsync}
use Rattle.transfer.specs.declared.Round.{Round}
use Rattle.transfer.specs.declared.RoundPoint.TheVariants.{Queue, Level}
use Rattle.regs_runs.specs.Inner.Reaches.{Reaches}
use Rattle.regs_runs.proofs.Reach.{stays, keeps_all, keeps_on, did_write}
use Rattle.transfer_fast_blocking.specs.Inner.Bursts.{Bursts}
use Rattle.transfer_fast_blocking.proofs.Bursting.{no_burst, burst_after, burst_of}
use Rattle.transfer_fast_read_async.specs.Inner.Rounds.{round, Queued, SameRounds}
use Rattle.transfer_fast_read_async.proofs.Chosen.{chosen}

-- with so many words to go
abbrev pub queueing : Round → ℕ → Point
queueing r left = if eqb left 0 then ReadAsync (Level r) else ReadAsync (Queue r left)

module _ (coded : Bool) (kinds lengths bytes : List ℕ) {readings : List ℕ} (t : Transfer) {s₀ : Transfer} {e₀ u₀ : ℕ}
    {l₀ b₀ : List ℕ} (remaining q batch left : ℕ) {e u : ℕ} {l b : List ℕ} where
  pub word_queued : Reaches (machine coded kinds lengths bytes) readings s₀ e₀ u₀ l₀ b₀
      (with_point t (queueing (round remaining q batch) left)) e u l b
      → 0 < left
      → e < length l₀ / 2
      → Reaches (machine coded kinds lengths bytes) readings s₀ e₀ u₀ l₀ b₀
      (with_point t (queueing (round remaining (q - 1) batch) (left - 1))) (e + 1) u
      (entered l e (0x200 + DATA_CMD) (queue_word q t.operation.len t.operation.send_stop t.operation.restart)) b
  unfolding next_at next_round store_at store_round step_of step_round queued
  word_queued g more room =
      let some : eqb left 0 ≡ false = ne_eqb left 0 (λ (z : left ≡ 0). omega (arith, more, z)) in
      let at : Reaches (machine coded kinds lengths bytes) readings s₀ e₀ u₀ l₀ b₀
      (with_point t (ReadAsync (Queue (round remaining q batch) left))) e u l b = rw some at g in
      let next : (machine coded kinds lengths bytes).advance
      (with_point t (ReadAsync (Queue (round remaining q batch) left))) 0
      ≡ with_point t (queueing (round remaining (q - 1) batch) (left - 1)) =
      chosen coded kinds lengths (with_point t (ReadAsync (Queue (round remaining q batch) left))) (eqb (left - 1) 0)
      (ReadAsync (Level (round remaining (q - 1) batch)))
      (ReadAsync (Queue (round remaining (q - 1) batch) (left - 1))) in
      did_write at refl room next refl

-- the loop's head: so many words of the round are queued
pub record Queueing (t : Transfer) (queue words : ℕ) (before : Recording) (n : ℕ) (after : Recording) : Type 0 where
  pub came : (bytes b : List ℕ) (remaining batch : ℕ)
      → Bursts (SameRounds t) bytes before b (ReadAsync (Queue (round remaining queue batch) words)) after b
      (queueing (round remaining (queue - n) batch) (words - n))
  pub entries : after.entries ≡ before.entries + n
  pub used : after.used ≡ before.used
  pub keeps : Keeps before after

module _ {t : Transfer} {queue words : ℕ} {before : Recording} where
  pub none_queued : 0 < words → length before.log.now < 2 ^ 64
      → Queueing t queue words before 0 before
  none_queued some fits = record {
    came = λ bytes b remaining batch.
        let all : words - 0 ≡ words = omega arith in
        let whole : queue - 0 ≡ queue = omega arith in
        rw (all, whole, ne_eqb words 0 (λ (z : words ≡ 0). omega (arith, some, z))) (no_burst fits);
    entries = omega arith;
    used = refl;
    keeps = keeps_all;
  }

  pub one_queued : {mid after : Recording} {n w : ℕ}
      → Queueing t queue words before n mid
      → n < words
      → words ≤ queue
      → before.entries + words ≤ length before.log.now / 2
      → length before.log.now < 2 ^ 64
      → w ≡ queue_word (queue - n) t.operation.len t.operation.send_stop t.operation.restart
      → Enters mid (0x200 + DATA_CMD) w after
      → Queueing t queue words before (n + 1) after
  one_queued {mid} {after} {n} {w} g more enough room fits ew x =
      let fewer : words - n - 1 ≡ words - (n + 1) = omega arith in
      let next : queue - n - 1 ≡ queue - (n + 1) = omega arith in
      let space : mid.entries < length mid.log.now / 2 = rw g.keeps.size (omega (arith, g.entries, room, more)) in
      let small : length mid.log.now < 2 ^ 64 = rw g.keeps.size fits in
      record {
        came = λ bytes b remaining batch. burst_after (g.came bytes b remaining batch)
            (rw (← fewer, ← next) (burst_of x.keeps x.entries x.used x.log (omega (arith, space)) refl
            (λ coded kinds lengths t' alike. rw (ew, ← alike.len, ← alike.restart, ← alike.send_stop)
            (word_queued coded kinds lengths bytes t' remaining (queue - n) batch (words - n)
            (stays (machine coded kinds lengths bytes) mid.readings.now small)
            (omega (arith, more)) space))));
        entries = omega (arith, x.entries, g.entries);
        used = x.used ∙ g.used;
        keeps = keeps_on g.keeps x.keeps;
      }

  pub all_queued : {after : Recording} {n : ℕ} → Queueing t queue words before n after → n ≡ words
      → Queued t queue words before after
  all_queued {n = n} g z =
      let none : words - n ≡ 0 = omega (arith, z) in
      let left : queue - n ≡ queue - words = omega (arith, z) in
      record {
        bursts = λ bytes b remaining batch. rw (none, left) at (g.came bytes b remaining batch);
        entries = rw z at g.entries;
        used = g.used;
        keeps = g.keeps;
      }
