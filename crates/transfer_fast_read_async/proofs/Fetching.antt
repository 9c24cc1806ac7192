-- The bytes of a round of an async read.
use Prim.Native.Nat.{ℕ, ◌+◌, ◌/◌, ◌-◌, ◌%◌, ◌<◌, ◌≤◌, ◌^◌}
use native.Mathlib.Omega.{arith}
use mathlib.Core.Bool.{Bool, false}
use mathlib.Core.List.{List}
use mathlib.Core.Path.{◌≡◌, refl, ◌∙◌}
use lib.Dec.{eqb}
use lib.ListN.{length, length-set, get_or, set}
use borrow.Author.Tests.{ne_eqb}
use Rattle.std.specs.Prelude.{if◌then◌else◌}
use Rattle.regs.specs.Registers.{DATA_CMD}
use Rattle.regs.specs.Fields.{dat}
use Rattle.regs.specs.Inner.Machine.{entered}
use Rattle.regs.specs.Inner.Recording.{Keeps}
use Rattle.regs.specs.declared.access.Recording.{Recording}
use Rattle.transfer.specs.Inner.Points.{with_point}
use Rattle.transfer.specs.Inner.Machine.{machine, next_at, next_round, store_at, store_round, step_of, step_round, fetching, next_turn, sum_of}
use Rattle.transfer.specs.declared.Transfer.{Transfer}
use Rattle.transfer.specs.declared.Point.{Point}
use Rattle.transfer.specs.declared.Point.TheVariants.{ReadAsync}
use Rattle.transfer.specs.declared.Round.{Round}
use Rattle.transfer.specs.declared.RoundPoint.TheVariants.{Capacity, Fetch}
use Rattle.regs_runs.specs.Inner.Reaches.{Reaches}
use Rattle.regs_runs.specs.Inner.Puts.{Reads}
use Rattle.regs_runs.proofs.Reach.{stays, keeps_all, keeps_on, did_read}
use Rattle.transfer_fast_blocking.specs.Inner.Bursts.{Bursts}
use Rattle.transfer_fast_blocking.proofs.Bursting.{no_burst, burst_after, burst_of}
use Rattle.transfer_fast_read_async.specs.Inner.Rounds.{round, Fetched, SameRounds}
use Rattle.transfer_fast_read_async.proofs.Chosen.{chosen}

-- with so many bytes to go
abbrev pub fetched : Round → ℕ → Point
fetched r left = if eqb left 0 then ReadAsync (Capacity r) else ReadAsync (Fetch r left)

module _ (coded : Bool) (kinds lengths bytes : List ℕ) {readings : List ℕ} (t : Transfer) {s₀ : Transfer} {e₀ u₀ : ℕ}
    {l₀ b₀ : List ℕ} (remaining queue batch left place : ℕ) {e u : ℕ} {l b : List ℕ} where
  pub byte_fetched : Reaches (machine coded kinds lengths bytes) readings s₀ e₀ u₀ l₀ b₀
      (with_point t (fetched (round remaining queue batch) left)) e u l b
      → 0 < left
      → 0 < remaining
      → e < length l₀ / 2 → u < length readings → (t.operation.at + (t.operation.len - remaining - left)) % 2 ^ 64 ≡ place
      → Reaches (machine coded kinds lengths bytes) readings s₀ e₀ u₀ l₀ b₀
      (with_point t (fetched (round remaining queue batch) (left - 1))) (e + 1) (u + 1)
      (entered l e (0x100 + DATA_CMD) (get_or readings u 0)) (set b place (dat (get_or readings u 0)))
  unfolding next_at next_round store_at store_round step_of step_round fetching next_turn
  byte_fetched g more some room has to =
      let not_yet : eqb left 0 ≡ false = ne_eqb left 0 (λ (z : left ≡ 0). omega (arith, more, z)) in
      let remains : eqb remaining 0 ≡ false = ne_eqb remaining 0 (λ (z : remaining ≡ 0). omega (arith, some, z)) in
      let at : Reaches (machine coded kinds lengths bytes) readings s₀ e₀ u₀ l₀ b₀
      (with_point t (ReadAsync (Fetch (round remaining queue batch) left))) e u l b = rw not_yet at g in
      let next : (machine coded kinds lengths bytes).advance
      (with_point t (ReadAsync (Fetch (round remaining queue batch) left))) (get_or readings u 0)
      ≡ with_point t (fetched (round remaining queue batch) (left - 1)) =
      rw remains (chosen coded kinds lengths (with_point t (ReadAsync (Fetch (round remaining queue batch) left)))
      (eqb (left - 1) 0) (ReadAsync (Capacity (round remaining queue batch)))
      (ReadAsync (Fetch (round remaining queue batch) (left - 1)))) in
      rw to at (did_read at refl room has next refl refl)

-- the loop's head: so many bytes of the round are fetched
pub record Fetching (t : Transfer) (remaining count : ℕ) (before : Recording) (b : List ℕ) (n : ℕ) (after : Recording) (b' : List ℕ) : Type 0 where
  pub came : (bytes : List ℕ) (queue batch : ℕ)
      → Bursts (SameRounds t) bytes before b (ReadAsync (Fetch (round remaining queue batch) count)) after b'
      (fetched (round remaining queue batch) (count - n))
  pub entries : after.entries ≡ before.entries + n
  pub used : after.used ≡ before.used + n
  pub keeps : Keeps before after
  pub wide : length b' ≡ length b

module _ {t : Transfer} {remaining count : ℕ} {before : Recording} {b : List ℕ} where
  pub none_fetched : 0 < count → length before.log.now < 2 ^ 64
      → Fetching t remaining count before b 0 before b
  none_fetched some fits = record {
    came = λ bytes queue batch.
        let all : count - 0 ≡ count = omega arith in
        rw (all, ne_eqb count 0 (λ (z : count ≡ 0). omega (arith, some, z))) (no_burst fits);
    entries = omega arith;
    used = omega arith;
    keeps = keeps_all;
    wide = refl;
  }

  pub one_fetched : {mid after : Recording} {b₁ b' : List ℕ} {n v : ℕ}
      → Fetching t remaining count before b n mid b₁
      → n < count
      → 0 < remaining
      → remaining + count ≤ t.operation.len
      → before.used + count ≤ length before.readings.now
      → before.entries + count ≤ length before.log.now / 2
      → length before.log.now < 2 ^ 64
      → Reads mid DATA_CMD v after
      → b' ≡ set b₁ (sum_of t.operation.at (t.operation.len - remaining - count + n)) (dat v)
      → Fetching t remaining count before b (n + 1) after b'
  one_fetched {mid} {after} {b₁} {b'} {n} {v} g more some within left room fits x eb =
      let fewer : count - n - 1 ≡ count - (n + 1) = omega arith in
      let place : ℕ = sum_of t.operation.at (t.operation.len - remaining - count + n) in
      let same : t.operation.len - remaining - (count - n) ≡ t.operation.len - remaining - count + n = omega (arith, within, more) in
      let to : (t.operation.at + (t.operation.len - remaining - (count - n))) % 2 ^ 64 ≡ place = rw same in
      let space : mid.entries < length mid.log.now / 2 = rw g.keeps.size (omega (arith, g.entries, room, more)) in
      let has : mid.used < length mid.readings.now = rw g.keeps.readings (omega (arith, g.used, left, more)) in
      let short : length mid.log.now < 2 ^ 64 = rw g.keeps.size fits in
      let wide : length b' ≡ length b₁ = rw eb (simp length-set) in
      record {
        came = λ bytes queue batch. burst_after (g.came bytes queue batch)
            (rw (← fewer) (burst_of x.keeps x.entries x.used x.log (omega (arith, space)) wide
            (λ coded kinds lengths t' alike. rw (eb, x.value)
            (byte_fetched coded kinds lengths bytes t' remaining queue batch (count - n) place
            (stays (machine coded kinds lengths bytes) mid.readings.now short)
            (omega (arith, more)) some space has (rw (alike.at, alike.len) to)))));
        entries = omega (arith, x.entries, g.entries);
        used = omega (arith, x.used, g.used);
        keeps = keeps_on g.keeps x.keeps;
        wide = wide ∙ g.wide;
      }

  pub all_fetched : {after : Recording} {b' : List ℕ} {n : ℕ} → Fetching t remaining count before b n after b' → n ≡ count
      → Fetched t remaining count before b after b'
  all_fetched {n = n} g z =
      let none : count - n ≡ 0 = omega (arith, z) in
      record {
        bursts = λ bytes queue batch. rw none at (g.came bytes queue batch);
        entries = rw z at g.entries;
        used = rw z at g.used;
        keeps = g.keeps;
      }
