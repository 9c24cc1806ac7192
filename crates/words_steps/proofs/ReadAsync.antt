-- Where an async read leads, in words.
use Prim.Native.Nat.{ℕ, ◌-◌, ◌≤◌, ◌%◌, ◌^◌, min}
use mathlib.Core.Path.{◌≡◌, refl}
use mathlib.Core.List.{List}
use native.Mathlib.Nat.{mod-eq_of_lt, min-le_left}
use native.Mathlib.Omega.{arith}
use borrow.Author.Tests.{le-ltb, ne_eqb}
use lib.ListN.{length, get_or, set}
use Rattle.regs.specs.Fields.{level}
use Rattle.transfer.specs.Inner.Machine.{places, batch_step, queued, next_turn, fetching, step_round, step_of}
use Rattle.words_points.specs.Held.{held_in}
use Rattle.words_points.specs.Inner.Numbers.{round_at, abort_at, caller_at, queue_at, point_at}
use Rattle.words.specs.Inner.Words.{who_in, place_in, transfer_in, held_at}
use Rattle.words.proofs.Cells.{each}
use Rattle.words_steps.specs.declared.Reached.TheVariants.{Source, Capacity, Queued, Level, Fetch}
use Rattle.words_steps.proofs.Made.{Law, made, small}

module _ (v : ℕ) where
  -- `Capacity` to `Level`: nothing is to be queued
  abbrev no_words_if : List ℕ → Type 0
  no_words_if s = (level v ≤ 16) × (min (get_or s 7 0 % 2 ^ 16) (16 - level v) ≡ 0)

  abbrev no_words_to : List ℕ → List ℕ
  no_words_to s = set (set s 1 2) 8 0

  pub no_words : (s : List ℕ) → length s ≡ 20 → Law Capacity Level v no_words_if no_words_to s
  unfolding held_at transfer_in place_in point_at step_of held_in who_in round_at queue_at step_round batch_step places queued
  no_words = each (Law Capacity Level v no_words_if no_words_to)
      (λ a g r h. made refl ((λ coded kinds lengths. simp (g, r, le-ltb 16 (level v) h.0, h.1)), g, refl))

  -- `Capacity` to `Queue`
  abbrev words_to_queue_if : List ℕ → Type 0
  words_to_queue_if s = (level v ≤ 16) × (min (get_or s 7 0 % 2 ^ 16) (16 - level v) ≡ 0 → ⊥)

  abbrev words_to_queue_to : List ℕ → List ℕ
  words_to_queue_to s = set (set (set s 1 1) 5 (min (get_or s 7 0 % 2 ^ 16) (16 - level v))) 8 (min (get_or s 7 0 % 2 ^ 16) (16 - level v))

  pub words_to_queue : (s : List ℕ) → length s ≡ 20 → Law Capacity Queued v words_to_queue_if words_to_queue_to s
  unfolding held_at transfer_in place_in point_at step_of held_in who_in round_at queue_at step_round batch_step places queued
  words_to_queue = each (Law Capacity Queued v words_to_queue_if words_to_queue_to) (λ a g r h. made refl (
    (λ coded kinds lengths.
        let q : ℕ = a.w7 % 2 ^ 16 in
        let n : ℕ = min q (16 - level v) in
        simp (g, r, le-ltb 16 (level v) h.0, ne_eqb n 0 h.1, small n a.w7 (min-le_left q (16 - level v)))),
    g,
    refl,
  ))

  -- `Queue` to `Level`
  abbrev last_queued_if : List ℕ → Type 0
  last_queued_if s = get_or s 5 0 % 2 ^ 16 - 1 ≡ 0

  abbrev last_queued_to : List ℕ → List ℕ
  last_queued_to s = set (set s 7 (get_or s 7 0 % 2 ^ 16 - 1)) 1 2

  pub last_queued : (s : List ℕ) → length s ≡ 20 → Law Queued Level v last_queued_if last_queued_to s
  unfolding held_at transfer_in place_in point_at step_of held_in who_in round_at queue_at step_round queued
  last_queued = each (Law Queued Level v last_queued_if last_queued_to) (λ a g r h. made refl (
    (λ coded kinds lengths.
        let q : ℕ = a.w7 % 2 ^ 16 in
        simp (g, r, h, small (q - 1) a.w7 (omega arith))),
    g,
    refl,
  ))

  -- `Queue` to the next word
  abbrev word_queued_if : List ℕ → Type 0
  word_queued_if s = get_or s 5 0 % 2 ^ 16 - 1 ≡ 0 → ⊥

  abbrev word_queued_to : List ℕ → List ℕ
  word_queued_to s = set (set s 7 (get_or s 7 0 % 2 ^ 16 - 1)) 5 (get_or s 5 0 % 2 ^ 16 - 1)

  pub word_queued : (s : List ℕ) → length s ≡ 20 → Law Queued Queued v word_queued_if word_queued_to s
  unfolding held_at transfer_in place_in point_at step_of held_in who_in round_at queue_at step_round queued
  word_queued = each (Law Queued Queued v word_queued_if word_queued_to) (λ a g r h. made refl (
    (λ coded kinds lengths.
        let q : ℕ = a.w7 % 2 ^ 16 in
        let n : ℕ = a.w5 % 2 ^ 16 in
        simp (g, r, ne_eqb (n - 1) 0 h, small (q - 1) a.w7 (omega arith), small (n - 1) a.w5 (omega arith))),
    g,
    r,
  ))

  -- `Level` to a look for an abort
  abbrev level_read_if : List ℕ → Type 0
  level_read_if s = Unit {0}

  abbrev level_read_to : List ℕ → List ℕ
  level_read_to s = set (set (set (set s 0 1) 1 0) 3 2) 5 (level v)

  pub level_read : (s : List ℕ) → length s ≡ 20 → Law Level Source v level_read_if level_read_to s
  unfolding held_at transfer_in place_in point_at step_of held_in who_in round_at queue_at step_round abort_at caller_at
  level_read = each (Law Level Source v level_read_if level_read_to)
      (λ a g r h. made refl (
        (λ coded kinds lengths. simp (g, r, mod-eq_of_lt {n = level v} {m = 2 ^ 16} (omega arith))),
        refl,
        refl,
      ))

  -- `Fetch` to the next byte
  abbrev byte_fetched_if : List ℕ → Type 0
  byte_fetched_if s = get_or s 5 0 % 2 ^ 16 - 1 ≡ 0 → ⊥

  abbrev byte_fetched_to : List ℕ → List ℕ
  byte_fetched_to s = set s 5 (get_or s 5 0 % 2 ^ 16 - 1)

  pub byte_fetched : (s : List ℕ) → length s ≡ 20 → Law Fetch Fetch v byte_fetched_if byte_fetched_to s
  unfolding held_at transfer_in place_in point_at step_of held_in who_in round_at queue_at step_round fetching
  byte_fetched = each (Law Fetch Fetch v byte_fetched_if byte_fetched_to) (λ a g r h. made refl (
    (λ coded kinds lengths.
        let n : ℕ = a.w5 % 2 ^ 16 in
        simp (g, r, ne_eqb (n - 1) 0 h, small (n - 1) a.w5 (omega arith))),
    g,
    r,
  ))

  -- `Fetch` to the next round, where bytes remain
  abbrev last_fetched_if : List ℕ → Type 0
  last_fetched_if s = (get_or s 5 0 % 2 ^ 16 - 1 ≡ 0) × (get_or s 6 0 % 2 ^ 16 ≡ 0 → ⊥)

  abbrev last_fetched_to : List ℕ → List ℕ
  last_fetched_to s = set s 1 0

  pub last_fetched : (s : List ℕ) → length s ≡ 20 → Law Fetch Capacity v last_fetched_if last_fetched_to s
  unfolding held_at transfer_in place_in point_at step_of held_in who_in round_at queue_at step_round fetching next_turn
  last_fetched = each (Law Fetch Capacity v last_fetched_if last_fetched_to)
      (λ a g r h. made refl ((λ coded kinds lengths. simp (g, r, h.0, ne_eqb (a.w6 % 2 ^ 16) 0 h.1)), g, refl))
