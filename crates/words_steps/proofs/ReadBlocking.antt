-- Where a blocking read leads, in words.
use Prim.Native.Nat.{ℕ, ◌+◌, ◌<◌, ◌%◌, ◌^◌}
use mathlib.Core.Path.{◌≡◌, refl}
use mathlib.Core.List.{List}
use native.Mathlib.Omega.{arith}
use borrow.Author.Tests.{lt-ltb, eq-eqb, ne_eqb}
use lib.ListN.{length, get_or, set}
use Rattle.regs.specs.Fields.{level}
use Rattle.transfer.specs.Inner.Machine.{places, room_step, level_step, step_read, step_of}
use Rattle.words_points.specs.Held.{held_in}
use Rattle.words_points.specs.Inner.Numbers.{abort_at, caller_at, read_at, point_at}
use Rattle.words.specs.Inner.Words.{who_in, place_in, transfer_in, held_at}
use Rattle.words.proofs.Cells.{each}
use Rattle.words_steps.specs.declared.Reached.TheVariants.{Source, Room, Ask, ReadLevel, Take}
use Rattle.words_steps.proofs.Made.{Law, made, small, not_over, some_free}

module _ (v : ℕ) where
  -- `Room` to `Ask`: a place is free
  abbrev room_if : List ℕ → Type 0
  room_if s = level v < 16

  abbrev room_to : List ℕ → List ℕ
  room_to s = set s 1 1

  pub room : (s : List ℕ) → length s ≡ 20 → Law Room Ask v room_if room_to s
  unfolding held_at transfer_in place_in point_at step_of held_in who_in read_at step_read room_step places
  room = each (Law Room Ask v room_if room_to) (λ a g r h. made refl ((λ coded kinds lengths. simp (g, r, not_over v h, some_free v h)), g, refl))

  -- `Ask` to `Level`
  abbrev ask_if : List ℕ → Type 0
  ask_if s = Unit {0}

  abbrev ask_to : List ℕ → List ℕ
  ask_to s = set s 1 2

  pub ask : (s : List ℕ) → length s ≡ 20 → Law Ask ReadLevel v ask_if ask_to s
  unfolding held_at transfer_in place_in point_at step_of held_in who_in read_at step_read
  ask = each (Law Ask ReadLevel v ask_if ask_to) (λ a g r h. made refl ((λ coded kinds lengths. simp (g, r)), g, refl))

  -- `Level` to a look for an abort: no byte is there
  abbrev empty_if : List ℕ → Type 0
  empty_if s = level v ≡ 0

  abbrev empty_to : List ℕ → List ℕ
  empty_to s = set (set (set s 0 1) 1 0) 3 0

  pub empty : (s : List ℕ) → length s ≡ 20 → Law ReadLevel Source v empty_if empty_to s
  unfolding held_at transfer_in place_in point_at step_of held_in who_in read_at step_read level_step abort_at caller_at
  empty = each (Law ReadLevel Source v empty_if empty_to) (λ a g r h. made refl ((λ coded kinds lengths. simp (g, r, eq-eqb _ _ h)), refl, refl))

  -- `Level` to `Take`: a byte is there
  abbrev level_read_if : List ℕ → Type 0
  level_read_if s = level v ≡ 0 → ⊥

  abbrev level_read_to : List ℕ → List ℕ
  level_read_to s = set s 1 3

  pub level_read : (s : List ℕ) → length s ≡ 20 → Law ReadLevel Take v level_read_if level_read_to s
  unfolding held_at transfer_in place_in point_at step_of held_in who_in read_at step_read level_step
  level_read = each (Law ReadLevel Take v level_read_if level_read_to) (λ a g r h. made refl ((λ coded kinds lengths. simp (g, r, ne_eqb _ _ h)), g, refl))

  -- `Take` to `Room` of the next byte, where one follows
  abbrev take_if : List ℕ → Type 0
  take_if s = get_or s 4 0 % 2 ^ 16 + 1 < get_or s 15 0 % 2 ^ 16

  abbrev take_to : List ℕ → List ℕ
  take_to s = set (set s 1 0) 4 (get_or s 4 0 % 2 ^ 16 + 1)

  pub take : (s : List ℕ) → length s ≡ 20 → Law Take Room v take_if take_to s
  unfolding held_at transfer_in place_in point_at step_of held_in who_in read_at step_read
  take = each (Law Take Room v take_if take_to) (λ a g r h. made refl (
    (λ coded kinds lengths.
        let i : ℕ = a.w4 % 2 ^ 16 in
        let n : ℕ = a.w15 % 2 ^ 16 in
        simp (g, r, lt-ltb i n (omega arith), lt-ltb (i + 1) n (omega arith), small (i + 1) a.w15 (omega arith))),
    g,
    refl,
  ))
