-- Where a look for an abort leads that found none, in words.
use Prim.Native.Nat.{ℕ, ◌+◌, ◌-◌, ◌<◌, ◌≤◌, ◌%◌, ◌^◌, min}
use mathlib.Core.Path.{◌≡◌, refl}
use mathlib.Core.Bool.{Bool, true, false, ◌&&◌}
use mathlib.Core.List.{List}
use native.Mathlib.Nat.{min-le_right}
use native.Mathlib.Omega.{arith}
use borrow.Author.Tests.{lt-ltb, le-ltb, ne_eqb}
use lib.ListN.{length, get_or, set}
use Rattle.transfer.specs.Inner.Machine.{closes, fetching, returned, step_abort, step_of}
use Rattle.words_points.specs.Held.{held_in}
use Rattle.words_points.specs.Inner.Numbers.{round_at, abort_at, caller_at, read_at, write_at, queue_at, fill_at, point_at}
use Rattle.words.specs.Inner.Words.{who_in, place_in, transfer_in, held_at}
use Rattle.words.proofs.Cells.{each}
use Rattle.words_steps.specs.declared.Reached.TheVariants.{Source, ReadLevel, Send, Fetch, Full}
use Rattle.words_steps.proofs.Made.{Law, made, small}

and_false : (b : Bool) → (b && false) ≡ false
and_false true = refl
and_false false = refl

module _ (v : ℕ) where
  -- to the level of a blocking read
  abbrev to_level_if : List ℕ → Type 0
  to_level_if s = (get_or s 3 0 ≡ 0) × (v ≡ 0)

  abbrev to_level_to : List ℕ → List ℕ
  to_level_to s = set (set s 0 2) 1 2

  pub to_level : (s : List ℕ) → length s ≡ 20 → Law Source ReadLevel v to_level_if to_level_to s
  unfolding held_at transfer_in place_in point_at step_of held_in who_in abort_at caller_at step_abort returned read_at
  to_level = each (Law Source ReadLevel v to_level_if to_level_to) (λ a g r h. made refl ((λ coded kinds lengths. simp (g, r, h.0, h.1)), refl, refl))

  -- to the next byte of a blocking write, where one follows
  abbrev to_send_if : List ℕ → Type 0
  to_send_if s = (get_or s 3 0 ≡ 1) × (v ≡ 0) × (get_or s 4 0 % 2 ^ 16 + 1 < get_or s 15 0 % 2 ^ 16)

  abbrev to_send_to : List ℕ → List ℕ
  to_send_to s = set (set s 0 3) 4 (get_or s 4 0 % 2 ^ 16 + 1)

  pub to_send : (s : List ℕ) → length s ≡ 20 → Law Source Send v to_send_if to_send_to s
  unfolding held_at transfer_in place_in point_at step_of held_in who_in abort_at caller_at step_abort returned closes write_at
  to_send = each (Law Source Send v to_send_if to_send_to) (λ a g r h. made refl (
    (λ coded kinds lengths.
        let i : ℕ = a.w4 % 2 ^ 16 in
        let n : ℕ = a.w15 % 2 ^ 16 in
        let m : i + 1 < n = h.2 in
        simp (
          g,
          r,
          h.0,
          h.1,
          ne_eqb i (n - 1) (λ (e : i ≡ n - 1). omega arith),
          and_false,
          lt-ltb i n
              (omega arith),
          lt-ltb (i + 1) n m,
          small (i + 1) a.w15 (omega arith),
        )),
    refl,
    r,
  ))

  -- to the first byte of a batch that arrived
  abbrev to_fetch_if : List ℕ → Type 0
  to_fetch_if s = (get_or s 3 0 ≡ 2)
      × (v ≡ 0)
      × (get_or s 8 0 % 2 ^ 16 ≤ get_or s 5 0 % 2 ^ 16)
      × (min (get_or s 5 0 % 2 ^ 16) (get_or s 6 0 % 2 ^ 16) ≡ 0 → ⊥)

  abbrev to_fetch_to : List ℕ → List ℕ
  to_fetch_to s = set (set (set (set s 0 4) 1 3) 5 (min (get_or s 5 0 % 2 ^ 16) (get_or s 6 0 % 2 ^ 16))) 6
      (get_or s 6 0 % 2 ^ 16 - min (get_or s 5 0 % 2 ^ 16) (get_or s 6 0 % 2 ^ 16))

  pub to_fetch : (s : List ℕ) → length s ≡ 20 → Law Source Fetch v to_fetch_if to_fetch_to s
  unfolding held_at transfer_in place_in point_at step_of held_in who_in abort_at caller_at round_at step_abort returned fetching queue_at
  to_fetch = each (Law Source Fetch v to_fetch_if to_fetch_to) (λ a g r h. made refl (
    (λ coded kinds lengths.
        let n : ℕ = a.w5 % 2 ^ 16 in
        let m : ℕ = a.w6 % 2 ^ 16 in
        simp (
          g,
          r,
          h.0,
          h.1,
          le-ltb n (a.w8 % 2 ^ 16) h.2,
          ne_eqb (min n m) 0 h.3,
          small (min n m) a.w6
              (min-le_right n m),
          small (m - min n m) a.w6 (omega arith),
        )),
    refl,
    refl,
  ))

  -- to the free places of an async write
  abbrev to_full_if : List ℕ → Type 0
  to_full_if s = (get_or s 3 0 ≡ 3) × (v ≡ 0)

  abbrev to_full_to : List ℕ → List ℕ
  to_full_to s = set (set s 0 5) 1 2

  pub to_full : (s : List ℕ) → length s ≡ 20 → Law Source Full v to_full_if to_full_to s
  unfolding held_at transfer_in place_in point_at step_of held_in who_in abort_at caller_at step_abort returned fill_at
  to_full = each (Law Source Full v to_full_if to_full_to) (λ a g r h. made refl ((λ coded kinds lengths. simp (g, r, h.0, h.1)), refl, refl))
