-- Where an async write leads, in words.
use Prim.Native.Nat.{ℕ, ◌+◌, ◌-◌, ◌<◌, ◌≤◌, ◌%◌, ◌^◌}
use mathlib.Core.Path.{◌≡◌, refl}
use mathlib.Core.List.{List}
use native.Mathlib.Nat.{mod-eq_of_lt}
use native.Mathlib.Omega.{arith}
use borrow.Author.Tests.{lt-ltb, ne_eqb}
use lib.ListN.{length, get_or, set}
use Rattle.regs.specs.Fields.{level}
use Rattle.transfer.specs.Inner.Machine.{places, after_index, filling, free_step, full_step, step_fill, step_of}
use Rattle.words_points.specs.Held.{held_in}
use Rattle.words_points.specs.Inner.Numbers.{abort_at, caller_at, fill_at, point_at}
use Rattle.words.specs.Inner.Words.{who_in, place_in, transfer_in, held_at}
use Rattle.words.proofs.Cells.{each}
use Rattle.words_steps.specs.declared.Reached.TheVariants.{Source, Free, Fill, Full}
use Rattle.words_steps.proofs.Made.{Law, made, small, not_over, some_free}

module _ (v : ℕ) where
  -- `Free` to a look for an abort: no place is free
  abbrev none_free_if : List ℕ → Type 0
  none_free_if s = level v ≡ 16

  abbrev none_free_to : List ℕ → List ℕ
  none_free_to s = set (set s 0 1) 3 3

  pub none_free : (s : List ℕ) → length s ≡ 20 → Law Free Source v none_free_if none_free_to s
  unfolding held_at transfer_in place_in point_at step_of held_in who_in fill_at step_fill free_step places filling abort_at caller_at
  none_free = each (Law Free Source v none_free_if none_free_to) (λ a g r h. made refl ((λ coded kinds lengths. simp (g, r, h)), refl, r))

  -- `Free` to `Fill`
  abbrev some_to_fill_if : List ℕ → Type 0
  some_to_fill_if s = (level v < 16) × (get_or s 4 0 % 2 ^ 16 < get_or s 15 0 % 2 ^ 16)

  abbrev some_to_fill_to : List ℕ → List ℕ
  some_to_fill_to s = set (set s 1 1) 5 (16 - level v)

  pub some_to_fill : (s : List ℕ) → length s ≡ 20 → Law Free Fill v some_to_fill_if some_to_fill_to s
  unfolding held_at transfer_in place_in point_at step_of held_in who_in fill_at step_fill free_step places filling
  some_to_fill = each (Law Free Fill v some_to_fill_if some_to_fill_to)
      (λ a g r h. made refl (
        (λ coded kinds lengths. simp (
          g,
          r,
          not_over v h.0,
          some_free v h.0,
          lt-ltb (a.w4 % 2 ^ 16) (a.w15 % 2 ^ 16) h.1,
          mod-eq_of_lt {n = 16 - level v} {m = 2 ^ 16} (omega arith),
        )),
        g,
        refl,
      ))

  -- `Fill` to a look for an abort: no place is left
  abbrev last_filled_if : List ℕ → Type 0
  last_filled_if s = (get_or s 4 0 % 2 ^ 16 + 1 ≤ get_or s 15 0 % 2 ^ 16) × (get_or s 5 0 % 2 ^ 16 - 1 ≡ 0)

  abbrev last_filled_to : List ℕ → List ℕ
  last_filled_to s = set (set (set (set s 0 1) 1 0) 3 3) 4 (get_or s 4 0 % 2 ^ 16 + 1)

  pub last_filled : (s : List ℕ) → length s ≡ 20 → Law Fill Source v last_filled_if last_filled_to s
  unfolding held_at transfer_in place_in point_at step_of held_in who_in fill_at step_fill after_index filling abort_at caller_at
  last_filled = each (Law Fill Source v last_filled_if last_filled_to) (λ a g r h. made refl (
    (λ coded kinds lengths.
        let i : ℕ = a.w4 % 2 ^ 16 in
        let n : ℕ = a.w15 % 2 ^ 16 in
        simp (g, r, lt-ltb i n (omega (arith, h.0)), h.1, small (i + 1) a.w15 h.0)),
    refl,
    refl,
  ))

  -- `Fill` to the next byte
  abbrev place_filled_if : List ℕ → Type 0
  place_filled_if s = (get_or s 4 0 % 2 ^ 16 + 1 < get_or s 15 0 % 2 ^ 16) × (get_or s 5 0 % 2 ^ 16 - 1 ≡ 0 → ⊥)

  abbrev place_filled_to : List ℕ → List ℕ
  place_filled_to s = set (set s 4 (get_or s 4 0 % 2 ^ 16 + 1)) 5 (get_or s 5 0 % 2 ^ 16 - 1)

  pub place_filled : (s : List ℕ) → length s ≡ 20 → Law Fill Fill v place_filled_if place_filled_to s
  unfolding held_at transfer_in place_in point_at step_of held_in who_in fill_at step_fill after_index filling
  place_filled = each (Law Fill Fill v place_filled_if place_filled_to) (λ a g r h. made refl (
    (λ coded kinds lengths.
        let i : ℕ = a.w4 % 2 ^ 16 in
        let n : ℕ = a.w15 % 2 ^ 16 in
        let k : ℕ = a.w5 % 2 ^ 16 in
        simp (
          g,
          r,
          lt-ltb i n (omega (arith, h.0)),
          ne_eqb (k - 1) 0 h.1,
          lt-ltb (i + 1) n h.0,
          small
              (i + 1) a.w15 (omega (arith, h.0)),
          small (k - 1) a.w5 (omega arith),
        )),
    g,
    r,
  ))

  -- `Full` to `Free`: a place is free
  abbrev to_free_if : List ℕ → Type 0
  to_free_if s = level v < 16

  abbrev to_free_to : List ℕ → List ℕ
  to_free_to s = set s 1 0

  pub to_free : (s : List ℕ) → length s ≡ 20 → Law Full Free v to_free_if to_free_to s
  unfolding held_at transfer_in place_in point_at step_of held_in who_in fill_at step_fill full_step places
  to_free = each (Law Full Free v to_free_if to_free_to) (λ a g r h. made refl ((λ coded kinds lengths. simp (g, r, not_over v h, some_free v h)), g, refl))
