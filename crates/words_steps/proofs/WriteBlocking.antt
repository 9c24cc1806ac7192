-- Where a blocking write leads, in words.
use Prim.Native.Nat.{ℕ}
use mathlib.Core.Path.{◌≡◌, refl}
use mathlib.Core.Bool.{true, false}
use mathlib.Core.List.{List}
use lib.ListN.{length, set}
use Rattle.regs.specs.Fields.{tx_empty}
use Rattle.transfer.specs.Inner.Machine.{step_write, step_of}
use Rattle.words_points.specs.Held.{held_in}
use Rattle.words_points.specs.Inner.Numbers.{write_at, abort_at, caller_at, point_at}
use Rattle.words.specs.Inner.Words.{who_in, place_in, transfer_in, held_at}
use Rattle.words.proofs.Cells.{each}
use Rattle.words_steps.specs.declared.Reached.TheVariants.{Source, Send, Empty}
use Rattle.words_steps.proofs.Made.{Law, made}

module _ (v : ℕ) where
  -- `Send` to `Empty`
  abbrev send_if : List ℕ → Type 0
  send_if s = Unit {0}

  abbrev send_to : List ℕ → List ℕ
  send_to s = set s 1 1

  pub send : (s : List ℕ) → length s ≡ 20 → Law Send Empty v send_if send_to s
  unfolding held_at transfer_in place_in point_at step_of held_in who_in write_at step_write
  send = each (Law Send Empty v send_if send_to) (λ a g r h. made refl ((λ coded kinds lengths. simp (g, r)), g, refl))

  -- `Empty` to a look for an abort: the FIFO is empty
  abbrev empty_if : List ℕ → Type 0
  empty_if s = tx_empty v ≡ true

  abbrev empty_to : List ℕ → List ℕ
  empty_to s = set (set (set s 0 1) 1 0) 3 1

  pub empty : (s : List ℕ) → length s ≡ 20 → Law Empty Source v empty_if empty_to s
  unfolding held_at transfer_in place_in point_at step_of held_in who_in write_at step_write abort_at caller_at
  empty = each (Law Empty Source v empty_if empty_to) (λ a g r h. made refl ((λ coded kinds lengths. simp (g, r, h)), refl, refl))

  -- `Empty` again
  abbrev waiting_if : List ℕ → Type 0
  waiting_if s = tx_empty v ≡ false

  abbrev waiting_to : List ℕ → List ℕ
  waiting_to s = s

  pub waiting : (s : List ℕ) → length s ≡ 20 → Law Empty Empty v waiting_if waiting_to s
  unfolding held_at transfer_in place_in point_at step_of held_in who_in write_at step_write
  waiting = each (Law Empty Empty v waiting_if waiting_to) (λ a g r h. made refl ((λ coded kinds lengths. simp (g, r, h)), g, r))
