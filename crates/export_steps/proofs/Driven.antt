-- A step on what is held of a transfer is the step of the transfer: its access, the transfer after it, and what it stores.
-- It rests on `point_kept`: what is held loses nothing of a point with more to do.
use Prim.Native.Nat.{ℕ}
use mathlib.Core.Path.{◌≡◌, refl}
use mathlib.Core.Bool.{Bool}
use mathlib.Core.List.{List}
use mathlib.Core.Logic.{⊎_elim}
use Rattle.transfer.specs.Inner.Machine.{next_at, next_of, store_at, store_of, step_of, advance_of}
use Rattle.transfer.specs.declared.Transfer.{Transfer}
use Rattle.words_points.specs.Held.{held_in, held_of, advanced_held, store_held}
use Rattle.words_points.proofs.Kept.{Going, Ended, point_kept}
use Rattle.export_steps.specs.Inner.Steps.{access_of, access_held}

module _ (bytes : List ℕ) (t : Transfer) where
  access_going : Going t.point → access_held bytes (held_of t) ≡ access_of (next_of bytes t)
  unfolding access_held
  access_going g = rw (g.2 t) refl

  access_ended : Ended t.point → access_held bytes (held_of t) ≡ access_of (next_of bytes t)
  unfolding access_held held_in next_at access_of
  access_ended e = rw e.is refl

  pub same_access : access_held bytes (held_of t) ≡ access_of (next_of bytes t)
  same_access = ⊎_elim access_going access_ended (point_kept t.point)

module _ (coded : Bool) (kinds lengths : List ℕ) (t : Transfer) (v : ℕ) where
  advance_going : Going t.point → advanced_held coded kinds lengths (held_of t) v ≡ held_of (advance_of coded kinds lengths t v)
  advance_going g = rw (g.2 t) refl

  advance_ended : Ended t.point → advanced_held coded kinds lengths (held_of t) v ≡ held_of (advance_of coded kinds lengths t v)
  unfolding held_in step_of
  advance_ended e = rw e.is refl

  pub same_advance : advanced_held coded kinds lengths (held_of t) v ≡ held_of (advance_of coded kinds lengths t v)
  same_advance = ⊎_elim advance_going advance_ended (point_kept t.point)

module _ (t : Transfer) (v : ℕ) where
  store_going : Going t.point → store_held (held_of t) v ≡ store_of t v
  store_going g = rw (g.2 t) refl

  store_ended : Ended t.point → store_held (held_of t) v ≡ store_of t v
  unfolding held_in store_at
  store_ended e = rw e.is refl

  pub same_store : store_held (held_of t) v ≡ store_of t v
  same_store = ⊎_elim store_going store_ended (point_kept t.point)
