-- Kinds that are more or fewer than those of a form do not fit it.
use Prim.Native.Nat.{ℕ}
use mathlib.Core.Bool.{false, and-false}
use mathlib.Core.List.{List, [], ◌∷◌}
use mathlib.Core.Logic.{◌⊎◌, inl, inr}
use mathlib.Core.Path.{◌≡◌, refl, sym}
use lib.Dec.{eqb}
use lib.ListN.{length}
use Rattle.export_steps.specs.Forms.{same, shape_of, fits_form}

pub not_one : (kinds : List ℕ) (k : ℕ) → (length kinds ≡ 1 → ⊥) → same kinds (k ∷ []) ≡ false
unfolding same
not_one [] k h = refl
not_one (x ∷ []) k h = absurd (h refl)
not_one (x ∷ y ∷ kinds) k h = and-false (eqb x k)

pub not_two : (kinds : List ℕ) (k m : ℕ) → (length kinds ≡ 2 → ⊥) → same kinds (k ∷ m ∷ []) ≡ false
unfolding same
not_two [] k m h = refl
not_two (x ∷ []) k m h = and-false (eqb x k)
not_two (x ∷ y ∷ []) k m h = absurd (h refl)
not_two (x ∷ y ∷ z ∷ kinds) k m h = rw (and-false (eqb y m), and-false (eqb x k))

-- more kinds or fewer are not those of a form
module _ (form : ℕ) (kinds : List ℕ) where
  pub not_read : (form ≡ 0) ⊎ (form ≡ 4) → (length kinds ≡ 1 → ⊥) → false ≡ fits_form form kinds
  unfolding fits_form shape_of
  not_read (inl e) h = rw e (sym (not_one kinds 0 h))
  not_read (inr e) h = rw e (sym (not_one kinds 0 h))

  pub not_write : (form ≡ 1) ⊎ (form ≡ 5) → (length kinds ≡ 1 → ⊥) → false ≡ fits_form form kinds
  unfolding fits_form shape_of
  not_write (inl e) h = rw e (sym (not_one kinds 1 h))
  not_write (inr e) h = rw e (sym (not_one kinds 1 h))

  pub not_write_read : (form ≡ 2) ⊎ (form ≡ 6) → (length kinds ≡ 2 → ⊥) → false ≡ fits_form form kinds
  unfolding fits_form shape_of
  not_write_read (inl e) h = rw e (sym (not_two kinds 1 0 h))
  not_write_read (inr e) h = rw e (sym (not_two kinds 1 0 h))
