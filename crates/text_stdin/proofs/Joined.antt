-- Bytes that come in two parts: where the first has no LF, the line goes on in the second.
use Prim.Native.Nat.{ℕ}
use mathlib.Core.Bool.{Bool, true, false, true≢false}
use mathlib.Core.List.{List, [], ◌∷◌, ◌++◌}
use mathlib.Core.Path.{◌≡◌, refl}
use lib.Dec.{eqb}
use Rattle.text_hex.specs.Text.{LF}
use Rattle.text_stdin.specs.Handed.{before_lf, after_lf, has_lf}

pub record Joined (a b : List ℕ) : Type 0 where
  pub before : before_lf (a ++ b) ≡ before_lf a ++ before_lf b
  pub after : after_lf (a ++ b) ≡ after_lf b
  pub has : has_lf (a ++ b) ≡ has_lf b

first : (t : Bool) (c : ℕ) (cs b : List ℕ) → eqb c LF ≡ t → (has_lf cs ≡ false → Joined cs b) → has_lf (c ∷ cs) ≡ false → Joined (c ∷ cs) b
unfolding before_lf after_lf has_lf
first true c cs b e k h = absurd (true≢false (rw e at h))
first false c cs b e k h = let j = k (rw e at h) in record { before = rw (e, j.before); after = rw e j.after; has = rw e j.has }

pub joined : (a b : List ℕ) → has_lf a ≡ false → Joined a b
unfolding before_lf after_lf has_lf
joined [] b h = record { before = refl; after = refl; has = refl }
joined (c ∷ cs) b h = first (eqb c LF) c cs b refl (joined cs b) h
