-- The entries of a poll, put one after the other.
use Prim.Native.Nat.{ℕ, ◌+◌}
use native.Mathlib.Omega.{arith}
use mathlib.Core.List.{List, [], ◌∷◌}
use mathlib.Core.Path.{◌≡◌, refl, ◌∙◌}
use Rattle.regs.specs.Inner.Recording.{Keeps, Enters}
use Rattle.regs.specs.declared.access.Entry.{Entry}
use Rattle.regs.specs.declared.access.Recording.{Recording}
use Rattle.regs_runs.specs.Inner.Puts.{head_put, value_put, put_from, put_all}
use Rattle.regs_runs.proofs.Reach.{keeps_all, keeps_on}

-- k entries are put, and `to_come` are left
pub record Polling (before : Recording) (es : List Entry) (k : ℕ) (to_come : List Entry) (now : Recording) : Type 0 where
  pub keeps : Keeps before now
  pub log : put_from now.log.now before.entries k to_come ≡ put_all before.log.now before.entries es
  pub entries : now.entries ≡ before.entries + k
  pub used : now.used ≡ before.used

all_put : (l : List ℕ) (e : ℕ) (es : List Entry) → put_from l e 0 es ≡ put_all l e es
all_put l e [] = refl
all_put l e (x ∷ xs) = let first : e + 0 ≡ e = omega arith in rw first

pub all_to_come : {r : Recording} {es : List Entry} → Polling r es 0 es r
all_to_come {r} {es} = record { keeps = keeps_all; log = all_put r.log.now r.entries es; entries = omega arith; used = refl }

pub one_put : {before now after : Recording} {es to_come rest : List Entry} {k : ℕ} (x : Entry)
    → Polling before es k to_come now
    → to_come ≡ x ∷ rest
    → Enters now (head_put x) (value_put x) after
    → Polling before es (k + 1) rest after
one_put {before} {now} {k = k} x p q e = record {
  keeps = keeps_on p.keeps e.keeps;
  log = rw (e.log, p.entries) (rw q at p.log);
  entries = omega (arith, e.entries, p.entries);
  used = e.used ∙ p.used;
}
