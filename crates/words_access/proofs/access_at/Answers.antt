-- `access_at`: a group above 7 is none that has points, so `point_at` is `Finished Accepted`, as is the access.
use borrow.Author.Tests.{ne_eqb}
use native.Mathlib.Omega.{arith}
use Prim.Native.Nat.{ℕ}
use mathlib.Core.Path.{◌≡◌}
use Rattle.transfer.specs.Inner.Machine.{next_at}
use Rattle.words_points.specs.Inner.Numbers.{point_at}
use Rattle.words.specs.Inner.Words.{place_in, transfer_in}
use Rattle.words_access.proofs.access_at.Goals as goal

pub returns-in_default : goal.returns-in_default
unfolding next_at transfer_in point_at place_in
returns-in_default c = let group : ℕ = c.args.group in simp (
  c.requires.0,
  ne_eqb group 0 (λ (e : group ≡ 0). omega arith),
  ne_eqb group 1 (λ (e : group ≡ 1). omega arith),
  ne_eqb group 2 (λ (e : group ≡ 2). omega arith),
  ne_eqb group 3 (λ (e : group ≡ 3). omega arith),
  ne_eqb group 4 (λ (e : group ≡ 4). omega arith),
  ne_eqb group 5 (λ (e : group ≡ 5). omega arith),
  ne_eqb group 6 (λ (e : group ≡ 6). omega arith),
  ne_eqb group 7 (λ (e : group ≡ 7). omega arith),
)
