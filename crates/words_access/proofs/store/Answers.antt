-- `store`: in groups 2 and 4 the words unfold to the point that `read_of` or `queue_of` ensures, and
-- `store_read` or `store_round` is the store; in any other group `none_stored` says that nothing is.
-- `stored_at` (proofs/Stored.antt) says that an ended transfer needs no test of its own.
use borrow.Author.Tests.{ne_eqb}
use native.Mathlib.Omega.{arith}
use Prim.Native.Nat.{ℕ}
use mathlib.Core.Path.{◌≡◌, sym, ◌∙◌}
use lib.ListN.{get_or}
use Rattle.transfer.specs.Inner.Machine.{store_at}
use Rattle.words_points.specs.Inner.Numbers.{point_at}
use Rattle.words.specs.Inner.Words.{who_in, place_in, transfer_in}
use Rattle.words_access.proofs.Stored.{none_stored, stored_at}
use Rattle.words_access.proofs.store.Goals as goal

pub returns-in-2 : goal.returns-in-2
unfolding store_at transfer_in point_at place_in who_in
returns-in-2 c = (simp (
  c.in-2.is,
  c.read_of-p.ensures,
  c.half.ensures,
  c.operation_from.ensures,
  c.store_read.ensures,
))
    ∙ stored_at _ _

pub returns-in-4 : goal.returns-in-4
unfolding store_at transfer_in point_at place_in
returns-in-4 c = (simp (
  c.in-4.is,
  c.queue_of-p.ensures,
  c.who_from.ensures,
  c.operation_from-in-4.ensures,
  c.store_round.ensures,
))
    ∙ stored_at _ _

pub returns-in_default : goal.returns-in_default
unfolding transfer_in place_in
returns-in_default c = let group : ℕ = get_or c.args.words.now 0 0 in
    sym (none_stored _ _ (place_in c.args.words.now)
    (ne_eqb group 2 (λ (e : group ≡ 2). omega arith))
    (ne_eqb group 4 (λ (e : group ≡ 4). omega arith)))
    ∙ stored_at _ _
