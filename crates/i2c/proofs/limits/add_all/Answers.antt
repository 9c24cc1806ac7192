-- `add_all`: the loop's invariant `Adding` (proofs/Sums.antt): adding the operations from here on to the sums so
-- far gives the sums of all. `zip_turn` says which operation comes next, and `zip_end` that none is left.
use Rattle.std.proofs.Common.{rules, arith, length-append}
use mathlib.Core.Path.{sym, ◌∙◌}
use Rattle.std.proofs.lemmas.Slice.Zip.{zip_turn, zip_end}
use Rattle.i2c.proofs.Sums.{adding_more, unknown, all_added}
use Rattle.i2c.proofs.limits.add_all.Goals as goal

pub returns-in_err-sums : goal.returns-in_err-sums
returns-in_err-sums c =
    let kinds = c.args.operations.now.kinds.now in
    let lengths = c.args.operations.now.lengths.now in
    let turn = zip_turn kinds lengths c.loop-kind.yielded c.into_iter-kind-iterator.result c.loop-kind.kind-iterator
    c.next.new.self c.next.result (search rules) (search rules)
    c.loop-kind.yielded_by (c.in-Some.kind, c.in-Some.n) c.in-Some.is c.next.ensures.steps in
    c.from_residual.ensures ∙ unknown kinds lengths _ _ _ _ c.loop-kind.invariant turn.0 turn.1 (turn.2 0) (c.from.ensures ∙ turn.3 0)
    (sym c.in_err-sums.was ∙ c.with.ensures)

pub loop-kind-preserved : goal.loop-kind-preserved
loop-kind-preserved c =
    let kinds = c.args.operations.now.kinds.now in
    let lengths = c.args.operations.now.lengths.now in
    let turn = zip_turn kinds lengths c.loop-kind.yielded c.into_iter-kind-iterator.result c.loop-kind.kind-iterator
    c.next.new.self c.next.result (search rules) (search rules)
    c.loop-kind.yielded_by (c.in-Some.kind, c.in-Some.n) c.in-Some.is c.next.ensures.steps in
    simp length-append
    (adding_more kinds lengths _ _ _ _ c.loop-kind.invariant turn.0 turn.1 (turn.2 0) (c.from.ensures ∙ turn.3 0) _
    (search rules)
    (sym c.in_ok-sums.was ∙ c.with.ensures))

pub returns : goal.returns
returns c =
    let kinds = c.args.operations.now.kinds.now in
    let lengths = c.args.operations.now.lengths.now in
    let all = zip_end kinds lengths c.loop-kind.yielded c.into_iter-kind-iterator.result c.loop-kind.kind-iterator
    c.next.new.self c.next.result (search rules) (search rules)
    c.loop-kind.yielded_by c.in-None.is c.next.ensures.steps in
    all_added kinds lengths _ _ c.loop-kind.invariant (omega (arith, all, c.requires.0))
