-- `code`: `zip_turn` says which operation comes next, and `zip_end` that none is left. See Invariants.antt.
use native.Mathlib.Omega.{arith}
use mathlib.Core.Path.{◌∙◌}
use lib.ListN.{length-append}
use borrow.Author.Rules.{rules}
use Rattle.std.proofs.lemmas.Slice.Zip.{zip_turn, zip_end}
use Rattle.transfer_code.proofs.Coding.{begun, room, gone, ended}
use Rattle.transfer_code.proofs.code.Message.code.Goals as goal

pub loop-kind-init : goal.loop-kind-init
loop-kind-init c = rw c.start-coding.ensures (begun _ _ _ _ _ c.args.self.now.listed)

pub with_operation-coding-requires : goal.with_operation-coding-requires
with_operation-coding-requires c =
    let kinds = c.args.self.now.operations.kinds.now in
    let lengths = c.args.self.now.operations.lengths.now in
    let turn = zip_turn kinds lengths c.loop-kind.yielded c.into_iter-kind-iterator.result c.loop-kind.kind-iterator
    c.next.new.self c.next.result (search rules) (search rules)
    c.loop-kind.yielded_by (c.in-Some.kind, c.in-Some.n) c.in-Some.is c.next.ensures.steps in
    rw (c.from.ensures, turn.2 0) (room _ _ _ _ _ c.loop-kind.invariant turn.0 (c.from-in-loop-kind.ensures ∙ turn.3 0))

pub loop-kind-preserved : goal.loop-kind-preserved
loop-kind-preserved c =
    let kinds = c.args.self.now.operations.kinds.now in
    let lengths = c.args.self.now.operations.lengths.now in
    let turn = zip_turn kinds lengths c.loop-kind.yielded c.into_iter-kind-iterator.result c.loop-kind.kind-iterator
    c.next.new.self c.next.result (search rules) (search rules)
    c.loop-kind.yielded_by (c.in-Some.kind, c.in-Some.n) c.in-Some.is c.next.ensures.steps in
    simp length-append
    (gone _ _ _ _ _ c.loop-kind.invariant turn.0 (c.from-in-loop-kind.ensures ∙ turn.3 0)
    (c.with_operation-coding.ensures ∙ rw (c.from.ensures, turn.2 0)))

pub returns : goal.returns
returns c =
    let kinds = c.args.self.now.operations.kinds.now in
    let lengths = c.args.self.now.operations.lengths.now in
    let all = zip_end kinds lengths c.loop-kind.yielded c.into_iter-kind-iterator.result c.loop-kind.kind-iterator
    c.next.new.self c.next.result (search rules) (search rules)
    c.loop-kind.yielded_by c.in-None.is c.next.ensures.steps in
    ended _ _ _ _ _ c.loop-kind.invariant (omega (arith, all, c.loop-kind.invariant.as_many))
