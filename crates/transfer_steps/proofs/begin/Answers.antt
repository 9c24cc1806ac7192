-- `begin`: what is listed at the next place is what `begun` opens (proofs/Begun.antt).
use Rattle.std.proofs.Common.{arith, sym, ◌∙◌}
use Rattle.transfer_steps.proofs.Begun.{next_listed}
use Rattle.transfer_steps.proofs.begin.Goals as goal

pub overflow_add-n : goal.overflow_add-n
overflow_add-n c =
    let plan = c.args.plan.now in
    let next = next_listed plan.coded plan.operations.kinds.now plan.operations.lengths.now c.args.t
    (sym c.get.ensures ∙ c.in-Some.is) in
    omega (arith, next.0, c.len-all.ensures, c.len-all.type_inv)

pub returns-in-Some : goal.returns-in-Some
returns-in-Some c =
    let plan = c.args.plan.now in
    let next = next_listed plan.coded plan.operations.kinds.now plan.operations.lengths.now c.args.t
    (sym c.get.ensures ∙ c.in-Some.is) in
    c.open.ensures ∙ rw (c.length_for_code.ensures, c.len-all.ensures) next.1
