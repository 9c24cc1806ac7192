-- `polls`: `poll_empty` of proofs/AtLevel.antt is the run of the machine from the point to itself, and `one_further` adds it
-- to the polls before it. The count leaves two readings and room for it.
use Rattle.std.proofs.Common.{arith, rules, sym, ◌+◌, ◌≤◌, ◌/◌, ◌∙◌, length}
use Rattle.regs_runs.proofs.Putting.{first_put, next_put}
use Rattle.regs_runs.proofs.Reach.{stays}
use Rattle.transfer.specs.Inner.Machine.{machine}
use Rattle.transfer_fast_polls.proofs.Still.{none_yet, one_further}
use Rattle.transfer_fast_polls.proofs.AtLevel.{poll_empty}
use Rattle.transfer_fast_polls.proofs.level.polls.Goals as goal

pub loop-init : goal.loop-init
loop-init c = none_yet (omega arith)

pub loop-preserved : goal.loop-preserved
loop-preserved c =
    let r = c.loop.recording in
    let g = c.loop.invariant in
    let left : r.used + 2 ≤ length r.readings.now = search (rules, g.used) in
    let room : r.entries + 2 ≤ length r.log.now / 2 = search (rules, g.entries) in
    one_further 2 c.loop.invariant (next_put (first_put c.put_read.ensures) c.put_read-in-loop.ensures) room (omega arith) (omega arith)
    (λ i coded kinds lengths bytes t b. poll_empty coded kinds lengths bytes t
    (stays (machine coded kinds lengths bytes) r.readings.now (omega arith)) (sym c.is_empty.ensures ∙ search rules) room left)
