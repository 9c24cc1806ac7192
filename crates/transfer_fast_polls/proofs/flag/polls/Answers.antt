-- `polls`: `poll_unset` of proofs/AtFlag.antt is the run of the machine from the point to itself, and `one_further` adds it
-- to the polls before it. The count leaves a reading and room for it.
use Rattle.std.proofs.Common.{arith, rules, sym, ◌+◌, ◌≤◌, ◌/◌, ◌∙◌, length}
use Rattle.regs_runs.proofs.Putting.{first_put}
use Rattle.regs_runs.proofs.Reach.{stays}
use Rattle.transfer.specs.Inner.Machine.{machine}
use Rattle.transfer_fast_polls.proofs.Still.{none_yet, one_further}
use Rattle.transfer_fast_polls.proofs.AtFlag.{poll_unset}
use Rattle.transfer_fast_polls.proofs.flag.polls.Goals as goal

pub loop-init : goal.loop-init
loop-init c = none_yet (omega arith)

pub loop-preserved : goal.loop-preserved
loop-preserved c =
    let r = c.loop.recording in
    let g = c.loop.invariant in
    let left : r.used + 1 ≤ length r.readings.now = search (rules, g.used) in
    let room : r.entries + 1 ≤ length r.log.now / 2 = search (rules, g.entries) in
    one_further 1 c.loop.invariant (first_put c.put_read.ensures) room (omega arith) (omega arith)
    (λ w coded kinds lengths bytes t b. poll_unset coded kinds lengths bytes t
    (stays (machine coded kinds lengths bytes) r.readings.now (omega arith)) w.awaits (sym c.is_set.ensures ∙ search rules)
    (omega (arith, room)) (omega (arith, left)))

pub returns-after-loop : goal.returns-after-loop
returns-after-loop c = λ p awaits. c.loop.invariant.stays (record { point = p; awaits = awaits })

pub returns-then-is_set : goal.returns-then-is_set
returns-then-is_set c = λ p awaits. c.loop.invariant.stays (record { point = p; awaits = awaits })
