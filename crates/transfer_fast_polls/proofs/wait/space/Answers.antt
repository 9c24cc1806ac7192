-- `space`: where `poll` made the poll, `space_waits` of proofs/AtWait.antt is the run of the machine from the point to
-- itself, and `polled` puts it into the recording.
use Rattle.std.proofs.Common.{arith, sym, ◌∙◌}
use Rattle.regs.proofs.Tests.{by_test}
use Rattle.regs_runs.proofs.Reach.{stays}
use Rattle.transfer.specs.Inner.Machine.{machine}
use Rattle.transfer_fast_polls.proofs.Still.{no_poll, polled}
use Rattle.transfer_fast_polls.proofs.AtWait.{space_waits}
use Rattle.transfer_fast_polls.proofs.wait.space.Goals as goal

pub returns-then-not-has-clause-stays : goal.returns-then-not-has-clause-stays
returns-then-not-has-clause-stays c = λ i. no_poll (omega arith)

pub returns-clause-stays : goal.returns-clause-stays
returns-clause-stays c = λ i.
    let r = c.args.recording.now in
    by_test c.poll.result
    (λ yes.
    let p = rw (c.with_m_tx_abrt.ensures, c.with_m_tx_empty.ensures) at (c.poll.ensures.polled yes) in
    polled p (λ coded kinds lengths bytes t b. space_waits coded kinds lengths bytes t
    (stays (machine coded kinds lengths bytes) r.readings.now (omega arith)) (sym c.is_full.ensures ∙ p.nothing) p.room p.left))
    (λ no. rw (c.poll.ensures.stayed no) (no_poll (omega arith)))
