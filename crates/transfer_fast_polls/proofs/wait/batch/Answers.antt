-- `batch`: where `poll` made the poll, `batch_waits` of proofs/AtWait.antt is the run of the machine from the point to
-- itself, and `polled` puts it into the recording.
use Rattle.std.proofs.Common.{arith, sym, ◌∙◌}
use Rattle.regs.proofs.Tests.{by_test}
use Rattle.regs_runs.proofs.Reach.{stays}
use Rattle.transfer.specs.Inner.Machine.{machine}
use Rattle.transfer_fast_polls.proofs.Still.{no_poll, polled}
use Rattle.transfer_fast_polls.proofs.AtWait.{batch_waits}
use Rattle.transfer_fast_polls.proofs.wait.batch.Goals as goal

pub returns-then-not-has-clause-stays : goal.returns-then-not-has-clause-stays
returns-then-not-has-clause-stays c = λ x is. no_poll (omega arith)

pub returns-clause-stays : goal.returns-clause-stays
returns-clause-stays c = λ x is.
    let r = c.args.recording.now in
    let words = rw (← is) at c.is_too_few.ensures in
    by_test c.poll.result
    (λ yes.
    let p = rw (
      c.with_m_tx_abrt.ensures,
      c.with_m_rx_full.ensures,
      c.from.ensures,
      c.saturating_sub.ensures,
      ← is,
    ) at (c.poll.ensures.polled yes) in
    polled p (λ coded kinds lengths bytes t b. batch_waits coded kinds lengths bytes t
    (stays (machine coded kinds lengths bytes) r.readings.now (omega arith)) (sym words ∙ p.nothing) p.room p.left))
    (λ no. rw (c.poll.ensures.stayed no) (no_poll (omega arith)))
