-- `byte`: where `is_straight` holds, `byte_written` of proofs/Writing.antt is the run
-- of the machine over the byte, and `burst_put` puts it into the recording.
use Rattle.std.proofs.Common.{arith, rules, refl, ◌≡◌, ◌+◌, true}
use lib.Dec.{eqb}
use lib.ListN.{get_or}
use borrow.Author.Tests.{eqb-true}
use Rattle.regs.specs.Fields.{tx_empty}
use Rattle.regs.proofs.Tests.{both_of}
use Rattle.regs_runs.proofs.Putting.{first_put, next_put}
use Rattle.regs_runs.proofs.Reach.{stays}
use Rattle.transfer.specs.Inner.Machine.{machine}
use Rattle.transfer_fast_blocking.specs.Inner.Bursts.{straight_write}
use Rattle.transfer_fast_blocking.proofs.Bursting.{burst_put}
use Rattle.transfer_fast_blocking.proofs.Writing.{byte_written}
use Rattle.transfer_fast_blocking.proofs.write_blocking.byte.Goals as goal

pub returns-then-is_straight-clause-sent : goal.returns-then-is_straight-clause-sent
returns-then-is_straight-clause-sent c = λ is buffer.
    let r = c.args.recording.now in
    let need = c.requires in
    let stat = get_or r.readings.now r.used 0 in
    let source = get_or r.readings.now (r.used + 1) 0 in
    let straight : straight_write stat source ≡ true = search rules in
    let both = both_of (tx_empty stat) (eqb source 0) straight in
    let write = rw (c.word_of-w.ensures, c.from.ensures) at c.put_write.ensures in
    burst_put 2 (next_put (next_put (first_put write) c.put_read.ensures) c.put_read-then-is_straight.ensures)
    need.3 refl
    (λ coded kinds lengths t' same. rw (← same.at) (byte_written coded kinds lengths c.args.bytes.now t'
    (stays (machine coded kinds lengths c.args.bytes.now) r.readings.now (omega arith)) need.3 need.2
    both.0 (eqb-true source 0 both.1) (rw same.len need.0)))
