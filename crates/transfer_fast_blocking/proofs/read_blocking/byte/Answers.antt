-- `byte`: where `is_straight` holds, `byte_read` of proofs/Reading.antt is the run of
-- the machine over the byte, and `burst_put` puts it into the recording.
use Rattle.std.proofs.Common.{arith, rules, ◌≡◌, ◌+◌, ◌%◌, ◌^◌, true, not}
use lib.Dec.{eqb, ltb}
use lib.ListN.{get_or, length-set}
use borrow.Author.Tests.{ltb-true, eqb-false, not-true}
use Rattle.regs.specs.Fields.{level}
use Rattle.regs.proofs.Tests.{both_of}
use Rattle.regs_runs.proofs.Putting.{first_put, next_put}
use Rattle.regs_runs.proofs.Reach.{stays}
use Rattle.transfer.specs.Inner.Machine.{machine}
use Rattle.transfer_fast_blocking.specs.Inner.Bursts.{straight_read}
use Rattle.transfer_fast_blocking.proofs.Bursting.{burst_put}
use Rattle.transfer_fast_blocking.proofs.Reading.{byte_read}
use Rattle.transfer_fast_blocking.proofs.read_blocking.byte.Goals as goal

pub returns-then-is_straight-clause-taken : goal.returns-then-is_straight-clause-taken
returns-then-is_straight-clause-taken c = λ is bytes.
    let r = c.args.recording.now in
    let need = c.requires in
    let room = get_or r.readings.now r.used 0 in
    let filled = get_or r.readings.now (r.used + 1) 0 in
    let straight : straight_read room filled ≡ true = search rules in
    let both = both_of (ltb (level room) 16) (not (eqb (level filled) 0)) straight in
    let place : (c.args.t.operation.at + c.args.i) % 2 ^ 64 ≡ c.args.t.operation.at + c.args.i = omega (arith, need.1) in
    burst_put 3
    (next_put (next_put (next_put (first_put c.put_read.ensures) (rw c.word_of-w.ensures at c.put_write.ensures))
    c.put_read-then-is_straight.ensures) c.put_read-then-is_straight-2.ensures)
    need.3 (rw c.byte_of.ensures (simp length-set))
    (λ coded kinds lengths t' same. rw (c.byte_of.ensures, c.from.ensures, ← place, ← same.restart, ← same.at)
    (byte_read coded kinds lengths bytes t'
    (stays (machine coded kinds lengths bytes) r.readings.now (omega arith)) need.3 need.2
    (ltb-true (level room) 16 both.0) (eqb-false (level filled) 0 (not-true (eqb (level filled) 0) both.1))
    (rw same.len need.0)))
