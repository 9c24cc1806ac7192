-- `transfer`: for each kind the call's contract, with the zeros of `clear` as the first buffer, gives the printed text
-- (`printed_zeros`); a write is printed with an empty buffer (`prints_empty`). `room` is what `push_outcome` needs.
use lib.ListN.{length}
use mathlib.Core.Path.{refl}
use Rattle.master.specs.Operations.{write, fits}
use Rattle.replay_calls.specs.Calls.{within_form}
use Rattle.replay_calls.proofs.Legal.{transfer_of_legal}
use Rattle.replay_calls.proofs.Prints.{room, prints_empty, size_then}
use Rattle.replay_calls.proofs.Cleared.{zeros, few_zeros}
use Rattle.replay_run_master.proofs.Printed.{printed_zeros}
use native.Mathlib.Omega.{arith}
use Rattle.replay_run_master.proofs.transfer.Goals as goal

pub push_outcome-requires : goal.push_outcome-requires
push_outcome-requires c = let l = c.read-ran in
    let b = few_zeros c.args.operations.room c.args.work.now.buffer.now _ c.requires.fits c.clear.ensures c.requires.few in
    room l.ensures.ran c.requires.log l.auto.log c.then_some.result c.args.work.now.text
    (omega (arith, size_then _ _ c.then_some.ensures, l.auto.room, b)) c.requires.text

pub returns-in-Read-clause-ran : goal.returns-in-Read-clause-ran
returns-in-Read-clause-ran c = let a = c.args in
    let o = a.operations in
    let l = c.read-ran in
    let z = zeros o.room a.work.now.buffer.now c.clear.new.buffer c.requires.fits c.clear.ensures in
    rw (c.in-Read.is, ← c.has_read-has_read.ensures)
    (rw c.in-Read.is at (printed_zeros a.form a.address o.kinds.now o.lengths.now o.bytes.now o.room c.requires.few
    a.work.now.log.now a.readings.now c.requires.log _ l.new.log l.result z _ _ c.then_some.ensures
    (rw c.in-Read.is l.ensures) l.auto.log l.auto.room c.push_outcome.ensures))

pub push_outcome-requires-in-Write : goal.push_outcome-requires-in-Write
push_outcome-requires-in-Write c = let l = c.write-ran in
    room l.ensures c.requires.log l.auto.log c.then_some-in-Write.result c.args.work.now.text
    (omega (arith, size_then _ _ c.then_some-in-Write.ensures)) c.requires.text

pub returns-in-Write-clause-ran : goal.returns-in-Write-clause-ran
returns-in-Write-clause-ran c = let a = c.args in
    let o = a.operations in
    let l = c.write-ran in
    rw (c.in-Write.is, ← c.has_read-has_read.ensures)
    (prints_empty (within_form a.form a.address (fits (length o.bytes.now)) (write o.bytes.now))
    (rw c.in-Write.is at (transfer_of_legal a.form a.address o.kinds.now o.lengths.now o.bytes.now a.work.now.buffer.now))
    a.work.now.log.now a.readings.now tt c.requires.log l.ensures l.auto.log _ _
    c.then_some-in-Write.ensures refl c.push_outcome-in-Write.ensures)

pub push_outcome-requires-in-WriteRead : goal.push_outcome-requires-in-WriteRead
push_outcome-requires-in-WriteRead c = let l = c.write_read-ran in
    let b = few_zeros c.args.operations.room c.args.work.now.buffer.now _ c.requires.fits c.clear.ensures c.requires.few in
    room l.ensures.ran c.requires.log l.auto.log c.then_some-in-WriteRead.result c.args.work.now.text
    (omega (arith, size_then _ _ c.then_some-in-WriteRead.ensures, l.auto.room, b)) c.requires.text

pub returns-in-WriteRead-clause-ran : goal.returns-in-WriteRead-clause-ran
returns-in-WriteRead-clause-ran c = let a = c.args in
    let o = a.operations in
    let l = c.write_read-ran in
    let z = zeros o.room a.work.now.buffer.now c.clear.new.buffer c.requires.fits c.clear.ensures in
    rw (c.in-WriteRead.is, ← c.has_read-has_read.ensures)
    (rw c.in-WriteRead.is at (printed_zeros a.form a.address o.kinds.now o.lengths.now o.bytes.now o.room c.requires.few
    a.work.now.log.now a.readings.now c.requires.log _ l.new.log l.result z _ _ c.then_some-in-WriteRead.ensures
    (rw c.in-WriteRead.is l.ensures) l.auto.log l.auto.room c.push_outcome-in-WriteRead.ensures))

pub push_outcome-requires-in-Transaction : goal.push_outcome-requires-in-Transaction
push_outcome-requires-in-Transaction c = let l = c.transact-ran in
    let b = few_zeros c.args.operations.room c.args.work.now.buffer.now _ c.requires.fits c.clear.ensures c.requires.few in
    room l.ensures.ran c.requires.log l.auto.log c.then_some-in-Transaction.result c.args.work.now.text
    (omega (arith, size_then _ _ c.then_some-in-Transaction.ensures, l.auto.room, b)) c.requires.text

pub returns-in-Transaction-clause-ran : goal.returns-in-Transaction-clause-ran
returns-in-Transaction-clause-ran c = let a = c.args in
    let o = a.operations in
    let l = c.transact-ran in
    let z = zeros o.room a.work.now.buffer.now c.clear.new.buffer c.requires.fits c.clear.ensures in
    rw (c.in-Transaction.is, ← c.has_read-has_read.ensures)
    (rw c.in-Transaction.is at (printed_zeros a.form a.address o.kinds.now o.lengths.now o.bytes.now o.room c.requires.few
    a.work.now.log.now a.readings.now c.requires.log _ l.new.log l.result z _ _ c.then_some-in-Transaction.ensures
    (rw c.in-Transaction.is l.ensures) l.auto.log l.auto.room c.push_outcome-in-Transaction.ensures))
