-- `burst`: `responds_on` of proofs/Sending.antt adds a chunk to those before it: its poll (`chunk_polled`), its bytes
-- (`send`), and the wait behind them (`chunk_waited`). The bounds of `StraightChunk` leave room for its entries.
use Rattle.std.proofs.Common.{arith, ◌+◌, ◌≤◌, ◌<◌, ◌/◌, ◌^◌, length}
use Rattle.regs_runs.proofs.Putting.{first_put, next_put}
use Rattle.slave_fast_bytes.proofs.Sending.{responds_on, chunk_polled, chunk_waited}
use Rattle.slave_fast_bytes.proofs.respond.burst.Goals as goal

pub put_write-requires : goal.put_write-requires
put_write-requires c = omega (arith, c.in-Some.ensures, (c.send.ensures.sent 0).keeps.size)

pub put_mark-requires : goal.put_mark-requires
put_mark-requires c = omega (arith, c.in-Some.ensures, (c.send.ensures.sent 0).keeps.size)

pub loop-end-preserved : goal.loop-end-preserved
loop-end-preserved c =
    let s = c.in-Some.ensures in
    let sent = c.send.ensures.sent c.args.count in
    let r = c.send.new.recording in
    let fits : length c.loop-end.recording.log.now < 2 ^ 64 = omega arith in
    let room : r.entries + 2 ≤ length r.log.now / 2 = omega (arith, s, sent.keeps.size) in
    let fits_after : length r.log.now < 2 ^ 64 = omega (arith, sent.keeps.size) in
    responds_on c.loop-end.invariant
    (responds_on (chunk_polled s fits (first_put c.put_read.ensures))
    (responds_on sent (chunk_waited room fits_after (next_put (first_put c.put_write.ensures) c.put_mark.ensures))))
