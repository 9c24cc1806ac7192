-- `push_text`: the bytes so far are put, and the others are to come (`Adding` of proofs/Adding.antt).
use Rattle.std.proofs.Common.{arith, add-one, drop-cons}
use Rattle.text_hex.proofs.Adding.{one_more, all_added}
use lib.ListN.{drop_of_length-le}
use Rattle.text_hex.proofs.text.Text.push_text.Goals as goal

pub loop-c-preserved : goal.loop-c-preserved
loop-c-preserved c =
    one_more c.loop-c.invariant _ (rw add-one (drop-cons c.args.bytes.now c.loop-c.c-index 0 c.loop-c-test.true))
    c.push.ensures (omega arith)

pub returns : goal.returns
returns c =
    all_added c.loop-c.invariant _ (drop_of_length-le c.args.bytes.now c.loop-c-test.false) (omega arith)
