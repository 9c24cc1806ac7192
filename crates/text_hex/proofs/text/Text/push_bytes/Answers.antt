-- `push_bytes`: the digits of the bytes so far are put, and those of the others are to come (`Adding` of
-- proofs/Adding.antt).
use Rattle.std.proofs.Common.{arith, add-one, drop-cons}
use lib.ListN.{drop_of_length-le}
use Rattle.text_hex.specs.Print.{bytes_text}
use Rattle.text_hex.proofs.Adding.{one_more, all_added}
use Rattle.text_hex.proofs.text.Text.push_bytes.Goals as goal

pub loop-b-preserved : goal.loop-b-preserved
unfolding bytes_text
loop-b-preserved c =
    one_more c.loop-b.invariant _ (rw (drop-cons c.args.bytes.now c.loop-b.b-index 0 c.loop-b-test.true, add-one, c.from.ensures))
    c.push_hex2.ensures (omega arith)

pub returns : goal.returns
unfolding bytes_text
returns c =
    all_added c.loop-b.invariant _ (rw (drop_of_length-le c.args.bytes.now c.loop-b-test.false)) (omega arith)
