-- `push_until_dot`: a letter is put by `letter_next` of proofs/Printing.antt; a dot and the end end the text.
use Rattle.std.proofs.Common.{arith}
use Rattle.text_hex.proofs.Adding.{one_more, all_added}
use Rattle.text_tables.proofs.Printing.{letter_next, letter_dot, letters_end}
use Rattle.text_tables.proofs.rows.push_until_dot.Goals as goal

pub returns-then-c-eq46 : goal.returns-then-c-eq46
returns-then-c-eq46 c =
    all_added c.loop-c.invariant _ (letter_dot c.args.letters.now c.loop-c.c-index c.loop-c-test.true c.if-c-eq46.true)
    (omega arith)

pub loop-c-preserved : goal.loop-c-preserved
loop-c-preserved c =
    one_more c.loop-c.invariant _ (letter_next c.args.letters.now c.loop-c.c-index c.loop-c-test.true c.if-c-eq46.false)
    c.push.ensures (omega arith)

pub returns : goal.returns
returns c =
    all_added c.loop-c.invariant _ (letters_end c.args.letters.now c.loop-c.c-index c.loop-c-test.false) (omega arith)
