-- `push_flags`: `flags_next` of proofs/Printing.antt moves one flag over and halves `rest`.
use Rattle.std.proofs.Common.{arith}
use Rattle.text_hex.proofs.Adding.{one_more, all_added}
use Rattle.text_tables.proofs.Printing.{flags_next, flags_end}
use Rattle.text_tables.proofs.rows.push_flags.Goals as goal

pub loop-i-preserved : goal.loop-i-preserved
loop-i-preserved c =
    one_more c.loop-i.invariant _ (flags_next c.args.table.now c.args.n c.loop-i.i c.loop-i.rest c.loop-i-test.true)
    c.push_flag.ensures (omega arith)

pub returns : goal.returns
returns c =
    all_added c.loop-i.invariant _ (flags_end c.args.table.now c.args.n c.loop-i.i c.loop-i.rest c.loop-i-test.false)
    (omega arith)
