-- `step`: the row decides. Rows 0 and 1 are the contracts of `free` and `filled`, whose requires is the test
-- taken; row 2 at a level below 16 is `to_free` (proofs/WriteAsync.antt). A full FIFO, or any other row,
-- makes no step.
use native.Mathlib.Omega.{arith}
use Rattle.words_steps.proofs.WriteAsync.{to_free}
use Rattle.words_steps.proofs.write_async.step.Goals as goal

pub returns-then-level_of-lt16 : goal.returns-then-level_of-lt16
returns-then-level_of-lt16 c = to_free c.args.v c.args.words.now c.sized.ensures
    c.requires c.in-2.is (omega arith)
