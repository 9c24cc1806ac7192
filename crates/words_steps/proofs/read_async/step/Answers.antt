-- `step`: the row decides. Rows 0, 1 and 3 are the contracts of `capacity`, `queued` and `fetched`, whose
-- requires is the test taken; row 2 is `level_read` (proofs/ReadAsync.antt) with the level that `level_of`
-- returns; any other row makes no step.
use Rattle.words_steps.proofs.ReadAsync.{level_read}
use Rattle.words_steps.proofs.read_async.step.Goals as goal

pub returns-in-2 : goal.returns-in-2
returns-in-2 c = simp c.level_of.ensures
    (level_read c.args.v c.args.words.now c.sized.ensures
    c.requires c.in-2.is tt)
