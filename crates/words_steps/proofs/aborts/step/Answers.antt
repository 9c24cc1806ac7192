-- `step`: a row or a reading other than 0 makes no step. Then KIND decides: 0 and 3 are
-- `to_level` and `to_full` (proofs/NoAbort.antt), 1 and 2 the contracts of `written` and `arrived`, whose
-- requires are the tests taken; for STOP no step is made.
use Rattle.words_steps.proofs.NoAbort.{to_level, to_full}
use Rattle.words_steps.proofs.aborts.step.Goals as goal

pub returns-in-0 : goal.returns-in-0
returns-in-0 c = to_level c.args.v c.args.words.now c.sized.ensures
    c.requires c.if-words-ne0.false (c.in-0.is, c.if-v-ne0.false)

pub returns-in-3 : goal.returns-in-3
returns-in-3 c = to_full c.args.v c.args.words.now c.sized.ensures
    c.requires c.if-words-ne0.false (c.in-3.is, c.if-v-ne0.false)
