-- `written`: where a byte follows the step is `to_send` (proofs/NoAbort.antt).
use Rattle.words_steps.proofs.NoAbort.{to_send}
use Rattle.words_steps.proofs.aborts.written.Goals as goal

pub returns-then-next-words : goal.returns-then-next-words
returns-then-next-words c = to_send c.args.v c.args.words.now c.sized.ensures
    c.requires.0.0 c.requires.0.1 (c.requires.1, c.requires.2, c.if-next-words.true)
