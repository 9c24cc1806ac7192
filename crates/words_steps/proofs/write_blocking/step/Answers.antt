-- `step`: row 0 is `send`, and in row 1 what `has_tx_empty` returns decides between `empty` and `waiting`
-- (proofs/WriteBlocking.antt); `waiting` is made without a change, as the point is the same. In any
-- other row no step is made.
use mathlib.Core.Path.{sym, ◌∙◌}
use Rattle.words_steps.proofs.WriteBlocking.{send, empty, waiting}
use Rattle.words_steps.proofs.write_blocking.step.Goals as goal

pub returns-in-0 : goal.returns-in-0
returns-in-0 c = send c.args.v c.args.words.now c.sized.ensures
    c.requires c.in-0.is tt

pub returns-then-has_tx_empty : goal.returns-then-has_tx_empty
returns-then-has_tx_empty c = empty c.args.v c.args.words.now c.sized.ensures
    c.requires c.in-1.is (sym c.has_tx_empty.ensures ∙ c.if-has_tx_empty.true)

pub returns-else-has_tx_empty : goal.returns-else-has_tx_empty
returns-else-has_tx_empty c = waiting c.args.v c.args.words.now c.sized.ensures
    c.requires c.in-1.is (sym c.has_tx_empty.ensures ∙ c.if-has_tx_empty.false)
