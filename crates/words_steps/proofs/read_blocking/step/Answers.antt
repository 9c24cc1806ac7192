-- `step`: the row and one more test pick the law (proofs/ReadBlocking.antt): `room` at a level below 16,
-- `ask` always, `empty` or `level_read` by whether the level is 0, `take` where next < len. In the other
-- cases no step is made. The laws require 20 words, which `sized` ensures.
use native.Mathlib.Omega.{arith}
use mathlib.Core.Path.{sym, ◌∙◌}
use Rattle.words_steps.proofs.ReadBlocking.{room, ask, empty, level_read, take}
use Rattle.words_steps.proofs.read_blocking.step.Goals as goal

pub returns-then-level_of-lt16 : goal.returns-then-level_of-lt16
returns-then-level_of-lt16 c = room c.args.v c.args.words.now c.sized.ensures
    c.requires c.in-0.is (omega arith)

pub returns-in-1 : goal.returns-in-1
returns-in-1 c = ask c.args.v c.args.words.now c.sized.ensures
    c.requires c.in-1.is tt

pub returns-then-level_of-eq0 : goal.returns-then-level_of-eq0
returns-then-level_of-eq0 c = empty c.args.v c.args.words.now c.sized.ensures
    c.requires c.in-2.is (sym c.level_of-in-2.ensures ∙ c.if-level_of-eq0.true)

pub returns-else-level_of-eq0 : goal.returns-else-level_of-eq0
returns-else-level_of-eq0 c = level_read c.args.v c.args.words.now c.sized.ensures
    c.requires c.in-2.is (λ e. c.if-level_of-eq0.false (c.level_of-in-2.ensures ∙ e))

pub returns-then-next-words : goal.returns-then-next-words
returns-then-next-words c = take c.args.v c.args.words.now c.sized.ensures
    c.requires c.in-3.is c.if-next-words.true
