-- `enter_pairs`: the test `is_pairs` decides between `enters_pairs` and `enters_unpaired`; the former takes
-- the stored bytes from `put_pairs` and the counts and slices from `enter_bytes`. `Small` bounds the place of
-- the bytes by 4096, as `put_pairs` requires.
use Rattle.replay_session.proofs.Enters.{enters_pairs, enters_unpaired}
use mathlib.Core.Path.{sym, ◌∙◌}
use Rattle.replay_session.proofs.Session.enter_pairs.Goals as goal

pub returns-then-is_pairs-clause-entered : goal.returns-then-is_pairs-clause-entered
returns-then-is_pairs-clause-entered c = λ text l. rw (c.enter_bytes.ensures.entered, c.enter_bytes.ensures.put)
    (enters_pairs _ _ _ _ c.requires.small l _ _
    (sym c.is_pairs.ensures ∙ c.if-is_pairs.true) (rw c.counts_of.ensures at c.put_pairs.ensures.put) _)

pub returns-clause-entered : goal.returns-clause-entered
returns-clause-entered c = λ text l. enters_unpaired _ _ _ _ c.requires.small l _
    (sym c.is_pairs.ensures ∙ c.if-is_pairs.false) _
