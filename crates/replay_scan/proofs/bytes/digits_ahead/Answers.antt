-- `digits_ahead`: the invariant is the contract's `DigitsAhead` for the k bytes passed so far; `skipped_more`
-- of proofs/Skipped.antt adds a byte that is a digit.
use mathlib.Core.Path.{sym, ◌∙◌}
use borrow.Author.Tests.{ltb-true}
use Rattle.replay_scan.proofs.Skipped.{skipped_none, skipped_more}
use Rattle.replay_scan.proofs.bytes.digits_ahead.Goals as goal

pub loop-k-init : goal.loop-k-init
loop-k-init c = skipped_none _

pub loop-k-preserved : goal.loop-k-preserved
loop-k-preserved c = skipped_more c.loop-k.invariant c.loop-k-test.true
    (ltb-true _ _ (sym c.is_digit.ensures ∙ c.if-not-is_digit.false))
