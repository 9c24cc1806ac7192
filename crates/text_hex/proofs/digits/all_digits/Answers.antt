-- `all_digits`: the loop's invariant is that `so_far` and the digits still to come decide it for all;
-- `digit_more` of proofs/Pairs.antt takes in one byte and `digits_end` closes it.
use Rattle.std.proofs.Common.{sym, ◌∙◌}
use Rattle.text_hex.proofs.Pairs.{digit_more, digits_end}
use Rattle.text_hex.proofs.digits.all_digits.Goals as goal

pub loop-c-preserved : goal.loop-c-preserved
loop-c-preserved c =
    rw c.is_digit-so_far.ensures (digit_more c.loop-c.so_far c.args.ds.now c.loop-c.c-index c.loop-c-test.true
    ∙ c.loop-c.invariant)

pub returns : goal.returns
returns c =
    sym (digits_end c.loop-c.so_far c.args.ds.now c.loop-c.c-index c.loop-c-test.false) ∙ c.loop-c.invariant
