-- `push_digits`: recursive, and k decreases with each call. The tests `k == 0` and `n < 10` select
-- `no_digits`, `one_digit` or `more_digits` of proofs/Digits.antt; in the last case `both` joins the text of
-- the tenth, at most k - 1 digits, and the digit left over.
use Rattle.std.proofs.Common.{arith}
use Rattle.text_hex.proofs.Adding.{no_text, both, at_most}
use Rattle.text_tables.proofs.Digits.{no_digits, one_digit, more_digits}
use Rattle.text_tables.proofs.decimal.+push_digits.Goals as goal

pub returns-then-k-eq0 : goal.returns-then-k-eq0
returns-then-k-eq0 t c = rw (no_digits _ _ c.if-k-eq0.true) (no_text _ _)

pub returns-then-n-lt10 : goal.returns-then-n-lt10
returns-then-n-lt10 t c =
    rw (one_digit _ _ c.if-k-eq0.false c.if-n-lt10.true, ← c.digit.ensures)
    (at_most _ (omega (arith, c.if-k-eq0.false)) c.push.ensures)

pub returns : goal.returns
returns t c =
    rw (more_digits _ _ c.if-k-eq0.false c.if-n-lt10.false, ← c.digit-2.ensures)
    (at_most _ (omega (arith, c.if-k-eq0.false))
    (both c.push_digits.ensures c.push-2.ensures))
