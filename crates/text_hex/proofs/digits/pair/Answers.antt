-- `pair`: `i < length ds / 2` puts 2 * i and 2 * i + 1 in the line. `pair_digits` of proofs/Pairs.antt gives
-- that both bytes are digits, as `digit_value` requires, and so that the sum fits a byte; `value_at` is the
-- result.
use mathlib.Core.Path.{sym}
use native.Mathlib.Omega.{arith}
use Rattle.text_hex.proofs.Pairs.{pair_digits, value_at}
use Rattle.text_hex.proofs.digits.pair.Goals as goal

pub digit_value-high-requires : goal.digit_value-high-requires
digit_value-high-requires c = (pair_digits c.args.ds.now c.args.i c.requires.digits c.requires.within).0

pub digit_value-low-requires : goal.digit_value-low-requires
digit_value-low-requires c = (pair_digits c.args.ds.now c.args.i c.requires.digits c.requires.within).1

pub overflow_mul-result : goal.overflow_mul-result
overflow_mul-result c = omega (
  arith,
  c.digit_value-high.ensures,
  pair_digits c.args.ds.now c.args.i c.requires.digits c.requires.within,
)

pub overflow_add-result : goal.overflow_add-result
overflow_add-result c = omega (
  arith,
  c.digit_value-high.ensures,
  c.digit_value-low.ensures,
  pair_digits c.args.ds.now c.args.i c.requires.digits c.requires.within,
)

pub returns : goal.returns
returns c = rw (c.digit_value-high.ensures, c.digit_value-low.ensures)
    (sym (value_at c.args.ds.now c.args.i c.requires.within))
