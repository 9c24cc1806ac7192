-- `all_digits`: the loop's invariant is that `so_far` and the digits still to come decide it for all;
-- `digit_more` of proofs/Pairs.antt takes in one byte and `digits_end` closes it.
use mathlib.Core.Path.{◌≡◌}
use mathlib.Core.Bool.{◌&&◌}
use lib.ListN.{drop}
use Rattle.text_hex.specs.Pairs.{all_digits}
use Rattle.text_hex.proofs.digits.all_digits.Given as goal

abbrev pub invariant-loop-c : goal.invariant-loop-c
invariant-loop-c l = l.so_far && all_digits (drop l.c-index l.ds) ≡ all_digits l.ds
