-- `crc8::lanes::take_in` meets its contract: the block's first j bytes are taken in.
use mathlib.Core.Path.{◌≡◌}
use Rattle.crc8.proofs.Folding.{partly}
use Rattle.crc8.proofs.lanes.take_in.Given as goal

abbrev pub invariant-loop-j : goal.invariant-loop-j
invariant-loop-j l = l.lanes ≡ partly l.j l.initial.lanes l.block
