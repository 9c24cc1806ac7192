-- `crc8::Table::crc8_by_lanes` meets its contract: the blocks so far are folded into the lanes.
use mathlib.Core.Path.{◌≡◌}
use Rattle.std.specs.Prelude.{fold, take}
use Rattle.crc8.specs.Inner.Lanes.{taken_in}
use Rattle.crc8.proofs.Table.crc8_by_lanes.Given as goal

abbrev pub invariant-loop-block : goal.invariant-loop-block
invariant-loop-block l = l.lanes ≡ fold taken_in l.initial.lanes (take l.block-index l.blocks)
