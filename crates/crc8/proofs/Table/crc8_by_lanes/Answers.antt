-- `crc8::Table::crc8_by_lanes` meets its contract: the blocks so far are folded into the lanes.
use native.Mathlib.Omega.{arith}
use mathlib.Core.Path.{◌∙◌}
use borrow.Author.Rules.{rules}
use Rattle.crc8.proofs.Folding.{whole}
use Rattle.crc8.proofs.Table.crc8_by_lanes.Goals as goal

pub returns : goal.returns
returns c =
    c.code_of_lanes.ensures
    ∙ whole c.args.start c.args.bytes.now _ _ _ _ _ _ c.split_at.ensures.by_index.0 c.requires (omega (arith, c.split_at.ensures.front_len))
    c.as_chunks.ensures.front (search rules) c.first_block-lanes.ensures c.loop-block.invariant (omega (arith, c.loop-block-test.false))
