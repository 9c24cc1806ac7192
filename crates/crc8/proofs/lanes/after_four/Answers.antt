-- `crc8::lanes::after_four` meets its contract.
use borrow.Author.Rules.{rules}
use Rattle.crc8.proofs.Moved.{by_four}
use Rattle.crc8.proofs.lanes.after_four.Goals as goal

pub returns : goal.returns
returns c = by_four c.args.crc (search rules)
