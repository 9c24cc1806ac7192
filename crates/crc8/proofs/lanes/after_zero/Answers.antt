-- `crc8::lanes::after_zero` meets its contract.
use borrow.Author.Rules.{rules}
use Rattle.crc8.proofs.Moved.{by_mask}
use Rattle.crc8.proofs.lanes.after_zero.Goals as goal

pub returns : goal.returns
returns c = by_mask c.args.crc (search rules)
