-- `crc8::Table::looked_up` meets its contract.
use borrow.Author.Rules.{rules}
use Rattle.crc8.proofs.Codes.{looked_up}
use Rattle.crc8.proofs.Table.looked_up.Goals as goal

pub returns : goal.returns
returns c = looked_up c.args.self.now.right c.args.crc c.args.byte (search rules) (search rules)
