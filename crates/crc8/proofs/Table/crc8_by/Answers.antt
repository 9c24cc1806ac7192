-- `crc8::Table::crc8_by` meets its contract: it is the fold of `after_byte`.
use borrow.Author.Rules.{rules}
use Rattle.crc8.proofs.Fold.{crc8_from_fold}
use Rattle.crc8.proofs.Table.crc8_by.Goals as goal

pub returns : goal.returns
returns c = rw crc8_from_fold (search rules)
