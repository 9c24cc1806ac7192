-- `crc8::lanes::first_block` meets its contract (proofs/FirstBlock.antt).
use borrow.Author.Rules.{rules}
use Rattle.crc8.proofs.FirstBlock.{begun}
use Rattle.crc8.proofs.lanes.first_block.Goals as goal

pub returns : goal.returns
returns c = rw c.copy_from_slice.ensures.after (begun c.args.start c.args.bytes.now (search rules) c.requires.0 c.requires.1)
