-- `spklen_of`: the mask cuts the quotient to 8 bits.
use Prim.Native.Nat.{◌/◌, ◌^◌}
use lib.Bits.{and_mask}
use Rattle.clock_setting.specs.SetConfig.{spklen}
use borrow.Author.Tests.{le-ltb}
use Rattle.clock.proofs.spklen_of.Goals as goal

pub returns-else-lcnt-lt16 : goal.returns-else-lcnt-lt16
unfolding spklen
returns-else-lcnt-lt16 c = rw (le-ltb _ _ c.if-lcnt-lt16.false) (and_mask (c.args.lcnt / 2 ^ 4) 8)
