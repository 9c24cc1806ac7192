-- `Wanted::hold` meets its contract.
use Rattle.clock_setting.specs.Datasheet.{hold}
use Rattle.clock_setting.specs.SetConfig.{hold_below_1_mhz, hold_at_1_mhz}
use borrow.Author.Tests.{le-ltb, lt-ltb}
use Rattle.clock.proofs.Wanted.hold.Goals as goal

pub returns-then-self-lt1000000-clause-value : goal.returns-then-self-lt1000000-clause-value
unfolding hold hold_below_1_mhz hold_at_1_mhz
returns-then-self-lt1000000-clause-value c = rw (lt-ltb _ _ c.if-self-lt1000000.true)

pub returns-else-self-lt1000000-clause-value : goal.returns-else-self-lt1000000-clause-value
unfolding hold hold_below_1_mhz hold_at_1_mhz
returns-else-self-lt1000000-clause-value c = rw (le-ltb _ _ c.if-self-lt1000000.false)
