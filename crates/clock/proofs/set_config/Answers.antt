-- `clock::set_config` meets its contract.
use Rattle.clock.proofs.Agrees.{set_config_agrees}
use Rattle.clock.specs.Inner.Machine.{machine}
use Rattle.clock_setting.specs.SetConfig.{set_config}
use Rattle.regs.proofs.Refine.{leaves}
use mathlib.Core.List.{[]}
use Rattle.clock.proofs.set_config.Goals as goal

pub returns : goal.returns
returns c = leaves machine c.start-p.result (set_config c.args.frequency c.args.clk)
    c.args.readings.now c.args.log.now _ [] [] tt c.drive.result
    (λ m k h. rw c.start-p.ensures
    (set_config_agrees c.args.frequency c.args.clk m k h []))
    c.drive.ensures
