-- Clock setup by steps is `set_config`. It rests on `set_config_agrees`.
use Rattle.regs.proofs.Stepped.{stepped_as}
use Rattle.clock_setting.specs.SetConfig.{set_config}
use Rattle.clock.specs.Steps.{SteppedSetConfig}
use Rattle.clock.specs.Inner.Machine.{machine, start_of}
use Rattle.clock.proofs.Agrees.{set_config_agrees}

pub stepped_set_config : SteppedSetConfig
stepped_set_config frequency clk = stepped_as machine (set_config frequency clk) (λ me. start_of frequency clk)
    (λ me b m n h. set_config_agrees frequency clk m n h b)
