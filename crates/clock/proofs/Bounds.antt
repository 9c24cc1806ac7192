-- Clock setup is bounded by its readings and its log alone.
use Prim.Native.Nat.{ℕ}
use Rattle.regs.specs.Bounds.{Bounded}
use Rattle.regs.proofs.Bounded.{bounded_by}
use Rattle.clock_setting.specs.SetConfig.{set_config}
use Rattle.clock.specs.Inner.Machine.{machine, start_of}
use Rattle.clock.proofs.Agrees.{set_config_agrees}

pub bounded_set_config : (frequency clk : ℕ) → Bounded (set_config frequency clk)
bounded_set_config frequency clk = bounded_by machine (set_config frequency clk) (λ z. start_of frequency clk)
    (λ z b m n h. set_config_agrees frequency clk m n h b)
