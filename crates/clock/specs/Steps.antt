-- Stepping clock setup by hand (`clock::start`, `next_access`, `advance`) leaves what `set_config` is to leave.
use Rattle.std.specs.Prelude.{ℕ, None}
use Rattle.regs.specs.Steps.{SteppedAs}
use Rattle.clock_setting.specs.SetConfig.{set_config}
use Rattle.clock.specs.declared.ClockPoint.{ClockPoint}
use Rattle.clock.specs.Inner.Machine.{start_of, next_of, advance_of}

-- the functions are those of the three contracts; a setting has no buffer and no state
abbrev pub SteppedSetConfig : Type 0
SteppedSetConfig = (frequency clk : ℕ)
    → SteppedAs
    (record { S = ClockPoint; K = Unit {0}; next = next_of; advance = advance_of; store = λ p v. None; state = λ p. tt })
    (λ me. start_of frequency clk) (set_config frequency clk)
