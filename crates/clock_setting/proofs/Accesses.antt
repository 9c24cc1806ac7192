-- Every access of a clock setting is legal, none writes CON, TAR or SAR, and no answer is TxNotEmpty: found along the
-- program (`legal`).
use Prim.Native.Nat.{ℕ}
use mathlib.Core.Bool.{true, false}
use Rattle.regs.specs.Program.{Behaviour}
use Rattle.regs.specs.declared.answers.Answer.{Answer}
use Rattle.regs.specs.declared.answers.Answer.TheVariants.{Accepted}
use Rattle.regs.specs.Legality.{LegalCall, DisabledCall, NoTxNotEmpty}
use Rattle.regs.proofs.Proper.{ProperAnswer}
use Rattle.regs.proofs.Legal.{LegalB, writes_legal, reads_legal, LegalWith, legal, legal_call, disabled_call, proper_call}
use Rattle.clock_setting.specs.SetConfig.{set_config, set_registers}

-- the counts are written while the block is disabled, by the write of 0 before them
registers_legal : (h l d n : ℕ) (k : Answer → Behaviour (Unit {0}) Answer)
    → ((a : Answer) → ProperAnswer a → LegalB false (k a))
    → LegalB true (set_registers h l d n k)
registers_legal h l d n k g =
    writes_legal tt (writes_legal tt (writes_legal tt (reads_legal tt (λ v. writes_legal tt (writes_legal tt (g Accepted tt))))))

set_config_legal : (frequency clk : ℕ) → LegalWith ProperAnswer (set_config frequency clk)
unfolding set_config
set_config_legal frequency clk = search (legal, registers_legal) depth 12

pub every_access_legal : (frequency clk : ℕ) → LegalCall (set_config frequency clk)
every_access_legal frequency clk = legal_call _ (set_config_legal frequency clk)

pub only_while_disabled : (frequency clk : ℕ) → DisabledCall (set_config frequency clk)
only_while_disabled frequency clk = disabled_call _ (set_config_legal frequency clk)

pub never_tx_not_empty : (frequency clk : ℕ) → NoTxNotEmpty (set_config frequency clk)
never_tx_not_empty frequency clk = proper_call _ (set_config_legal frequency clk)
