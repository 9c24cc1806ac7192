-- Laws that are proved of every call of clock, master and slave, whatever is lent to it, read by it and known to it
-- before: its accesses are legal; CON, TAR, SAR, the clock's counts and the hold count are written only while the block
-- is disabled (RP2040 datasheet, I2C chapter: IC_ENABLE bit 0 clear); and no refusal is TxNotEmpty.
use Rattle.std.specs.Prelude.{ℕ, Bool, false, not, ◌||◌, List, [], ◌∷◌, ◌≢◌, eqb, T, if◌then◌else◌}
use Rattle.regs.specs.declared.access.Entry.{Entry}
use Rattle.regs.specs.declared.access.Entry.TheVariants.{Read, Write, Marked}
use Rattle.regs.specs.declared.answers.AbortReason.TheVariants.{TxNotEmpty}
use Rattle.regs.specs.declared.answers.Refusal.TheVariants.{Abort}
use Rattle.regs.specs.declared.answers.Answer.{Answer}
use Rattle.regs.specs.declared.answers.Answer.TheVariants.{Refused}
use Rattle.regs.specs.declared.answers.Reply.TheVariants.{Answered}
use Rattle.regs.specs.Registers.{CON, TAR, SAR, FS_SCL_HCNT, FS_SCL_LCNT, ENABLE, SDA_HOLD, FS_SPKLEN}
use Rattle.regs.specs.Fields.{bit}
use Rattle.regs.specs.Program.{BLOCK_RESET, Program}
use Rattle.regs.specs.Log.{Legal, Each, expected}

-- every access that the call logs is one that the table of registers allows
abbrev pub LegalCall : {S : Type 0} → Program S Answer Answer → Type 0
LegalCall {S} p = (log readings buffer : List ℕ) (s : S) → Each Legal (expected p log readings buffer s).log

-- ---- the block is disabled

-- whether it is, after an entry: bit 0 of ENABLE says so, and a block reset clears that bit
abbrev pub disabled_after : Bool → Entry → Bool
disabled_after disabled (Read r v) = disabled
disabled_after disabled (Write r v) = if eqb r ENABLE then not (bit 0 v) else disabled
disabled_after disabled (Marked x) = eqb x BLOCK_RESET || disabled

-- the registers that are written only then
abbrev pub needs_disabled : ℕ → Bool
needs_disabled r =
    eqb r CON || (eqb r TAR || (eqb r SAR
    || (eqb r FS_SCL_HCNT || (eqb r FS_SCL_LCNT || (eqb r FS_SPKLEN || eqb r SDA_HOLD)))))

abbrev pub may_write : Bool → ℕ → Bool
may_write disabled r = disabled || not (needs_disabled r)

abbrev pub Allowed : Bool → Entry → Type 0
Allowed disabled (Read r v) = Unit {0}
Allowed disabled (Write r v) = T (may_write disabled r)
Allowed disabled (Marked x) = Unit {0}

abbrev pub WrittenDisabled : Bool → List Entry → Type 0
WrittenDisabled disabled [] = Unit {0}
WrittenDisabled disabled (e ∷ es) = Allowed disabled e × WrittenDisabled (disabled_after disabled e) es

-- Before the call the block may be enabled, so the log itself has to show that it was disabled: the last write to ENABLE
-- or block reset before such a write cleared its bit 0. The driver does not wait for the block to come to rest.
abbrev pub DisabledCall : {S : Type 0} → Program S Answer Answer → Type 0
DisabledCall {S} p = (log readings buffer : List ℕ) (s : S) → WrittenDisabled false (expected p log readings buffer s).log

-- ---- TxNotEmpty

-- a response answers LeftoverBytes for it, so that number 11 has the raw word as its detail (Answers.antt)
abbrev pub NoTxNotEmpty : {S : Type 0} → Program S Answer Answer → Type 0
NoTxNotEmpty {S} p = (log readings buffer : List ℕ) (s : S) (n : ℕ)
    → (expected p log readings buffer s).answer ≢ Answered (Refused (Abort (TxNotEmpty n)))
