-- This driver's reasons for an abort beside the Rust's: for which words they differ, and that nothing else of a call does.
use Rattle.std.specs.Prelude.{ℕ, Bool, true, false, not, ◌&&◌, List, [], ◌∷◌, ◌≡◌, eqb, if◌then◌else◌}
use Rattle.regs.specs.declared.access.Entry.{Entry}
use Rattle.regs.specs.declared.access.Entry.TheVariants.{Read, Write, Marked}
use Rattle.regs.specs.declared.answers.AbortReason.TheVariants.{ArbitrationLoss, Other, DataNotAcknowledged}
use Rattle.regs.specs.declared.answers.Refusal.TheVariants.{Abort}
use Rattle.regs.specs.declared.answers.Answer.{Answer}
use Rattle.regs.specs.declared.answers.Answer.TheVariants.{Refused}
use Rattle.regs.specs.declared.answers.Reply.{Reply}
use Rattle.regs.specs.declared.answers.Reply.TheVariants.{Answered, OutOfReadings, LogFull}
use Rattle.regs.specs.Answers.{answer_number}
use Rattle.regs.specs.Fields.{no_acknowledge, txdata_noack, arb_lost}
use Rattle.regs.specs.Left.{among}
use Rattle.regs.specs.Log.{expected}
use Rattle.regs.specs.Program.{Outcome}
use Rattle.regs.specs.Registers.{TX_ABRT_SOURCE}
use Rattle.master.specs.Driver.{Driver, Reasons, rust_reason, reason_of}
use Rattle.master.specs.Operations.{Mode, Transfer}
use Rattle.master.specs.Transfer.{transfer, within}
use Rattle.master.specs.Coded.{coded}
use Rattle.master.specs.Calls.{Call, program, within_limits, arguments, buffer_in}

-- ---- of a word

-- bit 3 is set and bits 0 to 2 are clear
abbrev pub data_refused : ℕ → Bool
data_refused w = txdata_noack w && not (no_acknowledge w)

-- those are the words for which the reasons differ: the Rust says ArbitrationLoss or Other. For every other word this
-- driver's reason is the Rust's.
pub record ReasonsOf (w : ℕ) : Type 0 where
  pub own : data_refused w ≡ true → reason_of w ≡ DataNotAcknowledged w
  pub rust : data_refused w ≡ true → rust_reason w ≡ (if arb_lost w then ArbitrationLoss else Other w)
  pub same : data_refused w ≡ false → reason_of w ≡ rust_reason w

abbrev pub ReasonsByWord : Type 0
ReasonsByWord = (w : ℕ) → ReasonsOf w

-- ---- of a call

-- the word that aborts a call: the first value other than 0 that its log reads from TX_ABRT_SOURCE; 0 if there is none
unfoldable pub aborted_by : List Entry → ℕ
aborted_by [] = 0
aborted_by (Read r v ∷ log) = if eqb r TX_ABRT_SOURCE && not (eqb v 0) then v else aborted_by log
aborted_by (Write r v ∷ log) = aborted_by log
aborted_by (Marked x ∷ log) = aborted_by log

-- the transfer of a call and the call, with these reasons; `program` of Calls.antt has this driver's
abbrev pub transfer_with : Reasons → Bool → Mode → ℕ → Transfer ℕ → Driver Answer
transfer_with reason false mode address t = transfer reason mode address t
transfer_with reason true mode address t = coded reason mode address t

abbrev pub program_with : Reasons → Call → Driver Answer
program_with reason c =
    within (within_limits c.lent) (transfer_with reason c.pec c.mode c.address (arguments c.lent))

abbrev pub OwnReasons : Type 0
OwnReasons = (c : Call) → program c ≡ program_with reason_of c

-- what a call leaves with these reasons; with the Rust's and without a packet error code, it is the Rust's call
abbrev pub left_with : Reasons → Call → List ℕ → List ℕ → Outcome (Unit {0}) Reply
left_with reason c log readings = expected (program_with reason c) log readings (buffer_in c.lent) tt

-- an answer under one of the numbers of an abort
abbrev pub is_abort : Answer → Bool
is_abort a = among (9 ∷ 10 ∷ 11 ∷ 23 ∷ []) (answer_number a)

-- Two replies that tell of the word w by f and by g: without an abort they are the same and none of its numbers; with
-- one they are its reason; or both calls were cut short alike, which can also be while STOP is waited for.
pub data ToldBy (f g : Reasons) (w : ℕ) : Reply → Reply → Type 0 where
  unaborted : {a : Answer} → w ≡ 0 → is_abort a ≡ false → ToldBy f g w (Answered a) (Answered a)
  aborted : eqb w 0 ≡ false → ToldBy f g w (Answered (Refused (Abort (f w)))) (Answered (Refused (Abort (g w))))
  cut_dry : ToldBy f g w OutOfReadings OutOfReadings
  cut_full : ToldBy f g w LogFull LogFull

-- The accesses and the buffer are the same, and so is the answer but for the reason, which is that of the first word.
pub record SameBut (f g : Reasons) (o p : Outcome (Unit {0}) Reply) : Type 0 where
  pub log : o.log ≡ p.log
  pub buffer : o.buffer ≡ p.buffer
  pub answer : ToldBy f g (aborted_by o.log) o.answer p.answer

-- of every call, plain or with a packet error code, for any two ways to tell a reason
abbrev pub SameButReasons : Type 0
SameButReasons = (f g : Reasons) (c : Call) (log readings : List ℕ)
    → SameBut f g (left_with f c log readings) (left_with g c log readings)

-- So, beside the same call with the Rust's reasons: where the word that aborts it is one of those above, the answer is 23
-- with the word, or both were cut short; everywhere else it leaves what that call leaves.
pub record BesideRust (here rust : Outcome (Unit {0}) Reply) : Type 0 where
  pub log : here.log ≡ rust.log
  pub buffer : here.buffer ≡ rust.buffer
  pub same : data_refused (aborted_by here.log) ≡ false → here.answer ≡ rust.answer
  pub differs : data_refused (aborted_by here.log) ≡ true
      → ToldBy DataNotAcknowledged rust_reason (aborted_by here.log) here.answer rust.answer

abbrev pub BesideRustCalls : Type 0
BesideRustCalls = (c : Call) (log readings : List ℕ)
    → BesideRust (expected (program c) log readings (buffer_in c.lent) tt) (left_with rust_reason c log readings)
