-- Answers, refusals and reasons other than TxNotEmpty, as they are handed on through results, polls and turns.
use Rattle.regs.specs.Program.{Result, ok, err, Turn, again, done, Poll, pending, ready}
use Rattle.regs.specs.declared.answers.AbortReason.{AbortReason}
use Rattle.regs.specs.declared.answers.AbortReason.TheVariants.{NoAcknowledge, ArbitrationLoss, TxNotEmpty}
use Rattle.regs.specs.declared.answers.AbortReason.TheVariants.{Other, DataNotAcknowledged}
use Rattle.regs.specs.declared.answers.Refusal.{Refusal}
use Rattle.regs.specs.declared.answers.Refusal.TheVariants.{FrequencyTooHigh, FrequencyZero, ClockOutOfRange, ClockTooFast}
use Rattle.regs.specs.declared.answers.Refusal.TheVariants.{ClockTooSlow, AddressOutOfRange, InvalidReadBufferLength}
use Rattle.regs.specs.declared.answers.Refusal.TheVariants.{InvalidWriteBufferLength, Abort, TxLevelOutOfRange}
use Rattle.regs.specs.declared.answers.Refusal.TheVariants.{InvalidResponseBufferLength, PartialWrite, PartialGeneralCall}
use Rattle.regs.specs.declared.answers.Refusal.TheVariants.{SlaveAddressZero, NoPlaceForPending, OverLimits, WrongPacketErrorCode}
use Rattle.regs.specs.declared.answers.Answer.{Answer}
use Rattle.regs.specs.declared.answers.Answer.TheVariants.{Accepted, Heard, Responded, Refused}
use Rattle.regs.specs.declared.answers.Reply.{Reply}
use Rattle.regs.specs.declared.answers.Reply.TheVariants.{Answered, OutOfReadings, LogFull}

abbrev pub ProperReason : AbortReason → Type 0
ProperReason NoAcknowledge = Unit {0}
ProperReason ArbitrationLoss = Unit {0}
ProperReason (TxNotEmpty n) = ⊥
ProperReason (Other w) = Unit {0}
ProperReason (DataNotAcknowledged w) = Unit {0}

abbrev pub ProperRefusal : Refusal → Type 0
ProperRefusal FrequencyTooHigh = Unit {0}
ProperRefusal FrequencyZero = Unit {0}
ProperRefusal ClockOutOfRange = Unit {0}
ProperRefusal ClockTooFast = Unit {0}
ProperRefusal ClockTooSlow = Unit {0}
ProperRefusal (AddressOutOfRange a) = Unit {0}
ProperRefusal InvalidReadBufferLength = Unit {0}
ProperRefusal InvalidWriteBufferLength = Unit {0}
ProperRefusal (Abort reason) = ProperReason reason
ProperRefusal (TxLevelOutOfRange level) = Unit {0}
ProperRefusal InvalidResponseBufferLength = Unit {0}
ProperRefusal (PartialWrite n) = Unit {0}
ProperRefusal (PartialGeneralCall n) = Unit {0}
ProperRefusal SlaveAddressZero = Unit {0}
ProperRefusal NoPlaceForPending = Unit {0}
ProperRefusal OverLimits = Unit {0}
ProperRefusal WrongPacketErrorCode = Unit {0}

abbrev pub ProperAnswer : Answer → Type 0
ProperAnswer Accepted = Unit {0}
ProperAnswer (Heard command) = Unit {0}
ProperAnswer (Responded status) = Unit {0}
ProperAnswer (Refused refusal) = ProperRefusal refusal

-- 18 and 19 are no answers of a driver
abbrev pub ProperReply : Reply → Type 0
ProperReply (Answered answer) = ProperAnswer answer
ProperReply OutOfReadings = Unit {0}
ProperReply LogFull = Unit {0}

-- `Result<B, Error>` of the master and of the slave
abbrev pub ProperTried : {B : Type 0} → Result B AbortReason → Type 0
ProperTried (ok b) = Unit {0}
ProperTried (err reason) = ProperReason reason

abbrev pub ProperResult : {B : Type 0} → Result B Refusal → Type 0
ProperResult (ok b) = Unit {0}
ProperResult (err refusal) = ProperRefusal refusal

-- what a poll that is ready, or a turn that is the last, hands on
abbrev pub InPoll : {X B : Type 0} → (B → Type 0) → Poll X B → Type 0
InPoll R (pending x) = Unit {0}
InPoll R (ready b) = R b

abbrev pub InTurn : {X B : Type 0} → (B → Type 0) → Turn X B → Type 0
InTurn R (again x) = Unit {0}
InTurn R (done b) = R b
