-- The number and detail of each answer (docs/MANUAL.md, "The numbers").
use Rattle.std.specs.Prelude.{ℕ, ◌+◌, ◌*◌, ◌^◌}
use Rattle.regs.specs.declared.answers.AbortReason.{AbortReason}
use Rattle.regs.specs.declared.answers.AbortReason.TheVariants.{NoAcknowledge, ArbitrationLoss, TxNotEmpty}
use Rattle.regs.specs.declared.answers.AbortReason.TheVariants.{Other, DataNotAcknowledged}
use Rattle.regs.specs.declared.answers.Command.{Command}
use Rattle.regs.specs.declared.answers.Command.TheVariants.{GeneralCall, Read, WriteRead, Write}
use Rattle.regs.specs.declared.answers.ReadStatus.{ReadStatus}
use Rattle.regs.specs.declared.answers.ReadStatus.TheVariants.{Done, NeedMoreBytes, LeftoverBytes}
use Rattle.regs.specs.declared.answers.Refusal.{Refusal}
use Rattle.regs.specs.declared.answers.Refusal.TheVariants.{FrequencyTooHigh, FrequencyZero}
use Rattle.regs.specs.declared.answers.Refusal.TheVariants.{ClockOutOfRange, ClockTooFast, ClockTooSlow}
use Rattle.regs.specs.declared.answers.Refusal.TheVariants.{AddressOutOfRange, InvalidReadBufferLength}
use Rattle.regs.specs.declared.answers.Refusal.TheVariants.{InvalidWriteBufferLength, Abort}
use Rattle.regs.specs.declared.answers.Refusal.TheVariants.{TxLevelOutOfRange, InvalidResponseBufferLength}
use Rattle.regs.specs.declared.answers.Refusal.TheVariants.{PartialWrite, PartialGeneralCall}
use Rattle.regs.specs.declared.answers.Refusal.TheVariants.{SlaveAddressZero, NoPlaceForPending, OverLimits, WrongPacketErrorCode}
use Rattle.regs.specs.declared.answers.Answer.{Answer}
use Rattle.regs.specs.declared.answers.Answer.TheVariants.{Accepted, Heard, Responded, Refused}
use Rattle.regs.specs.declared.answers.Reply.{Reply}
use Rattle.regs.specs.declared.answers.Reply.TheVariants.{Answered, OutOfReadings, LogFull}

-- TxNotEmpty is a response's LeftoverBytes, and no call answers it as a refusal (`NoTxNotEmpty` of Legality.antt)
abbrev pub abort_number : AbortReason → ℕ
abort_number NoAcknowledge = 9
abort_number ArbitrationLoss = 10
abort_number (TxNotEmpty n) = 11
abort_number (Other w) = 11
abort_number (DataNotAcknowledged w) = 23

abbrev pub refusal_number : Refusal → ℕ
refusal_number FrequencyTooHigh = 1
refusal_number FrequencyZero = 2
refusal_number ClockOutOfRange = 3
refusal_number ClockTooFast = 4
refusal_number ClockTooSlow = 5
refusal_number (AddressOutOfRange a) = 6
refusal_number InvalidReadBufferLength = 7
refusal_number InvalidWriteBufferLength = 8
refusal_number (Abort reason) = abort_number reason
refusal_number (TxLevelOutOfRange level) = 12
refusal_number InvalidResponseBufferLength = 13
refusal_number (PartialWrite n) = 14
refusal_number (PartialGeneralCall n) = 15
refusal_number SlaveAddressZero = 16
refusal_number NoPlaceForPending = 17
refusal_number OverLimits = 20
refusal_number WrongPacketErrorCode = 22

abbrev pub answer_number : Answer → ℕ
answer_number Accepted = 0
answer_number (Heard command) = 0
answer_number (Responded status) = 0
answer_number (Refused refusal) = refusal_number refusal

abbrev pub number : Reply → ℕ
number (Answered answer) = answer_number answer
number OutOfReadings = 18
number LogFull = 19

-- a kind in 4 digits, then a count in 4
abbrev pub counted : ℕ → ℕ → ℕ
counted kind n = kind * 2 ^ 16 + n

abbrev pub command_detail : Command → ℕ
command_detail (GeneralCall n) = counted 1 n
command_detail Read = counted 2 0
command_detail (WriteRead n) = counted 3 n
command_detail (Write n) = counted 4 n

abbrev pub status_detail : ReadStatus → ℕ
status_detail Done = counted 1 0
status_detail NeedMoreBytes = counted 2 0
status_detail (LeftoverBytes n) = counted 3 n

abbrev pub abort_detail : AbortReason → ℕ
abort_detail NoAcknowledge = 0
abort_detail ArbitrationLoss = 0
abort_detail (TxNotEmpty n) = n
abort_detail (Other w) = w
abort_detail (DataNotAcknowledged w) = w

abbrev pub refusal_detail : Refusal → ℕ
refusal_detail FrequencyTooHigh = 0
refusal_detail FrequencyZero = 0
refusal_detail ClockOutOfRange = 0
refusal_detail ClockTooFast = 0
refusal_detail ClockTooSlow = 0
refusal_detail (AddressOutOfRange a) = a
refusal_detail InvalidReadBufferLength = 0
refusal_detail InvalidWriteBufferLength = 0
refusal_detail (Abort reason) = abort_detail reason
refusal_detail (TxLevelOutOfRange level) = level
refusal_detail InvalidResponseBufferLength = 0
refusal_detail (PartialWrite n) = n
refusal_detail (PartialGeneralCall n) = n
refusal_detail SlaveAddressZero = 0
refusal_detail NoPlaceForPending = 0
refusal_detail OverLimits = 0
refusal_detail WrongPacketErrorCode = 0

abbrev pub answer_detail : Answer → ℕ
answer_detail Accepted = 0
answer_detail (Heard command) = command_detail command
answer_detail (Responded status) = status_detail status
answer_detail (Refused refusal) = refusal_detail refusal

abbrev pub detail : Reply → ℕ
detail (Answered answer) = answer_detail answer
detail OutOfReadings = 0
detail LogFull = 0
