-- The refusals in the order of docs/MANUAL.md, "The numbers", have the numbers of its rows: computed.
use Prim.Native.Nat.{ℕ}
use mathlib.Core.List.{[], ◌∷◌, map}
use mathlib.Core.Path.{◌≡◌, refl}
use Rattle.regs.specs.Answers.{refusal_number, number}
use Rattle.regs.specs.declared.answers.AbortReason.TheVariants.{NoAcknowledge, ArbitrationLoss, Other, DataNotAcknowledged}
use Rattle.regs.specs.declared.answers.Refusal.TheVariants.{FrequencyTooHigh, FrequencyZero, ClockOutOfRange, ClockTooFast}
use Rattle.regs.specs.declared.answers.Refusal.TheVariants.{ClockTooSlow, AddressOutOfRange, InvalidReadBufferLength}
use Rattle.regs.specs.declared.answers.Refusal.TheVariants.{InvalidWriteBufferLength, Abort, TxLevelOutOfRange}
use Rattle.regs.specs.declared.answers.Refusal.TheVariants.{InvalidResponseBufferLength, PartialWrite, PartialGeneralCall}
use Rattle.regs.specs.declared.answers.Refusal.TheVariants.{SlaveAddressZero, NoPlaceForPending, OverLimits, WrongPacketErrorCode}
use Rattle.regs.specs.declared.answers.Reply.TheVariants.{OutOfReadings, LogFull}

pub by_row : (address word level n : ℕ)
    → map refusal_number (FrequencyTooHigh ∷ FrequencyZero ∷ ClockOutOfRange ∷ ClockTooFast ∷ ClockTooSlow
    ∷ AddressOutOfRange address ∷ InvalidReadBufferLength ∷ InvalidWriteBufferLength ∷ Abort NoAcknowledge
    ∷ Abort ArbitrationLoss ∷ Abort (Other word) ∷ TxLevelOutOfRange level ∷ InvalidResponseBufferLength
    ∷ PartialWrite n ∷ PartialGeneralCall n ∷ SlaveAddressZero ∷ NoPlaceForPending ∷ OverLimits
    ∷ WrongPacketErrorCode ∷ Abort (DataNotAcknowledged word) ∷ [])
    ≡ 1 ∷ 2 ∷ 3 ∷ 4 ∷ 5 ∷ 6 ∷ 7 ∷ 8 ∷ 9 ∷ 10 ∷ 11 ∷ 12 ∷ 13 ∷ 14 ∷ 15 ∷ 16 ∷ 17 ∷ 20 ∷ 22 ∷ 23 ∷ []
by_row address word level n = refl

pub of_a_run : (number OutOfReadings ≡ 18) × (number LogFull ≡ 19)
of_a_run = (refl, refl)
