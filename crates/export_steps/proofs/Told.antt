-- With a packet error code: the access told of what is held is that of the machine with its running code, and so is the
-- code after it. The address of a transfer, which the code takes in, stays the same from step to step.
use Prim.Native.Nat.{ℕ, ◌+◌}
use native.Mathlib.Omega.{arith}
use mathlib.Core.Bool.{Bool, false}
use mathlib.Core.List.{List}
use mathlib.Core.Logic.{⊎_elim}
use mathlib.Core.Path.{◌≡◌, refl, ap, ◌∙◌}
use lib.Dec.{eqb, ltb}
use lib.ListN.{length, get_or}
use borrow.Author.Tests.{ne_eqb}
use Rattle.regs.specs.Answers.{refusal_number, command_detail, status_detail}
use Rattle.regs.specs.Inner.Summed.{changed_by, sum_after}
use Rattle.regs.specs.declared.access.Next.{Next}
use Rattle.regs.specs.declared.access.Next.TheVariants.{Read, Write, Mark, Finished}
use Rattle.regs.specs.declared.answers.AbortReason.TheVariants as B
use Rattle.regs.specs.declared.answers.Answer.TheVariants.{Accepted, Heard, Responded, Refused}
use Rattle.regs.specs.declared.answers.Command.{Command}
use Rattle.regs.specs.declared.answers.Command.TheVariants as C
use Rattle.regs.specs.declared.answers.ReadStatus.{ReadStatus}
use Rattle.regs.specs.declared.answers.ReadStatus.TheVariants as R
use Rattle.regs.specs.declared.answers.Refusal.{Refusal}
use Rattle.regs.specs.declared.answers.Refusal.TheVariants as X
use Rattle.regs.proofs.Tests.{by_test}
use Rattle.master.specs.Inner.Running.{Sum, running}
use Rattle.transfer.specs.Inner.Machine.{next_at, next_of, step_of, moved_to, advance_of}
use Rattle.transfer.specs.Inner.Machine.{begun, opened, opened_write, opened_read}
use Rattle.transfer.specs.Inner.Machine.{StepTaken}
use Rattle.std.specs.Prelude.{Some, None, Ok, Err}
use Rattle.transfer.specs.declared.Transfer.{Transfer}
use Rattle.words_points.specs.Held.{held_in, held_of}
use Rattle.words_points.proofs.Kept.{Going, Ended, point_kept}
use Rattle.words_code.specs.Inner.Code.{word_by, number_by}
use Rattle.export_steps.specs.Forms.{accepts}
use Rattle.export_steps.specs.Inner.Steps.{ended, access_of, access_held, told_by, sum_held}
use Rattle.export_steps.specs.Inner.Steps.{before_first, over_limits, first_of}
use Rattle.export_steps.specs.declared.Access.{Access}
use Rattle.export_steps.proofs.Driven.{same_access}

-- ---- number 0 without a detail is the answer of an accepted transfer, and of no other

refused_number : (why : Refusal) → eqb (refusal_number why) 0 ≡ false
refused_number X.FrequencyTooHigh = refl
refused_number X.FrequencyZero = refl
refused_number X.ClockOutOfRange = refl
refused_number X.ClockTooFast = refl
refused_number X.ClockTooSlow = refl
refused_number (X.AddressOutOfRange a) = refl
refused_number X.InvalidReadBufferLength = refl
refused_number X.InvalidWriteBufferLength = refl
refused_number (X.Abort B.NoAcknowledge) = refl
refused_number (X.Abort B.ArbitrationLoss) = refl
refused_number (X.Abort (B.TxNotEmpty n)) = refl
refused_number (X.Abort (B.Other w)) = refl
refused_number (X.Abort (B.DataNotAcknowledged w)) = refl
refused_number (X.TxLevelOutOfRange level) = refl
refused_number X.InvalidResponseBufferLength = refl
refused_number (X.PartialWrite n) = refl
refused_number (X.PartialGeneralCall n) = refl
refused_number X.SlaveAddressZero = refl
refused_number X.NoPlaceForPending = refl
refused_number X.OverLimits = refl
refused_number X.WrongPacketErrorCode = refl

heard_detail : (c : Command) → eqb (command_detail c) 0 ≡ false
heard_detail (C.GeneralCall n) = ne_eqb (65536 + n) 0 (λ e. omega (arith, e))
heard_detail C.Read = refl
heard_detail (C.WriteRead n) = ne_eqb (196608 + n) 0 (λ e. omega (arith, e))
heard_detail (C.Write n) = ne_eqb (262144 + n) 0 (λ e. omega (arith, e))

responded_detail : (r : ReadStatus) → eqb (status_detail r) 0 ≡ false
responded_detail R.Done = refl
responded_detail R.NeedMoreBytes = refl
responded_detail (R.LeftoverBytes n) = ne_eqb (196608 + n) 0 (λ e. omega (arith, e))

-- ---- the access

-- the end with its number, a write with its word, and what stays
module _ (s : Sum) (a : Access) where
  pub told_number : (n : ℕ) → a.kind ≡ 0 → n ≡ number_by s a.number a.value
      → record { kind = a.kind; register = a.register; number = n; value = a.value } ≡ told_by s a
  unfolding told_by
  told_number n k e = rw (k, e) refl

  pub told_word : (w : ℕ) → a.kind ≡ 2 → w ≡ word_by s a.register a.value
      → record { kind = a.kind; register = a.register; number = a.number; value = w } ≡ told_by s a
  unfolding told_by
  told_word w k e = rw (k, e) refl

  pub told_same : (a.kind ≡ 0 → ⊥) → (a.kind ≡ 2 → ⊥) → a ≡ told_by s a
  unfolding told_by
  told_same h k = rw (ne_eqb a.kind 0 h, ne_eqb a.kind 2 k) refl

module _ (address : ℕ) (s : Sum) where
  pub told_is : (n : Next) → told_by s (access_of n) ≡ access_of (changed_by (running address) s n)
  unfolding told_by access_of ended number_by word_by
  told_is (Read r) = refl
  told_is (Write r v) = refl
  told_is (Mark x) = refl
  told_is (Finished Accepted) = by_test (eqb s.crc 0) (λ q. rw q) (λ q. rw q)
  told_is (Finished (Heard c)) = rw (heard_detail c)
  told_is (Finished (Responded r)) = rw (responded_detail r)
  told_is (Finished (Refused why)) = rw (refused_number why)

  pub same_told : (bytes : List ℕ) (t : Transfer)
      → told_by s (access_held bytes (held_of t)) ≡ access_of (changed_by (running address) s (next_of bytes t))
  same_told bytes t = ap (told_by s) (same_access bytes t) ∙ told_is (next_of bytes t)

-- ---- the code after it

module _ (bytes : List ℕ) (s : Sum) (t : Transfer) (v : ℕ) where
  sum_going : Going t.point → sum_held bytes (held_of t) s v ≡ sum_after (running t.address) s (next_of bytes t) v
  unfolding sum_held
  sum_going g = rw (g.2 t) refl

  sum_ended : Ended t.point → sum_held bytes (held_of t) s v ≡ sum_after (running t.address) s (next_of bytes t) v
  unfolding sum_held held_in next_at
  sum_ended e = rw e.is refl

  pub same_sum : sum_held bytes (held_of t) s v ≡ sum_after (running t.address) s (next_of bytes t) v
  same_sum = ⊎_elim sum_going sum_ended (point_kept t.point)

-- ---- the address

module _ (coded : Bool) (kinds lengths : List ℕ) (t : Transfer) where
  opened_address : (n kind len : ℕ) (last : Bool) → (opened coded t n kind len last).address ≡ t.address
  unfolding opened opened_write opened_read
  opened_address n kind len last = by_test (eqb kind 1) (λ q. rw q) (λ q. rw q)

  moved_address : (step : StepTaken) → (moved_to coded kinds lengths t step).address ≡ t.address
  unfolding begun
  moved_address (Ok (Some p)) = refl
  moved_address (Err r) = refl
  moved_address (Ok None) =
      by_test (ltb t.begun (length kinds)) (λ q. rw q (opened_address (t.begun + 1) (get_or kinds t.begun 0) _ _)) (λ q. rw q)

  pub same_address : (v : ℕ) → (advance_of coded kinds lengths t v).address ≡ t.address
  same_address v = moved_address (step_of t.operation.len t.operation.send_stop t.point v)

pub first_address : (form address : ℕ) (kinds lengths : List ℕ) (written room : ℕ)
    → (first_of form address kinds lengths written room).address ≡ address
unfolding first_of before_first over_limits
first_address form address kinds lengths written room =
    by_test (accepts form kinds lengths written room) (λ q. rw q) (λ q. rw q)
