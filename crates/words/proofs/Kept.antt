-- Words into which a transfer was put stand for it.
use Prim.Native.Nat.{ℕ, ◌<◌, ◌%◌, ◌^◌}
use native.Mathlib.Nat.{mod-eq_of_lt}
use mathlib.Core.Path.{◌≡◌, refl, sym, ap}
use mathlib.Core.Bool.{Bool, true, false}
use mathlib.Core.List.{List}
use mathlib.Core.Logic.{⊎_elim}
use lib.Dec.{eqb, ltb}
use lib.ListN.{get_or}
use Rattle.regs.specs.Answers.{number}
use Rattle.regs.specs.declared.answers.AbortReason.TheVariants as E
use Rattle.regs.specs.declared.answers.Answer.{Answer}
use Rattle.regs.specs.declared.answers.Answer.TheVariants.{Accepted, Heard, Responded, Refused}
use Rattle.regs.specs.declared.answers.Refusal.TheVariants as X
use Rattle.regs.specs.declared.answers.Reply.TheVariants.{Answered}
use Rattle.transfer.specs.declared.Mode.{Mode}
use Rattle.transfer.specs.declared.Mode.TheVariants.{Blocking, Async}
use Rattle.transfer.specs.declared.Transfer.{Transfer}
use Rattle.words_points.specs.declared.Place.{Place}
use Rattle.words_points.specs.Held.{held_in, held_of}
use Rattle.words_points.specs.Inner.Numbers.{place_row, answer_row, place_of}
use Rattle.words_points.proofs.Kept.{Going, Ended, point_kept}
use Rattle.words.specs.Inner.Words.{mode_at, form_of, flag_of, half_of, full_of, place_in, transfer_in, held_at}

number_kept : (a : Answer) → number (Answered a) % 2 ^ 8 ≡ number (Answered a)
number_kept Accepted = refl
number_kept (Heard c) = refl
number_kept (Responded r) = refl
number_kept (Refused X.FrequencyTooHigh) = refl
number_kept (Refused X.FrequencyZero) = refl
number_kept (Refused X.ClockOutOfRange) = refl
number_kept (Refused X.ClockTooFast) = refl
number_kept (Refused X.ClockTooSlow) = refl
number_kept (Refused (X.AddressOutOfRange a)) = refl
number_kept (Refused X.InvalidReadBufferLength) = refl
number_kept (Refused X.InvalidWriteBufferLength) = refl
number_kept (Refused (X.Abort E.NoAcknowledge)) = refl
number_kept (Refused (X.Abort E.ArbitrationLoss)) = refl
number_kept (Refused (X.Abort (E.TxNotEmpty n))) = refl
number_kept (Refused (X.Abort (E.Other w))) = refl
number_kept (Refused (X.Abort (E.DataNotAcknowledged w))) = refl
number_kept (Refused (X.TxLevelOutOfRange n)) = refl
number_kept (Refused X.InvalidResponseBufferLength) = refl
number_kept (Refused (X.PartialWrite n)) = refl
number_kept (Refused (X.PartialGeneralCall n)) = refl
number_kept (Refused X.SlaveAddressZero) = refl
number_kept (Refused X.NoPlaceForPending) = refl
number_kept (Refused X.OverLimits) = refl
number_kept (Refused X.WrongPacketErrorCode) = refl

mode_kept : (m : Mode) (b : Bool) → mode_at (eqb (form_of m b % 2) 1) ≡ m
unfolding mode_at form_of
mode_kept Blocking false = refl
mode_kept Blocking true = refl
mode_kept Async false = refl
mode_kept Async true = refl

restart_kept : (m : Mode) (b : Bool) → ltb 1 (form_of m b) ≡ b
unfolding form_of
restart_kept Blocking false = refl
restart_kept Blocking true = refl
restart_kept Async false = refl
restart_kept Async true = refl

pub half_kept : {r n : ℕ} → r ≡ n → n < 2 ^ 16 → half_of r ≡ n
half_kept e h = rw e (mod-eq_of_lt h)

pub full_kept : {r n : ℕ} → r ≡ n → n < 2 ^ 32 → full_of r ≡ n
full_kept e h = rw e (mod-eq_of_lt h)

-- words into which a transfer was put
pub record Written (t : Transfer) (s : List ℕ) : Type 0 where
  pub place : place_in s ≡ place_of t.point
  pub form : get_or s 12 0 ≡ form_of t.mode t.operation.restart
  pub stop : flag_of (get_or s 13 0) ≡ t.operation.send_stop
  pub address : half_of (get_or s 14 0) ≡ t.address
  pub len : half_of (get_or s 15 0) ≡ t.operation.len
  pub at : get_or s 16 0 ≡ t.operation.at
  pub begun : get_or s 17 0 ≡ t.begun
  pub reads : get_or s 18 0 ≡ t.reads
  pub writes : get_or s 19 0 ≡ t.writes

module _ (t : Transfer) (s : List ℕ) (w : Written t s) where
  group_is : get_or s 0 0 ≡ (place_of t.point).group
  unfolding place_in
  group_is = ap (λ (p : Place). p.group) w.place

  row_is : get_or s 1 0 ≡ (place_of t.point).row
  unfolding place_in
  row_is = ap (λ (p : Place). p.row) w.place

  word_is : full_of (get_or s 2 0) ≡ (place_of t.point).word
  unfolding place_in
  word_is = ap (λ (p : Place). p.word) w.place

  going : Going t.point → held_at s ≡ held_of t
  unfolding held_at transfer_in
  going g =
      simp (
        group_is,
        g.0,
        w.place,
        g.1,
        w.form,
        mode_kept,
        restart_kept,
        w.stop,
        w.address,
        w.len,
        w.at,
        w.begun,
        w.reads,
        w.writes,
      )
      (sym (g.2 t))

  over : Ended t.point → held_at s ≡ held_of t
  unfolding held_at held_in place_of answer_row place_row
  over e = simp (group_is, row_is, word_is, e.is, number_kept)

  pub held_written : held_at s ≡ held_of t
  held_written = ⊎_elim going over (point_kept t.point)
