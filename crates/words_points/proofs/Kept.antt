-- Numbers lose nothing of a point with more to do: read back, they are the point.
use mathlib.Core.Path.{◌≡◌, refl, ap}
use mathlib.Core.Bool.{false}
use mathlib.Core.Logic.{◌⊎◌, inl, inr}
use lib.Dec.{ltb}
use Rattle.regs.specs.declared.answers.AbortReason.TheVariants as E
use Rattle.regs.specs.declared.answers.Answer.{Answer}
use Rattle.transfer.specs.Inner.Points.{Tried}
use Rattle.std.specs.Prelude.{Ok, Err}
use Rattle.transfer.specs.declared.SetupPoint.TheVariants.{Disable, Target, Enable}
use Rattle.transfer.specs.declared.AbortPoint.TheVariants as A
use Rattle.transfer.specs.declared.Caller.{Caller}
use Rattle.transfer.specs.declared.Caller.TheVariants as C
use Rattle.transfer.specs.declared.ReadPoint.TheVariants as R
use Rattle.transfer.specs.declared.WritePoint.TheVariants as W
use Rattle.transfer.specs.declared.RoundPoint.TheVariants as Q
use Rattle.transfer.specs.declared.FillPoint.TheVariants as F
use Rattle.transfer.specs.declared.Poll.{Poll}
use Rattle.transfer.specs.declared.Poll.TheVariants as O
use Rattle.transfer.specs.declared.WaitPoint.TheVariants as M
use Rattle.transfer.specs.declared.StopPoint.TheVariants as S
use Rattle.transfer.specs.declared.Point.{Point}
use Rattle.transfer.specs.declared.Point.TheVariants.{Setup, Abort, ReadBlocking, WriteBlocking, ReadAsync}
use Rattle.transfer.specs.declared.Point.TheVariants.{WriteAsync, Wait, Stop, Finished}
use Rattle.transfer.specs.declared.Transfer.{Transfer}
use Rattle.words_points.specs.Held.{Live, held_in}
use Rattle.words_points.specs.Inner.Numbers.{failure, reason_row, tried_row, indexed, rounded, ending, caller_row}
use Rattle.words_points.specs.Inner.Numbers.{poll_row, place_row, setup_row, abort_row, read_row, write_row}
use Rattle.words_points.specs.Inner.Numbers.{queue_row, fill_row, wait_row, stop_row, answer_row, place_of}
use Rattle.words_points.specs.Inner.Numbers.{reason_at, tried_at, round_at, caller_at, poll_at, setup_at, abort_at}
use Rattle.words_points.specs.Inner.Numbers.{read_at, write_at, queue_at, fill_at, wait_at, stop_at, point_at}

tried_kept : (t : Tried) → tried_at (tried_row t) ≡ t
unfolding tried_at tried_row reason_at reason_row failure
tried_kept (Ok _) = refl
tried_kept (Err E.NoAcknowledge) = refl
tried_kept (Err E.ArbitrationLoss) = refl
tried_kept (Err (E.TxNotEmpty n)) = refl
tried_kept (Err (E.Other w)) = refl
tried_kept (Err (E.DataNotAcknowledged w)) = refl

caller_kept : (c : Caller) → caller_at (caller_row c) ≡ c
unfolding caller_at caller_row indexed rounded ending round_at
caller_kept (C.Read i) = refl
caller_kept (C.Write i) = refl
caller_kept (C.Batch round n) = refl
caller_kept (C.Space i) = refl
caller_kept (C.Stop t) = ap C.Stop (tried_kept t)

poll_kept : (p : Poll) → poll_at (poll_row p) ≡ p
unfolding poll_at poll_row indexed rounded ending round_at
poll_kept (O.Batch round) = refl
poll_kept (O.Space i) = refl
poll_kept (O.Stop t) = ap O.Stop (tried_kept t)

-- a point whose numbers say that there is more to do, and read back as the point
abbrev pub Going : Point → Type 0
Going p = (ltb 7 (place_of p).group ≡ false) × (point_at (place_of p) ≡ p) × ((t : Transfer) → held_in t p ≡ Live t)

pub record Ended (p : Point) : Type 0 where
  pub answer : Answer
  pub is : p ≡ Finished answer

pub point_kept : (p : Point) → Going p ⊎ Ended p
unfolding held_in point_at place_of place_row setup_row setup_at abort_row abort_at read_row read_at write_row
    write_at queue_row queue_at fill_row fill_at wait_row wait_at stop_row stop_at answer_row indexed rounded ending
    round_at
point_kept (Setup Disable) = inl (refl, refl, λ t. refl)
point_kept (Setup Target) = inl (refl, refl, λ t. refl)
point_kept (Setup Enable) = inl (refl, refl, λ t. refl)
point_kept (Abort A.Source c) = inl (refl, ap (Abort A.Source) (caller_kept c), λ t. refl)
point_kept (Abort (A.Clear w) c) = inl (refl, ap (Abort (A.Clear w)) (caller_kept c), λ t. refl)
point_kept (ReadBlocking (R.Room i)) = inl (refl, refl, λ t. refl)
point_kept (ReadBlocking (R.Ask i)) = inl (refl, refl, λ t. refl)
point_kept (ReadBlocking (R.Level i)) = inl (refl, refl, λ t. refl)
point_kept (ReadBlocking (R.Take i)) = inl (refl, refl, λ t. refl)
point_kept (WriteBlocking (W.Send i)) = inl (refl, refl, λ t. refl)
point_kept (WriteBlocking (W.Empty i)) = inl (refl, refl, λ t. refl)
point_kept (WriteBlocking (W.StopDet t)) = inl (refl, ap (λ t. WriteBlocking (W.StopDet t)) (tried_kept t), λ t. refl)
point_kept (ReadAsync (Q.Capacity round)) = inl (refl, refl, λ t. refl)
point_kept (ReadAsync (Q.Queue round n)) = inl (refl, refl, λ t. refl)
point_kept (ReadAsync (Q.Level round)) = inl (refl, refl, λ t. refl)
point_kept (ReadAsync (Q.Fetch round n)) = inl (refl, refl, λ t. refl)
point_kept (WriteAsync (F.Free i)) = inl (refl, refl, λ t. refl)
point_kept (WriteAsync (F.Fill i n)) = inl (refl, refl, λ t. refl)
point_kept (WriteAsync (F.Full i)) = inl (refl, refl, λ t. refl)
point_kept (Wait (M.RxTl round)) = inl (refl, refl, λ t. refl)
point_kept (Wait (M.TxTl i)) = inl (refl, refl, λ t. refl)
point_kept (Wait (M.Mask poll)) = inl (refl, ap (λ p. Wait (M.Mask p)) (poll_kept poll), λ t. refl)
point_kept (Wait (M.SetMask poll w)) = inl (refl, ap (λ p. Wait (M.SetMask p w)) (poll_kept poll), λ t. refl)
point_kept (Wait (M.Pending poll)) = inl (refl, ap (λ p. Wait (M.Pending p)) (poll_kept poll), λ t. refl)
point_kept (Stop (S.Stat t)) = inl (refl, ap (λ t. Stop (S.Stat t)) (tried_kept t), λ t. refl)
point_kept (Stop (S.Clear t)) = inl (refl, ap (λ t. Stop (S.Clear t)) (tried_kept t), λ t. refl)
point_kept (Finished a) = inr (record { answer = a; is = refl })
