-- A point as numbers: which row of numbers each point has, and which point a row stands for.
use Rattle.std.specs.Prelude.{ℕ, eqb, if◌then◌else◌}
use Rattle.regs.specs.Answers.{number, detail}
use Rattle.regs.specs.declared.answers.AbortReason.{AbortReason}
use Rattle.regs.specs.declared.answers.AbortReason.TheVariants as E
use Rattle.regs.specs.declared.answers.Answer.{Answer}
use Rattle.regs.specs.declared.answers.Answer.TheVariants.{Accepted}
use Rattle.regs.specs.declared.answers.Reply.TheVariants.{Answered}
use Rattle.transfer.specs.Inner.Points.{Tried}
use Rattle.std.specs.Prelude.{Ok, Err}
use Rattle.transfer.specs.declared.Round.{Round}
use Rattle.transfer.specs.declared.SetupPoint.{SetupPoint}
use Rattle.transfer.specs.declared.SetupPoint.TheVariants.{Disable, Target, Enable}
use Rattle.transfer.specs.declared.AbortPoint.{AbortPoint}
use Rattle.transfer.specs.declared.AbortPoint.TheVariants as A
use Rattle.transfer.specs.declared.Caller.{Caller}
use Rattle.transfer.specs.declared.Caller.TheVariants as C
use Rattle.transfer.specs.declared.ReadPoint.{ReadPoint}
use Rattle.transfer.specs.declared.ReadPoint.TheVariants as R
use Rattle.transfer.specs.declared.WritePoint.{WritePoint}
use Rattle.transfer.specs.declared.WritePoint.TheVariants as W
use Rattle.transfer.specs.declared.RoundPoint.{RoundPoint}
use Rattle.transfer.specs.declared.RoundPoint.TheVariants as Q
use Rattle.transfer.specs.declared.FillPoint.{FillPoint}
use Rattle.transfer.specs.declared.FillPoint.TheVariants as F
use Rattle.transfer.specs.declared.Poll.{Poll}
use Rattle.transfer.specs.declared.Poll.TheVariants as O
use Rattle.transfer.specs.declared.WaitPoint.{WaitPoint}
use Rattle.transfer.specs.declared.WaitPoint.TheVariants as M
use Rattle.transfer.specs.declared.StopPoint.{StopPoint}
use Rattle.transfer.specs.declared.StopPoint.TheVariants as S
use Rattle.transfer.specs.declared.Point.{Point}
use Rattle.transfer.specs.declared.Point.TheVariants.{Setup, Abort, ReadBlocking, WriteBlocking, ReadAsync}
use Rattle.transfer.specs.declared.Point.TheVariants.{WriteAsync, Wait, Stop, Finished}
use Rattle.words_points.specs.declared.Failure.{Failure}
use Rattle.words_points.specs.declared.Who.{Who}
use Rattle.words_points.specs.declared.Place.{Place}

-- ---- points as numbers

unfoldable pub failure : ℕ → ℕ → ℕ → Failure
failure kind count word = record { kind = kind; count = count; word = word }

unfoldable pub reason_row : AbortReason → Failure
reason_row E.NoAcknowledge = failure 1 0 0
reason_row E.ArbitrationLoss = failure 2 0 0
reason_row (E.TxNotEmpty n) = failure 3 n 0
reason_row (E.Other w) = failure 4 0 w
reason_row (E.DataNotAcknowledged w) = failure 5 0 w

unfoldable pub tried_row : Tried → Failure
tried_row (Ok _) = failure 0 0 0
tried_row (Err r) = reason_row r

-- at a byte, with a count; in a round, with a count; at the end of an operation
unfoldable pub indexed : ℕ → ℕ → ℕ → Who
indexed kind i n = record { kind = kind; index = i; count = n; remaining = 0; queue = 0; batch = 0; failure = failure 0 0 0 }

unfoldable pub rounded : ℕ → Round → ℕ → Who
rounded kind round n = record {
  kind = kind;
  index = 0;
  count = n;
  remaining = round.remaining;
  queue = round.queue;
  batch = round.batch;
  failure = failure 0 0 0;
}

unfoldable pub ending : ℕ → Tried → Who
ending kind t = record { kind = kind; index = 0; count = 0; remaining = 0; queue = 0; batch = 0; failure = tried_row t }

unfoldable pub caller_row : Caller → Who
caller_row (C.Read i) = indexed 0 i 0
caller_row (C.Write i) = indexed 1 i 0
caller_row (C.Batch round n) = rounded 2 round n
caller_row (C.Space i) = indexed 3 i 0
caller_row (C.Stop t) = ending 4 t

unfoldable pub poll_row : Poll → Who
poll_row (O.Batch round) = rounded 2 round 0
poll_row (O.Space i) = indexed 3 i 0
poll_row (O.Stop t) = ending 4 t

unfoldable pub place_row : ℕ → ℕ → ℕ → Who → Place
place_row group row word who = record { group = group; row = row; word = word; who = who }

unfoldable pub setup_row : SetupPoint → Place
setup_row Disable = place_row 0 0 0 (indexed 0 0 0)
setup_row Target = place_row 0 1 0 (indexed 0 0 0)
setup_row Enable = place_row 0 2 0 (indexed 0 0 0)

unfoldable pub abort_row : Caller → AbortPoint → Place
abort_row c A.Source = place_row 1 0 0 (caller_row c)
abort_row c (A.Clear w) = place_row 1 1 w (caller_row c)

unfoldable pub read_row : ReadPoint → Place
read_row (R.Room i) = place_row 2 0 0 (indexed 0 i 0)
read_row (R.Ask i) = place_row 2 1 0 (indexed 0 i 0)
read_row (R.Level i) = place_row 2 2 0 (indexed 0 i 0)
read_row (R.Take i) = place_row 2 3 0 (indexed 0 i 0)

unfoldable pub write_row : WritePoint → Place
write_row (W.Send i) = place_row 3 0 0 (indexed 0 i 0)
write_row (W.Empty i) = place_row 3 1 0 (indexed 0 i 0)
write_row (W.StopDet t) = place_row 3 2 0 (ending 0 t)

unfoldable pub queue_row : RoundPoint → Place
queue_row (Q.Capacity round) = place_row 4 0 0 (rounded 0 round 0)
queue_row (Q.Queue round n) = place_row 4 1 0 (rounded 0 round n)
queue_row (Q.Level round) = place_row 4 2 0 (rounded 0 round 0)
queue_row (Q.Fetch round n) = place_row 4 3 0 (rounded 0 round n)

unfoldable pub fill_row : FillPoint → Place
fill_row (F.Free i) = place_row 5 0 0 (indexed 0 i 0)
fill_row (F.Fill i n) = place_row 5 1 0 (indexed 0 i n)
fill_row (F.Full i) = place_row 5 2 0 (indexed 0 i 0)

unfoldable pub wait_row : WaitPoint → Place
wait_row (M.RxTl round) = place_row 6 0 0 (rounded 0 round 0)
wait_row (M.TxTl i) = place_row 6 1 0 (indexed 0 i 0)
wait_row (M.Mask poll) = place_row 6 2 0 (poll_row poll)
wait_row (M.SetMask poll w) = place_row 6 3 w (poll_row poll)
wait_row (M.Pending poll) = place_row 6 4 0 (poll_row poll)

unfoldable pub stop_row : StopPoint → Place
stop_row (S.Stat t) = place_row 7 0 0 (ending 0 t)
stop_row (S.Clear t) = place_row 7 1 0 (ending 0 t)

-- the end keeps the answer's number and detail
unfoldable pub answer_row : Answer → Place
answer_row a = place_row 8 (number (Answered a)) (detail (Answered a)) (indexed 0 0 0)

unfoldable pub place_of : Point → Place
place_of (Setup p) = setup_row p
place_of (Abort p c) = abort_row c p
place_of (ReadBlocking p) = read_row p
place_of (WriteBlocking p) = write_row p
place_of (ReadAsync p) = queue_row p
place_of (WriteAsync p) = fill_row p
place_of (Wait p) = wait_row p
place_of (Stop p) = stop_row p
place_of (Finished a) = answer_row a

-- ---- numbers as points; what has no row is taken for the last one of its kind

unfoldable pub reason_at : Failure → AbortReason
reason_at f = if eqb f.kind 1 then E.NoAcknowledge else
    (if eqb f.kind 2 then E.ArbitrationLoss else
    (if eqb f.kind 3 then E.TxNotEmpty f.count else
    (if eqb f.kind 5 then E.DataNotAcknowledged f.word else E.Other f.word)))

unfoldable pub tried_at : Failure → Tried
tried_at f = if eqb f.kind 0 then Ok tt else Err (reason_at f)

unfoldable pub round_at : Who → Round
round_at w = record { remaining = w.remaining; queue = w.queue; batch = w.batch }

unfoldable pub caller_at : Who → Caller
caller_at w =
    if eqb w.kind 0 then C.Read w.index
    else (if eqb w.kind 1 then C.Write w.index
    else (if eqb w.kind 2 then C.Batch (round_at w) w.count else
    (if eqb w.kind 3 then C.Space w.index else C.Stop (tried_at w.failure))))

unfoldable pub poll_at : Who → Poll
poll_at w = if eqb w.kind 2 then O.Batch (round_at w) else
    (if eqb w.kind 3 then O.Space w.index else O.Stop (tried_at w.failure))

unfoldable pub setup_at : ℕ → SetupPoint
setup_at row = if eqb row 0 then Disable else (if eqb row 1 then Target else Enable)

unfoldable pub abort_at : ℕ → ℕ → AbortPoint
abort_at row word = if eqb row 0 then A.Source else A.Clear word

unfoldable pub read_at : ℕ → ℕ → ReadPoint
read_at row i = if eqb row 0 then R.Room i else (if eqb row 1 then R.Ask i else (if eqb row 2 then R.Level i else R.Take i))

unfoldable pub write_at : ℕ → Who → WritePoint
write_at row w = if eqb row 0 then W.Send w.index else (if eqb row 1 then W.Empty w.index else W.StopDet (tried_at w.failure))

unfoldable pub queue_at : ℕ → Who → RoundPoint
queue_at row w =
    if eqb row 0 then Q.Capacity (round_at w)
    else (if eqb row 1 then Q.Queue (round_at w) w.count else
    (if eqb row 2 then Q.Level (round_at w) else Q.Fetch (round_at w) w.count))

unfoldable pub fill_at : ℕ → ℕ → ℕ → FillPoint
fill_at row i n = if eqb row 0 then F.Free i else (if eqb row 1 then F.Fill i n else F.Full i)

unfoldable pub wait_at : ℕ → ℕ → Who → WaitPoint
wait_at row word w =
    if eqb row 0 then M.RxTl (round_at w)
    else (if eqb row 1 then M.TxTl w.index
    else (if eqb row 2 then M.Mask (poll_at w) else (if eqb row 3 then M.SetMask (poll_at w) word else M.Pending (poll_at w))))

unfoldable pub stop_at : ℕ → Failure → StopPoint
stop_at row f = if eqb row 0 then S.Stat (tried_at f) else S.Clear (tried_at f)

unfoldable pub point_at : Place → Point
point_at p =
    if eqb p.group 0 then Setup (setup_at p.row)
    else (if eqb p.group 1 then Abort (abort_at p.row p.word) (caller_at p.who)
    else (if eqb p.group 2 then ReadBlocking (read_at p.row p.who.index)
    else (if eqb p.group 3 then WriteBlocking (write_at p.row p.who)
    else (if eqb p.group 4 then ReadAsync (queue_at p.row p.who)
    else (if eqb p.group 5 then WriteAsync (fill_at p.row p.who.index p.who.count)
    else (if eqb p.group 6 then Wait (wait_at p.row p.word p.who)
    else (if eqb p.group 7 then Stop (stop_at p.row p.who.failure) else Finished Accepted)))))))
