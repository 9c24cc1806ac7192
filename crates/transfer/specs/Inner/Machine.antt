-- A master transfer as a machine: the access at each point, where a reading leads, and what is stored with it.
use Rattle.std.specs.Prelude.{Option, None, Some, Result, Ok, Err}
use Rattle.std.specs.Prelude.{ℕ, ◌+◌, ◌-◌, ◌%◌, ◌^◌, min, Bool, true, false, ◌&&◌, ◌||◌, ltb, List, length, ◌==◌, nat_lt, slice_index, if◌then◌else◌}
use Rattle.regs.specs.Registers.{TAR, DATA_CMD, INTR_MASK, RAW_INTR_STAT, RX_TL, TX_TL, CLR_TX_ABRT, CLR_STOP_DET}
use Rattle.regs.specs.Registers.{ENABLE, TXFLR, RXFLR, TX_ABRT_SOURCE}
use Rattle.regs.specs.Fields.{command_word, dat, address_field, level, tx_empty, stop_det, set_m_rx_full}
use Rattle.regs.specs.Fields.{set_m_tx_empty, set_m_tx_abrt, set_m_stop_det}
use Rattle.regs.specs.Steps.{Machine}
use Rattle.regs.specs.declared.answers.AbortReason.{AbortReason}
use Rattle.regs.specs.declared.answers.Answer.TheVariants.{Accepted, Refused}
use Rattle.regs.specs.declared.answers.Refusal.{Refusal}
use Rattle.regs.specs.declared.answers.Refusal.TheVariants as X
use Rattle.regs.specs.declared.access.Next.{Next}
use Rattle.regs.specs.declared.access.Next.TheVariants as N
use Rattle.regs.specs.Store.{Store}
use Rattle.master.specs.Driver.{reason_of}
use Rattle.transfer.specs.Inner.Points.{transfer_at, with_point, Tried, is_failed}
use Rattle.transfer.specs.declared.Mode.{Mode}
use Rattle.transfer.specs.declared.Mode.TheVariants.{Blocking, Async}
use Rattle.transfer.specs.declared.Round.{Round}
use Rattle.transfer.specs.declared.SetupPoint.{SetupPoint}
use Rattle.transfer.specs.declared.SetupPoint.TheVariants.{Disable, Target, Enable}
use Rattle.transfer.specs.declared.AbortPoint.{AbortPoint}
use Rattle.transfer.specs.declared.AbortPoint.TheVariants as A
use Rattle.transfer.specs.declared.Caller.{Caller}
use Rattle.transfer.specs.declared.Caller.TheVariants as C
use Rattle.transfer.specs.declared.ReadPoint.{ReadPoint}
use Rattle.transfer.specs.declared.ReadPoint.TheVariants as R
use Rattle.transfer.specs.declared.WritePoint.{WritePoint}
use Rattle.transfer.specs.declared.WritePoint.TheVariants as W
use Rattle.transfer.specs.declared.RoundPoint.{RoundPoint}
use Rattle.transfer.specs.declared.RoundPoint.TheVariants as Q
use Rattle.transfer.specs.declared.FillPoint.{FillPoint}
use Rattle.transfer.specs.declared.FillPoint.TheVariants as F
use Rattle.transfer.specs.declared.Poll.{Poll}
use Rattle.transfer.specs.declared.Poll.TheVariants as O
use Rattle.transfer.specs.declared.WaitPoint.{WaitPoint}
use Rattle.transfer.specs.declared.WaitPoint.TheVariants as M
use Rattle.transfer.specs.declared.StopPoint.{StopPoint}
use Rattle.transfer.specs.declared.StopPoint.TheVariants as S
use Rattle.transfer.specs.declared.Point.{Point}
use Rattle.transfer.specs.declared.Point.TheVariants.{Setup, Abort, ReadBlocking, WriteBlocking, ReadAsync}
use Rattle.transfer.specs.declared.Point.TheVariants.{WriteAsync, Wait, Stop, Finished}
use Rattle.transfer.specs.declared.Transfer.{Transfer}

-- ---- the accesses

abbrev pub byte_at : List ℕ → ℕ → ℕ → ℕ
byte_at bytes at i = slice_index bytes (at + i)

unfoldable pub read_word : ℕ → ℕ → Bool → Bool → ℕ
read_word i len send_stop restart = command_word 0 true (send_stop && i == len - 1) (restart && i == 0)

unfoldable pub write_word : ℕ → ℕ → ℕ → Bool → ℕ
write_word byte i len send_stop = command_word byte false (send_stop && i == len - 1) false

unfoldable pub queue_word : ℕ → ℕ → Bool → Bool → ℕ
queue_word queue len send_stop restart = command_word 0 true (queue - 1 == 0 && send_stop) (restart && queue - 1 == len - 1)

unfoldable pub fill_word : ℕ → ℕ → ℕ → Bool → ℕ
fill_word byte i len send_stop = command_word byte false (i + 1 == len && send_stop) false

unfoldable pub next_setup : ℕ → SetupPoint → Next
next_setup address Disable = N.Write ENABLE 0
next_setup address Target = N.Write TAR (address_field address)
next_setup address Enable = N.Write ENABLE 1

unfoldable pub next_abort : AbortPoint → Next
next_abort A.Source = N.Read TX_ABRT_SOURCE
next_abort (A.Clear w) = N.Read CLR_TX_ABRT

unfoldable pub next_read : ℕ → Bool → Bool → ReadPoint → Next
next_read len send_stop restart (R.Room i) = N.Read TXFLR
next_read len send_stop restart (R.Ask i) = N.Write DATA_CMD (read_word i len send_stop restart)
next_read len send_stop restart (R.Level i) = N.Read RXFLR
next_read len send_stop restart (R.Take i) = N.Read DATA_CMD

unfoldable pub next_write : List ℕ → ℕ → ℕ → Bool → WritePoint → Next
next_write bytes at len send_stop (W.Send i) = N.Write DATA_CMD (write_word (byte_at bytes at i) i len send_stop)
next_write bytes at len send_stop (W.Empty i) = N.Read RAW_INTR_STAT
next_write bytes at len send_stop (W.StopDet r) = N.Read RAW_INTR_STAT

unfoldable pub next_round : ℕ → Bool → Bool → RoundPoint → Next
next_round len send_stop restart (Q.Capacity round) = N.Read TXFLR
next_round len send_stop restart (Q.Queue round words) = N.Write DATA_CMD (queue_word round.queue len send_stop restart)
next_round len send_stop restart (Q.Level round) = N.Read RXFLR
next_round len send_stop restart (Q.Fetch round left) = N.Read DATA_CMD

unfoldable pub next_fill : List ℕ → ℕ → ℕ → Bool → FillPoint → Next
next_fill bytes at len send_stop (F.Free i) = N.Read TXFLR
next_fill bytes at len send_stop (F.Fill i space) = N.Write DATA_CMD (fill_word (byte_at bytes at i) i len send_stop)
next_fill bytes at len send_stop (F.Full i) = N.Read TXFLR

unfoldable pub next_wait : WaitPoint → Next
next_wait (M.RxTl round) = N.Write RX_TL (round.batch - 1)
next_wait (M.TxTl i) = N.Write TX_TL 1
next_wait (M.Mask poll) = N.Read INTR_MASK
next_wait (M.SetMask poll w) = N.Write INTR_MASK w
next_wait (M.Pending poll) = N.Mark 0

unfoldable pub next_stop : StopPoint → Next
next_stop (S.Stat had) = N.Read RAW_INTR_STAT
next_stop (S.Clear r) = N.Read CLR_STOP_DET

unfoldable pub next_at : List ℕ → Transfer → Point → Next
next_at bytes t (Setup p) = next_setup t.address p
next_at bytes t (Abort p caller) = next_abort p
next_at bytes t (ReadBlocking p) = next_read t.operation.len t.operation.send_stop t.operation.restart p
next_at bytes t (WriteBlocking p) = next_write bytes t.operation.at t.operation.len t.operation.send_stop p
next_at bytes t (ReadAsync p) = next_round t.operation.len t.operation.send_stop t.operation.restart p
next_at bytes t (WriteAsync p) = next_fill bytes t.operation.at t.operation.len t.operation.send_stop p
next_at bytes t (Wait p) = next_wait p
next_at bytes t (Stop p) = next_stop p
next_at bytes t (Finished a) = N.Finished a

abbrev pub next_of : List ℕ → Transfer → Next
next_of bytes t = next_at bytes t t.point

-- ---- what is stored, by its place in a buffer; within the limits the sum never wraps
abbrev pub sum_of : ℕ → ℕ → ℕ
sum_of a n = (a + n) % 2 ^ 64

unfoldable pub store_read : ℕ → ReadPoint → ℕ → Store
store_read at (R.Room i) v = None
store_read at (R.Ask i) v = None
store_read at (R.Level i) v = None
store_read at (R.Take i) v = Some ((sum_of at i), (dat v))

-- the bytes of a round are stored from where the bytes that remain after it are counted back
unfoldable pub store_round : ℕ → ℕ → RoundPoint → ℕ → Store
store_round at len (Q.Capacity round) v = None
store_round at len (Q.Queue round words) v = None
store_round at len (Q.Level round) v = None
store_round at len (Q.Fetch round left) v = Some ((sum_of at (len - round.remaining - left)), (dat v))

unfoldable pub store_at : Transfer → Point → ℕ → Store
store_at t (Setup p) v = None
store_at t (Abort p caller) v = None
store_at t (ReadBlocking p) v = store_read t.operation.at p v
store_at t (WriteBlocking p) v = None
store_at t (ReadAsync p) v = store_round t.operation.at t.operation.len p v
store_at t (WriteAsync p) v = None
store_at t (Wait p) v = None
store_at t (Stop p) v = None
store_at t (Finished a) v = None

abbrev pub store_of : Transfer → ℕ → Store
store_of t v = store_at t t.point v

-- ---- where a reading leads

-- to a point, to the next operation, or to the end of the transfer by a refusal
abbrev pub StepTaken : Type 0
StepTaken = Result (Option Point) Refusal

abbrev pub go : Point → StepTaken
go p = Ok (Some p)

-- the operation is over
abbrev pub over : StepTaken
over = Ok None

-- an abort ends the transfer
abbrev pub fail : AbortReason → StepTaken
fail r = Err (X.Abort r)

-- `wait_stop_det`: an abort or a wanted STOP is waited for
unfoldable pub wait_stop : Bool → Tried → StepTaken
wait_stop send_stop had = if is_failed had || send_stop then go (Abort A.Source (C.Stop had)) else over

-- `r?` after STOP_DET is cleared
unfoldable pub try_step : Tried → StepTaken
try_step (Ok _) = over
try_step (Err r) = fail r

-- the transmit FIFO's free places; a level that it does not have is refused
unfoldable pub places : ℕ → Result ℕ Refusal
places n = if nat_lt 16 n then Err (X.TxLevelOutOfRange n) else Ok (16 - n)

abbrev pub capacity : ℕ → Result ℕ Refusal
capacity v = places (level v)

-- STOP rides on byte i
unfoldable pub closes : ℕ → Bool → ℕ → Bool
closes len send_stop i = send_stop && i == len - 1

-- after byte i: the next one at p, or the end of the operation
abbrev pub after_byte : ℕ → ℕ → Point → StepTaken
after_byte len i p = if nat_lt i len then (if ltb (i + 1) len then go p else over) else over

abbrev pub with_queue : Round → ℕ → Round
with_queue round q = record { remaining = round.remaining; queue = q; batch = round.batch }

abbrev pub with_batch : Round → ℕ → Round
with_batch round n = record { remaining = round.remaining; queue = round.queue; batch = n }

abbrev pub with_remaining : Round → ℕ → Round
with_remaining round n = record { remaining = n; queue = round.queue; batch = round.batch }

-- an async read: so many words are to be queued in this round
unfoldable pub queued : Round → ℕ → StepTaken
queued round words = if words == 0 then go (ReadAsync (Q.Level round)) else go (ReadAsync (Q.Queue round words))

-- a round is over
unfoldable pub next_turn : Bool → Round → StepTaken
next_turn send_stop round = if round.remaining == 0 then wait_stop send_stop (Ok tt) else go (ReadAsync (Q.Capacity round))

-- so many bytes are to be fetched
unfoldable pub fetching : Bool → Round → ℕ → StepTaken
fetching send_stop round left = if left == 0 then next_turn send_stop round else go (ReadAsync (Q.Fetch round left))

-- an async write: from byte i on, with so many free places
unfoldable pub filling : ℕ → Bool → ℕ → ℕ → StepTaken
filling len send_stop i space =
    if space == 0 then go (Abort A.Source (C.Space i))
    else (if ltb i len then go (WriteAsync (F.Fill i space)) else wait_stop send_stop (Ok tt))

unfoldable pub after_index : ℕ → ℕ → ℕ
after_index len i = if nat_lt i len then i + 1 else i

-- in the wait for STOP: a first abort wins
unfoldable pub stop_returned : Tried → Tried → StepTaken
stop_returned (Ok _) (Ok _) = go (Stop (S.Stat (Ok tt)))
stop_returned (Ok _) (Err r) = go (Stop (S.Clear (Err r)))
stop_returned (Err r) (Ok _) = go (Stop (S.Stat (Err r)))
stop_returned (Err r) (Err s) = go (Stop (S.Stat (Err r)))

-- `read_and_clear_abort_reason` returns to its caller
unfoldable pub returned : ℕ → Bool → Caller → Tried → StepTaken
returned len send_stop (C.Read i) (Ok _) = go (ReadBlocking (R.Level i))
returned len send_stop (C.Read i) (Err r) = fail r
returned len send_stop (C.Write i) (Ok _) =
    if closes len send_stop i then go (WriteBlocking (W.StopDet (Ok tt))) else after_byte len i (WriteBlocking (W.Send (i + 1)))
returned len send_stop (C.Write i) (Err r) = go (WriteBlocking (W.StopDet (Err r)))
returned len send_stop (C.Batch round rxfifo) (Ok _) =
    if nat_lt rxfifo round.batch then go (Wait (M.RxTl round))
    else fetching send_stop (with_remaining round (round.remaining - min rxfifo round.remaining)) (min rxfifo round.remaining)
returned len send_stop (C.Batch round rxfifo) (Err r) = wait_stop send_stop (Err r)
returned len send_stop (C.Space i) (Ok _) = go (WriteAsync (F.Full i))
returned len send_stop (C.Space i) (Err r) = wait_stop send_stop (Err r)
returned len send_stop (C.Stop had) abort = stop_returned had abort

unfoldable pub step_setup : SetupPoint → StepTaken
step_setup Disable = go (Setup Target)
step_setup Target = go (Setup Enable)
step_setup Enable = over

unfoldable pub step_abort : ℕ → Bool → Caller → AbortPoint → ℕ → StepTaken
step_abort len send_stop caller A.Source v = if v == 0 then returned len send_stop caller (Ok tt) else go (Abort (A.Clear v) caller)
step_abort len send_stop caller (A.Clear w) v = returned len send_stop caller (Err (reason_of w))

unfoldable pub room_step : ℕ → Result ℕ Refusal → StepTaken
room_step i (Err r) = Err r
room_step i (Ok n) = if n == 0 then go (ReadBlocking (R.Room i)) else go (ReadBlocking (R.Ask i))

unfoldable pub level_step : ℕ → ℕ → StepTaken
level_step i n = if n == 0 then go (Abort A.Source (C.Read i)) else go (ReadBlocking (R.Take i))

unfoldable pub step_read : ℕ → ReadPoint → ℕ → StepTaken
step_read len (R.Room i) v = room_step i (capacity v)
step_read len (R.Ask i) v = go (ReadBlocking (R.Level i))
step_read len (R.Level i) v = level_step i (level v)
step_read len (R.Take i) v = after_byte len i (ReadBlocking (R.Room (i + 1)))

unfoldable pub step_write : WritePoint → ℕ → StepTaken
step_write (W.Send i) v = go (WriteBlocking (W.Empty i))
step_write (W.Empty i) v = if tx_empty v then go (Abort A.Source (C.Write i)) else go (WriteBlocking (W.Empty i))
step_write (W.StopDet r) v = if stop_det v then go (Stop (S.Clear r)) else go (WriteBlocking (W.StopDet r))

unfoldable pub batch_step : Round → Result ℕ Refusal → StepTaken
batch_step round (Err r) = Err r
batch_step round (Ok n) = queued (with_batch round (min round.queue n)) (min round.queue n)

unfoldable pub step_round : Bool → RoundPoint → ℕ → StepTaken
step_round send_stop (Q.Capacity round) v = batch_step round (capacity v)
step_round send_stop (Q.Queue round words) v = queued (with_queue round (round.queue - 1)) (words - 1)
step_round send_stop (Q.Level round) v = go (Abort A.Source (C.Batch round (level v)))
step_round send_stop (Q.Fetch round left) v = fetching send_stop round (left - 1)

unfoldable pub free_step : ℕ → Bool → ℕ → Result ℕ Refusal → StepTaken
free_step len send_stop i (Err r) = Err r
free_step len send_stop i (Ok n) = filling len send_stop i n

unfoldable pub full_step : ℕ → Result ℕ Refusal → StepTaken
full_step i (Err r) = Err r
full_step i (Ok n) = if n == 0 then go (Wait (M.TxTl i)) else go (WriteAsync (F.Free i))

unfoldable pub step_fill : ℕ → Bool → FillPoint → ℕ → StepTaken
step_fill len send_stop (F.Free i) v = free_step len send_stop i (capacity v)
step_fill len send_stop (F.Fill i space) v = filling len send_stop (after_index len i) (space - 1)
step_fill len send_stop (F.Full i) v = full_step i (capacity v)

-- the interrupts that a wait sets
unfoldable pub mask_for : Poll → ℕ → ℕ
mask_for (O.Batch round) w = set_m_tx_abrt (set_m_rx_full w)
mask_for (O.Space i) w = set_m_tx_abrt (set_m_tx_empty w)
mask_for (O.Stop had) w = set_m_tx_abrt (set_m_stop_det w)

-- the first access of a poll
unfoldable pub poll_point : Poll → Point
poll_point (O.Batch round) = ReadAsync (Q.Level round)
poll_point (O.Space i) = Abort A.Source (C.Space i)
poll_point (O.Stop had) = Abort A.Source (C.Stop had)

unfoldable pub step_wait : WaitPoint → ℕ → StepTaken
step_wait (M.RxTl round) v = go (Wait (M.Mask (O.Batch round)))
step_wait (M.TxTl i) v = go (Wait (M.Mask (O.Space i)))
step_wait (M.Mask poll) v = go (Wait (M.SetMask poll (mask_for poll v)))
step_wait (M.SetMask poll w) v = go (Wait (M.Pending poll))
step_wait (M.Pending poll) v = go (poll_point poll)

unfoldable pub step_stop : StopPoint → ℕ → StepTaken
step_stop (S.Stat had) v = if stop_det v then go (Stop (S.Clear had)) else go (Wait (M.Mask (O.Stop had)))
step_stop (S.Clear r) v = try_step r

unfoldable pub step_of : ℕ → Bool → Point → ℕ → StepTaken
step_of len send_stop (Setup p) v = step_setup p
step_of len send_stop (Abort p caller) v = step_abort len send_stop caller p v
step_of len send_stop (ReadBlocking p) v = step_read len p v
step_of len send_stop (WriteBlocking p) v = step_write p v
step_of len send_stop (ReadAsync p) v = step_round send_stop p v
step_of len send_stop (WriteAsync p) v = step_fill len send_stop p v
step_of len send_stop (Wait p) v = step_wait p v
step_of len send_stop (Stop p) v = step_stop p v
step_of len send_stop (Finished a) v = go (Finished a)

-- ---- operations. `coded`, that a packet error code goes with the transfer, changes how one is opened, and nothing else:
-- an empty write is refused in both modes, and the last operation, where it has data, is one byte longer.

unfoldable pub write_point : Bool → Mode → ℕ → Point
write_point coded Blocking len = if len == 0 then Finished (Refused X.InvalidWriteBufferLength) else WriteBlocking (W.Send 0)
write_point coded Async len = if coded && len == 0 then Finished (Refused X.InvalidWriteBufferLength) else WriteAsync (F.Free 0)

unfoldable pub some_read : Mode → ℕ → Point
some_read Blocking len = ReadBlocking (R.Room 0)
some_read Async len = ReadAsync (Q.Capacity (record { remaining = len; queue = len; batch = 0 }))

unfoldable pub read_point : Mode → ℕ → Point
read_point mode len = if len == 0 then Finished (Refused X.InvalidReadBufferLength) else some_read mode len

-- the transfer at its next operation, the n-th, of the kind and the length given; `last` where none follows
unfoldable pub opened_write : Bool → Transfer → ℕ → ℕ → Bool → Transfer
opened_write coded t n len last =
    transfer_at (write_point coded t.mode len) t.mode t.operation.restart last t.address len t.writes n t.reads
    (sum_of t.writes len)

unfoldable pub opened_read : Transfer → ℕ → ℕ → Bool → Transfer
opened_read t n len last =
    transfer_at (read_point t.mode len) t.mode t.operation.restart last t.address len t.reads n
    (sum_of t.reads len) t.writes

unfoldable pub opened : Bool → Transfer → ℕ → ℕ → ℕ → Bool → Transfer
opened coded t n kind len last = if kind == 1 then opened_write coded t n len last else opened_read t n len last

-- a length with a byte more for the code: 0 and 65,535 stay; and that of an operation, the last or not
unfoldable pub longer_length : ℕ → ℕ
longer_length len = if len == 0 then len else (if ltb len 65535 then len + 1 else len)

unfoldable pub length_for : Bool → Bool → ℕ → ℕ
length_for coded last len = if coded && last then longer_length len else len

unfoldable pub begun : Bool → List ℕ → List ℕ → Transfer → Transfer
begun coded kinds lengths t =
    if nat_lt t.begun (length kinds)
    then opened coded t (t.begun + 1) (slice_index kinds t.begun)
    (length_for coded (t.begun + 1 == length kinds) (slice_index lengths t.begun)) (t.begun + 1 == length kinds)
    else with_point t (Finished Accepted)

abbrev pub moved_to : Bool → List ℕ → List ℕ → Transfer → StepTaken → Transfer
moved_to coded kinds lengths t (Ok (Some p)) = with_point t p
moved_to coded kinds lengths t (Ok None) = begun coded kinds lengths t
moved_to coded kinds lengths t (Err r) = with_point t (Finished (Refused r))

abbrev pub advance_of : Bool → List ℕ → List ℕ → Transfer → ℕ → Transfer
advance_of coded kinds lengths t v = moved_to coded kinds lengths t (step_of t.operation.len t.operation.send_stop t.point v)

-- a transfer before its first access
unfoldable pub tested_point : ℕ → Point
tested_point address = if nat_lt address 0x80 then Setup Disable else Finished (Refused (X.AddressOutOfRange address))

-- an async transfer of no operations makes no access at any address
unfoldable pub first_point : Mode → ℕ → Bool → Point
first_point Blocking address none = tested_point address
first_point Async address none = if none then Finished Accepted else tested_point address

abbrev pub started : Mode → Bool → ℕ → List ℕ → Transfer
started mode restart address kinds =
    transfer_at (first_point mode address (length kinds == 0)) mode restart false address 0 0 0 0 0

abbrev pub machine : Bool → List ℕ → List ℕ → List ℕ → Machine
machine coded kinds lengths bytes = record {
  S = Transfer;
  K = Unit {0};
  next = next_of bytes;
  advance = advance_of coded kinds lengths;
  store = store_of;
  state = λ t. tt;
}
