-- Every access of every call is legal, TAR is written only while the block is disabled, and no refusal is TxNotEmpty:
-- found along each function (`legal`), blocking and async together.
use Prim.Native.Nat.{ℕ, zero, suc, ◌+◌, ◌-◌, min}
use lib.Dec.{eqb, ltb}
use borrow.Author.Tests.{eqb-true}
use mathlib.Core.Bool.{Bool, true, false, not, ◌||◌}
use mathlib.Core.List.{List, [], ◌∷◌}
use mathlib.Core.Path.{◌≡◌, refl}
use Rattle.regs.specs.Registers.{INTR_MASK, DATA_CMD}
use Rattle.regs.specs.Fields.{set_m_tx_abrt, set_m_stop_det}
use Rattle.regs.specs.Program.{modify, ok, err, done, pending, ready, ends}
use Rattle.std.specs.Prelude.{if◌then◌else◌}
use Rattle.regs.specs.declared.answers.AbortReason.{AbortReason}
use Rattle.regs.specs.declared.access.Entry.{Entry}
use Rattle.regs.specs.declared.access.Entry.TheVariants.{Write}
use Rattle.regs.specs.declared.answers.Answer.{Answer}
use Rattle.regs.specs.declared.answers.Answer.TheVariants.{Accepted, Heard, Responded, Refused}
use Rattle.regs.specs.Legality.{LegalCall, DisabledCall, NoTxNotEmpty, disabled_after}
use Rattle.regs.specs.Left.{bytes_read}
use Rattle.regs.proofs.Tests.{by_test}
use Rattle.regs.proofs.Proper.{ProperReason, ProperAnswer, ProperTried, InPoll, InTurn}
use Rattle.regs.proofs.Legal.{LegalB, LegalP, LegalWith, legal, reads_legal, if_program, when_legal, ends_legal, rounds_with}
use Rattle.regs.proofs.Legal.{wait_on_with, legal_call, legal_ends, disabled_ends, proper_ends}
use Rattle.regs.proofs.WatchedLegal.{watched_legal}
use Rattle.master.specs.Driver.{Driver, Tried, try, setup, tx_fifo_capacity, tx_fifo_full, rx_fifo_len}
use Rattle.master.specs.Driver.{reason_of, read_and_clear_abort_reason, while_turn, is_err}
use Rattle.master.specs.Blocking.{read_blocking_bytes, read_blocking_internal, write_blocking_bytes, write_blocking_internal}
use Rattle.master.specs.Async.{both, stop_poll, wait_stop_det, Counts, queue_batch, batch_come, batch_poll, fetch_bytes}
use Rattle.master.specs.Async.{take_batch, read_round, read_async_internal, Filled, break_xmit, full, fill, space_come}
use Rattle.master.specs.Async.{space_poll, go_on, wait_space, xmit, write_async_internal}
use Rattle.master.specs.Operations.{Operation, writes, reads, Transfer, read, write, write_read, transaction, Mode, blocking, async}
use Rattle.master.specs.Transfer.{read_internal, write_internal, each_operation, blocking_read}
use Rattle.master.specs.Transfer.{blocking_write, blocking_write_read, blocking_transaction, read_async}
use Rattle.master.specs.Transfer.{write_async, write_read_async, transaction_async, transfer}
use Rattle.master.specs.Operations.{operations_of}
use Rattle.master.specs.Coded.{tested, is_right, coder, each_coded, longer_transfer, with_code, restarts, coded}
use Rattle.master.specs.Calls.{Lent, reads_into, writes_from, writes_then_reads, transacts, Call, program_of, program}
use Rattle.master.specs.Calls.{within_limits, arguments, program_by}
use Rattle.master.proofs.Masks.{batch_masks, space_masks}

setup_legal : (address : ℕ) → LegalP (setup address)
unfolding setup
setup_legal address = search legal

capacity_legal : LegalP tx_fifo_capacity
unfolding tx_fifo_capacity
capacity_legal = search legal

full_legal : LegalP tx_fifo_full
unfolding tx_fifo_full
full_legal = search (legal, capacity_legal)

len_legal : LegalP rx_fifo_len
unfolding rx_fifo_len
len_legal = search legal

if_proper : (q : Bool) (a b : AbortReason) → ProperReason a → ProperReason b → ProperReason (if q then a else b)
if_proper true a b h k = h
if_proper false a b h k = k

reason_proper : (w : ℕ) → ProperReason (reason_of w)
reason_proper w = search if_proper

abort_legal : LegalWith ProperTried (read_and_clear_abort_reason reason_of)
unfolding read_and_clear_abort_reason
abort_legal = search (legal, reason_proper)

try_legal : {B : Type 0} (r : Tried B) → ProperTried r → LegalP (try r)
try_legal (ok b) c = search legal
try_legal (err reason) c = λ n k h. ends_legal c

while_turn_legal : (body : Driver (Unit {0})) → LegalP body → (more : Bool) → LegalP (while_turn body more)
while_turn_legal body h true = search legal
while_turn_legal body h false = search legal

ruleset parts = (legal, capacity_legal, full_legal, len_legal, abort_legal, try_legal, while_turn_legal)

-- blocking

bytes_read_legal : (offset lastindex : ℕ) (restart stop : Bool) (i left : ℕ)
    → LegalP (read_blocking_bytes reason_of offset lastindex restart stop i left)
unfolding read_blocking_bytes
bytes_read_legal offset lastindex restart stop i zero = search legal
bytes_read_legal offset lastindex restart stop i (suc left) =
    let ih = bytes_read_legal offset lastindex restart stop (i + 1) left in search parts depth 20

bytes_written_legal : (len : ℕ) (stop : Bool) (bs : List ℕ) (i : ℕ) → LegalP (write_blocking_bytes reason_of len stop i bs)
unfolding write_blocking_bytes
bytes_written_legal len stop [] i = search legal
bytes_written_legal len stop (b ∷ bs) i = let ih = bytes_written_legal len stop bs (i + 1) in search parts depth 20

-- async

stop_poll_legal : (had_abort : Tried (Unit {0})) → LegalWith (InPoll ProperTried) (stop_poll reason_of had_abort)
stop_poll_legal had_abort = search (legal, abort_legal) depth 20

both_proper : (a b : Tried (Unit {0})) → ProperTried a → ProperTried b → ProperTried (both a b)
both_proper (ok u) b c e = search
both_proper (err reason) b c e = c

stop_det_legal : (had_abort : Tried (Unit {0}))
    → ProperTried had_abort
    → (do_stop : Bool)
    → LegalWith ProperTried (wait_stop_det reason_of had_abort do_stop)
unfolding wait_stop_det
stop_det_legal had_abort c do_stop n k h =
    if_program _ _ _ n k (is_err had_abort || do_stop)
    (wait_on_with (Unit {0}) (Tried (Unit {0})) ProperTried tt (λ _. stop_poll reason_of had_abort)
    (modify INTR_MASK (λ w. set_m_tx_abrt (set_m_stop_det w))) (λ _. stop_poll_legal had_abort) (search legal) n _
    (λ abort e. reads_legal tt (λ v. h (both had_abort abort) (both_proper had_abort abort c e))))
    (h had_abort c)

batch_legal : (len : ℕ) (restart stop : Bool) (batch queue : ℕ) → LegalP (queue_batch len restart stop batch queue)
unfolding queue_batch
batch_legal len restart stop zero queue = search legal
batch_legal len restart stop (suc batch) queue = let ih = batch_legal len restart stop batch (queue - 1) in search legal

fetch_legal : (at rxbytes : ℕ) → LegalP (fetch_bytes at rxbytes)
unfolding fetch_bytes
fetch_legal at zero = search legal
fetch_legal at (suc rxbytes) = let ih = fetch_legal (at + 1) rxbytes in search legal

batch_proper : (batch rxfifo : ℕ) (abort : Tried (Unit {0})) → ProperTried abort → InPoll ProperTried (batch_come batch rxfifo abort)
batch_proper batch rxfifo (ok u) c = go (not (ltb rxfifo batch))
  where
    go : (q : Bool) → InPoll {X = Unit {0}} {B = Tried ℕ} ProperTried (if q then ready (ok rxfifo) else pending tt)
    go true = tt
    go false = tt
batch_proper batch rxfifo (err reason) c = c

batch_poll_legal : (batch : ℕ) → LegalWith (InPoll ProperTried) (batch_poll reason_of batch)
batch_poll_legal batch = search (legal, len_legal, abort_legal, batch_proper)

take_legal : (offset len remaining queue : ℕ) (res : Tried ℕ)
    → ProperTried res
    → LegalWith (InTurn ProperTried) (take_batch offset len remaining queue res)
take_legal offset len remaining queue (ok rxfifo) c = search (legal, fetch_legal)
take_legal offset len remaining queue (err reason) c = λ n k h. h (done (err reason)) c

round_legal : (offset len : ℕ) (restart stop : Bool) (counts : Counts)
    → LegalWith (InTurn ProperTried) (read_round reason_of offset len restart stop counts)
round_legal offset len restart stop counts n k h =
    if_program _ _ _ n k (not (ltb 0 counts.remaining)) (h (done (ok tt)) tt)
    (capacity_legal n _ (λ space. batch_legal len restart stop _ counts.remaining_queue n _ (λ _.
    wait_on_with (Unit {0}) (Tried ℕ) ProperTried tt
    (λ _. batch_poll reason_of (min counts.remaining_queue space)) (batch_masks (min counts.remaining_queue space))
    (λ _. batch_poll_legal _) (search legal) n _
    (λ res c. take_legal offset len counts.remaining _ res c n k h))))

fill_legal : (stop : Bool) (space : ℕ) (bs : List ℕ) → LegalP (fill stop space bs)
unfolding fill
fill_legal stop zero bs = search legal
fill_legal stop (suc space) [] = search legal
fill_legal stop (suc space) (b ∷ bs) = let ih = fill_legal stop space bs in search legal

come_legal : (abort : Tried (Unit {0})) → ProperTried abort → LegalWith (InPoll ProperTried) (space_come abort)
come_legal (ok u) c = search parts
come_legal (err reason) c = λ n k h. h (ready (err reason)) c

go_proper : (bytes : List ℕ) (res : Tried (Unit {0})) → ProperTried res → InTurn ProperTried (go_on bytes res)
go_proper bytes (ok u) c = tt
go_proper bytes (err reason) c = c

space_legal : (filled : Filled) → LegalWith (InTurn ProperTried) (wait_space reason_of filled)
space_legal break_xmit = search legal
space_legal (full bs) = λ n k h.
    wait_on_with (Unit {0}) (Tried (Unit {0})) ProperTried tt (λ _. (space_poll reason_of)) space_masks (λ _. search (abort_legal, come_legal))
    (search legal) n _ (λ res c. h (go_on bs res) (go_proper bs res c))

xmit_legal : (stop : Bool) (bs : List ℕ) → LegalWith (InTurn ProperTried) (xmit reason_of stop bs)
xmit_legal stop bs n k h = capacity_legal n _ (λ space. fill_legal stop space bs n _ (λ filled. space_legal filled n k h))

-- both modes together

read_legal : (mode : Mode) (offset len : ℕ) (restart stop : Bool) → LegalP (read_internal reason_of mode offset len restart stop)
unfolding read_blocking_internal read_async_internal
read_legal blocking offset len restart stop = search (legal, bytes_read_legal) depth 20
read_legal async offset len restart stop = λ n k h.
    when_legal _ n _ (eqb len 0) (ends_legal tt)
    (rounds_with Counts (Tried (Unit {0})) ProperTried n n (read_round reason_of offset len restart stop) _ _
    (round_legal offset len restart stop) (λ abort c.
    stop_det_legal abort c stop n _ (λ res d. try_legal res d n k h)))

write_legal : (mode : Mode) (bs : List ℕ) (stop : Bool) → LegalP (write_internal reason_of mode bs stop)
unfolding write_blocking_internal write_async_internal
write_legal blocking bs stop = search (legal, bytes_written_legal) depth 20
write_legal async bs stop = λ n k h.
    rounds_with (List ℕ) (Tried (Unit {0})) ProperTried n n (xmit reason_of stop) bs _ (xmit_legal stop) (λ abort c.
    stop_det_legal abort c stop n _ (λ res d. try_legal res d n k h))

operations_legal : (mode : Mode) (offset : ℕ) (os : List (Operation ℕ)) → LegalP (each_operation reason_of mode offset os)
unfolding each_operation
operations_legal mode offset [] = search legal
operations_legal mode offset (reads len ∷ os) = let ih = operations_legal mode (offset + len) os in search (legal, read_legal)
operations_legal mode offset (writes bs ∷ os) = let ih = operations_legal mode offset os in search (legal, write_legal)

transfer_legal : (mode : Mode) (address : ℕ) (x : Transfer ℕ) → LegalWith ProperAnswer (transfer reason_of mode address x)
unfolding blocking_read blocking_write blocking_write_read blocking_transaction read_async write_async write_read_async transaction_async
transfer_legal blocking address (read len) = let internal = read_legal blocking in search (legal, setup_legal)
transfer_legal blocking address (write bs) = let internal = write_legal blocking in search (legal, setup_legal)
transfer_legal blocking address (write_read bs len) =
    let first = write_legal blocking in let second = read_legal blocking in search (legal, setup_legal)
transfer_legal blocking address (transaction os) = search (legal, setup_legal, operations_legal)
transfer_legal async address (read len) = let internal = read_legal async in search (legal, setup_legal)
transfer_legal async address (write bs) = let internal = write_legal async in search (legal, setup_legal)
transfer_legal async address (write_read bs len) =
    let first = write_legal async in let second = read_legal async in search (legal, setup_legal)
transfer_legal async address (transaction os) = search (legal, setup_legal, operations_legal)

-- each call is a transfer within limits
call_legal : (mode : Mode) (address : ℕ) (lent : Lent) → LegalWith ProperAnswer (program_of mode address lent)
call_legal mode address (reads_into buffer) = search (legal, transfer_legal)
call_legal mode address (writes_from bytes) = search (legal, transfer_legal)
call_legal mode address (writes_then_reads bytes buffer) = search (legal, transfer_legal)
call_legal mode address (transacts kinds lengths bytes buffer) = search (legal, transfer_legal)

-- with a packet error code

coded_operations_legal : (mode : Mode) (restart : Bool) (offset : ℕ) (os : List (Operation ℕ)) → LegalP
    (each_coded reason_of mode restart offset os)
unfolding each_coded
coded_operations_legal mode restart offset [] = search legal
coded_operations_legal mode restart offset (reads len ∷ os) =
    let ih = coded_operations_legal mode restart (offset + len) os in search (legal, read_legal)
coded_operations_legal mode restart offset (writes bs ∷ os) =
    let ih = coded_operations_legal mode restart offset os in search (legal, write_legal)

longer_legal : (mode : Mode) (restart : Bool) (address : ℕ) (os : List (Operation ℕ))
    → LegalWith ProperAnswer (longer_transfer reason_of mode restart address os)
unfolding longer_transfer
longer_legal mode restart address os = search (legal, setup_legal, coded_operations_legal)

-- the longer transfer by itself, before its code is known
pub longer_access_legal : (mode : Mode) (restart : Bool) (address : ℕ) (os : List (Operation ℕ))
    → LegalCall (longer_transfer reason_of mode restart address os)
longer_access_legal mode restart address os = legal_call _ (longer_legal mode restart address os)

-- the code is written to DATA_CMD, which does not disable the block
code_kept : (address : ℕ) (os : List (Operation ℕ)) (d : Bool) (log : List Entry) (r x : ℕ)
    → disabled_after d (Write r ((coder address os).value log r x)) ≡ disabled_after d (Write r x)
code_kept address os d log r x =
    by_test (eqb r DATA_CMD)
    (λ q. let e : r ≡ DATA_CMD = eqb-true r DATA_CMD q in rw e refl)
    (λ q. rw q refl)

tested_proper : (right : Bool) (a : Answer) → ProperAnswer a → ProperAnswer (tested right a)
tested_proper true Accepted h = tt
tested_proper false Accepted h = tt
tested_proper right (Heard c) h = h
tested_proper right (Responded s) h = h
tested_proper right (Refused why) h = h

coded_legal : (mode : Mode) (address : ℕ) (t : Transfer ℕ) (n : ℕ) → LegalB false (coded reason_of mode address t n ends)
coded_legal mode address t n =
    let os : List (Operation ℕ) = operations_of t in
    watched_legal (coder address os) (code_kept address os)
    (λ log a h. tested_proper (is_right address os (bytes_read log)) a h)
    (longer_legal mode (restarts t) address (with_code 0 os) n ends (λ a h. ends_legal h)) []

any_legal : (pec : Bool) (mode : Mode) (address : ℕ) (lent : Lent) (n : ℕ) → LegalB false (program_by pec mode address lent n ends)
any_legal false mode address lent n = call_legal mode address lent n ends (λ a h. ends_legal h)
any_legal true mode address lent n =
    when_legal _ n _ (not (within_limits lent)) (ends_legal tt) (coded_legal mode address (arguments lent) n)

pub every_access_legal : (c : Call) → LegalCall (program c)
every_access_legal c = legal_ends (program c) (any_legal c.pec c.mode c.address c.lent)

pub only_while_disabled : (c : Call) → DisabledCall (program c)
only_while_disabled c = disabled_ends (program c) (any_legal c.pec c.mode c.address c.lent)

pub never_tx_not_empty : (c : Call) → NoTxNotEmpty (program c)
never_tx_not_empty c = proper_ends (program c) (any_legal c.pec c.mode c.address c.lent)
