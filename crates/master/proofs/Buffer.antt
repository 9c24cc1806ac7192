-- Each plain call stores every byte that it reads, at the next place of the lent buffer: `bytes_received`. It rests on a walk along
-- the driver's text by the law of regs/proofs/Stores.antt, `left_whole`, which also says where a number of no access can come.
use Prim.Native.Nat.{ℕ, zero, suc, ◌+◌, ◌-◌, ◌/◌, ◌≤◌, ◌<◌}
use native.Mathlib.Omega.{arith}
use mathlib.Core.Path.{◌≡◌, refl, sym, ap, ◌∙◌}
use mathlib.Core.Bool.{Bool, true, false, ◌&&◌, ◌||◌}
use mathlib.Core.List.{List, [], ◌∷◌, ◌++◌, append-nil}
use lib.Dec.{eqb, leb, ltb}
use lib.ListN.{length, take, drop, length-take, take-append-drop}
use borrow.Author.Tests.{eqb-true, ne_eqb, ltb-false}
use Rattle.regs.specs.declared.answers.AbortReason.{AbortReason}
use Rattle.regs.specs.declared.answers.Answer.TheVariants.{Accepted}
use Rattle.regs.specs.declared.answers.Reply.{Reply}
use Rattle.regs.specs.Registers.{DATA_CMD}
use Rattle.regs.specs.Fields.{dat}
use Rattle.regs.specs.Left.{bytes_read}
use Rattle.regs.specs.Program as P
use Rattle.regs.specs.Program.{Outcome, ◌>>◌, rounds, by_turn, ok, err}
use Rattle.regs.proofs.Tests.{false_true, both_of, by_test}
use Rattle.regs.proofs.Stores.{Stores, data_stores, store_stores, cut_stores, Late, Opens, refuses, begins}
use Rattle.regs.proofs.Stores.{Whole, whole, none, any}
use Rattle.regs.proofs.Quiet.{Quiet, quiet, ends_late}
use Rattle.master.specs.Driver.{Driver, Tried, try, while_turn, setup, tx_fifo_capacity, tx_fifo_full, rx_fifo_len, reason_of}
use Rattle.master.specs.Driver.{read_and_clear_abort_reason}
use Rattle.master.specs.Blocking.{read_blocking_bytes, read_blocking_internal, write_blocking_bytes, write_blocking_internal}
use Rattle.master.specs.Async.{wait_stop_det, queue_batch, fetch_bytes, take_batch, read_round, read_async_internal}
use Rattle.master.specs.Async.{Filled, break_xmit, full, fill, space_come, wait_space, write_async_internal}
use Rattle.master.specs.Operations.{Operation, writes, reads, Transfer, read, write, write_read, transaction, Mode, blocking, async}
use Rattle.master.specs.Operations.{operations_of, listed, total, known, READ, WRITE, MOST_OPERATIONS, fits, lists}
use Rattle.master.specs.Transfer.{read_internal, write_internal, each_operation, blocking_read}
use Rattle.master.specs.Transfer.{blocking_write, blocking_write_read, blocking_transaction, read_async}
use Rattle.master.specs.Transfer.{write_async, write_read_async, transaction_async, transfer, within}
use Rattle.master.specs.Calls.{Lent, reads_into, writes_from, writes_then_reads, transacts, Call, Plain, program_of, buffer_in}
use Rattle.master.specs.Calls.{left_by_call}
use Rattle.master.specs.Buffer.{Received, BytesReceived}
use Rattle.master.proofs.Emits.{Does}

-- with i bytes of L stored, t stores each byte that it reads at the next place
abbrev pub Fills : ℕ → ℕ → Does → Type 0
Fills L i t = Stores none (Late any) L i [] tt t

-- parts that read no byte

abbrev Still : {B : Type 0} → Driver B → Type 0
Still p = Quiet none (Late any) p

capacity_still : Still tx_fifo_capacity
unfolding tx_fifo_capacity
capacity_still = search quiet

full_still : Still tx_fifo_full
unfolding tx_fifo_full
full_still = search (quiet, capacity_still)

len_still : Still rx_fifo_len
unfolding rx_fifo_len
len_still = search quiet

abort_still : Still (read_and_clear_abort_reason reason_of)
unfolding read_and_clear_abort_reason
abort_still = search quiet

try_still : {B : Type 0} (r : Tried B) → Still (try r)
try_still (ok b) = search quiet
try_still (err reason) = search quiet

while_turn_still : (body : Driver (Unit {0})) → Still body → (more : Bool) → Still (while_turn body more)
while_turn_still body h true = search quiet
while_turn_still body h false = search quiet

ruleset parts = (quiet, capacity_still, full_still, len_still, abort_still, try_still, while_turn_still)

bytes_still : (len : ℕ) (stop : Bool) (bs : List ℕ) (i : ℕ) → Still (write_blocking_bytes reason_of len stop i bs)
unfolding write_blocking_bytes
bytes_still len stop [] i = search quiet
bytes_still len stop (b ∷ bs) i = let ih = bytes_still len stop bs (i + 1) in search parts depth 20

stop_det_still : (had_abort : Tried (Unit {0})) (do_stop : Bool) → Still (wait_stop_det reason_of had_abort do_stop)
unfolding wait_stop_det
stop_det_still had_abort do_stop = search parts depth 20

batch_still : (len : ℕ) (restart stop : Bool) (batch queue : ℕ) → Still (queue_batch len restart stop batch queue)
unfolding queue_batch
batch_still len restart stop zero queue = search quiet
batch_still len restart stop (suc batch) queue = let ih = batch_still len restart stop batch (queue - 1) in search quiet

fill_still : (stop : Bool) (space : ℕ) (bs : List ℕ) → Still (fill stop space bs)
unfolding fill
fill_still stop zero bs = search quiet
fill_still stop (suc space) [] = search quiet
fill_still stop (suc space) (b ∷ bs) = let ih = fill_still stop space bs in search quiet

come_still : (abort : Tried (Unit {0})) → Still (space_come abort)
come_still (ok u) = search parts
come_still (err reason) = search quiet

space_still : (filled : Filled) → Still (wait_space reason_of filled)
space_still break_xmit = search quiet
space_still (full bs) = search (parts, come_still) depth 20

pub write_still : (mode : Mode) (bs : List ℕ) (stop : Bool) → Still (write_internal reason_of mode bs stop)
unfolding write_blocking_internal write_async_internal
write_still blocking bs stop = search (quiet, bytes_still) depth 20
write_still async bs stop = search (parts, fill_still, space_still, stop_det_still) depth 30

-- parts that read bytes, up to the place `end`

fetched : {L i : ℕ} {f : ℕ → Does}
    → i < L
    → ((v : ℕ) → Fills L (i + 1) (f v))
    → Fills L i (P.reads DATA_CMD (λ v. P.stores i (dat v) (f v)))
fetched l h = data_stores refl (λ v. store_stores l (h v))

module _ (L n end : ℕ) (most : end ≤ L) (k : Unit {0} → Does) (h : Fills L end (k tt)) where
  bytes_filled : (offset lastindex : ℕ) (restart stop : Bool) (left i : ℕ) → offset + i + left ≡ end
      → Fills L (offset + i) (read_blocking_bytes reason_of offset lastindex restart stop i left n k)
  unfolding read_blocking_bytes
  bytes_filled offset lastindex restart stop zero i e = let same : offset + i ≡ end = omega arith in rw same h
  bytes_filled offset lastindex restart stop (suc left) i e =
      let next : offset + (i + 1) ≡ offset + i + 1 = omega arith in
      let ih = rw next at (bytes_filled offset lastindex restart stop left (i + 1) (omega arith)) in
      let place : offset + i < L = omega arith in
      search (parts, fetched) depth 20

  batch_filled : (i m : ℕ) → i + m ≡ end → Fills L i (fetch_bytes i m n k)
  unfolding fetch_bytes
  batch_filled i zero e = let same : i ≡ end = omega arith in rw same h
  batch_filled i (suc m) e =
      let ih = batch_filled (i + 1) m (omega arith) in
      let place : i < L = omega arith in
      search fetched

  batch_at : (at i m : ℕ) → at ≡ i → i + m ≡ end → Fills L i (fetch_bytes at m n k)
  batch_at at i m same e = rw same (batch_filled i m e)

-- the rounds of an async read: with so many bytes remaining, the others are stored
module _ (L offset len : ℕ) (restart stop : Bool) (n : ℕ) (k : Tried (Unit {0}) → Does) (most : offset + len ≤ L)
    (aborted : (reason : AbortReason) (i : ℕ) → Fills L i (k (err reason)))
    (done : Fills L (offset + len) (k (ok tt))) where
  abbrev from : ℕ → ℕ → ℕ → Does
  from left remaining queue =
      rounds left n (read_round reason_of offset len restart stop) (record { remaining = remaining; remaining_queue = queue }) k

  take_filled : (left remaining queue : ℕ) → remaining ≤ len
      → ((rest queue : ℕ) → rest ≤ len → Fills L (offset + (len - rest)) (from left rest queue))
      → (batch : ℕ) (res : Tried ℕ) → Fills L (offset + (len - remaining))
      (take_batch offset len remaining (queue - batch) res n
      (λ t. by_turn t (λ y. rounds left n (read_round reason_of offset len restart stop) y k) k))
  take_filled left remaining queue fits ih batch (err reason) = aborted reason (offset + (len - remaining))
  take_filled left remaining queue fits ih batch (ok rx) =
      batch_at L n _ (omega arith) _ (ih _ _ (omega arith)) _ (offset + (len - remaining)) _ (omega arith) (omega arith)

  rounds_filled : (left remaining queue : ℕ) → remaining ≤ len → Fills L (offset + (len - remaining)) (from left remaining queue)
  unfolding rounds
  rounds_filled zero remaining queue fits = cut_stores refl
  rounds_filled (suc left) remaining queue fits =
      let taken = take_filled left remaining queue fits (λ rest queue fits. rounds_filled left rest queue fits) in
      by_test (ltb 0 remaining)
      (λ q. rw q (search (parts, batch_still) depth 30))
      (λ q. let none_left : offset + (len - remaining) ≡ offset + len = omega (arith, ltb-false 0 remaining q) in rw (q, none_left) done)

-- both modes together

pub read_filled : (mode : Mode) (offset len : ℕ) (restart stop : Bool) (L n : ℕ) (k : Unit {0} → Does) → offset + len ≤ L
    → Fills L (offset + len) (k tt)
    → Fills L offset (read_internal reason_of mode offset len restart stop n k)
unfolding read_blocking_internal read_async_internal wait_stop_det
read_filled blocking offset len restart stop L n k most h =
    let start : offset + 0 ≡ offset = omega arith in
    let bytes = rw start at (bytes_filled L n (offset + len) most k h offset (len - 1) restart stop len 0 (omega arith)) in
    search quiet
read_filled async offset len restart stop L n k most h =
    let start : offset + (len - len) ≡ offset = omega arith in
    let rounds = rw start at (rounds_filled L offset len restart stop n (λ r. wait_stop_det reason_of r stop n (λ res. try res n k)) most
    (λ reason i. search parts depth 20) (search parts depth 20) n len len (omega arith)) in
    search quiet

-- the bytes that operations read, in all
abbrev pub reads_in : List (Operation ℕ) → ℕ
reads_in [] = 0
reads_in (reads len ∷ os) = len + reads_in os
reads_in (writes bs ∷ os) = reads_in os

operations_filled : (mode : Mode) (os : List (Operation ℕ)) (offset L n : ℕ) (k : Unit {0} → Does) → offset + reads_in os ≤ L
    → ((i : ℕ) → Fills L i (k tt))
    → Fills L offset (each_operation reason_of mode offset os n k)
unfolding each_operation
operations_filled mode [] offset L n k most h = h offset
operations_filled mode (reads len ∷ os) offset L n k most h =
    read_filled mode offset len _ _ L n _ (omega arith) (operations_filled mode os (offset + len) L n k (omega arith) h)
operations_filled mode (writes bs ∷ os) offset L n k most h =
    write_still mode bs _ L offset n [] tt _ refl (λ _. operations_filled mode os offset L n k most h)

-- ---- the calls

abbrev pub Calls : ℕ → Does → Type 0
Calls L t = Opens none any L tt t

pub setup_opens : (address L n : ℕ) (k : Unit {0} → Does) → Fills L 0 (k tt) → Calls L (setup address n k)
unfolding setup
setup_opens address L n k h =
    by_test (ltb address 0x80)
    (λ q. rw q (search (begins, quiet)))
    (λ q. rw q (search (refuses, begins, quiet)))

pub accepted : (L i : ℕ) → Fills L i (P.ends Accepted)
accepted L i = ends_late refl tt

-- what a transfer does after `setup`
abbrev pub operate : Mode → Transfer ℕ → Driver (Unit {0})
operate mode (read len) = read_internal reason_of mode 0 len true true
operate mode (write bs) = write_internal reason_of mode bs true
operate mode (write_read bs len) = write_internal reason_of mode bs false >> read_internal reason_of mode 0 len true true
operate mode (transaction os) = each_operation reason_of mode 0 os

operate_filled : (mode : Mode) (x : Transfer ℕ) (L n : ℕ) → reads_in (operations_of x) ≤ L
    → Fills L 0 (operate mode x n (λ _. P.ends Accepted))
operate_filled mode (read len) L n most = read_filled mode 0 len _ _ L n _ (omega arith) (accepted L (0 + len))
operate_filled mode (write bs) L n most = write_still mode bs _ L 0 n [] tt _ refl (λ _. accepted L 0)
operate_filled mode (write_read bs len) L n most =
    write_still mode bs _ L 0 n [] tt _ refl (λ _. read_filled mode 0 len _ _ L n _ (omega arith) (accepted L (0 + len)))
operate_filled mode (transaction os) L n most = operations_filled mode os 0 L n _ (omega arith) (accepted L)

transfer_opens : (mode : Mode) (address : ℕ) (x : Transfer ℕ) (L n : ℕ) → Fills L 0 (operate mode x n (λ _. P.ends Accepted))
    → Calls L (transfer reason_of mode address x n P.ends)
unfolding blocking_read blocking_write blocking_write_read blocking_transaction read_async write_async write_read_async transaction_async
    each_operation
transfer_opens blocking address (read len) L n h = setup_opens address L n _ h
transfer_opens blocking address (write bs) L n h = setup_opens address L n _ h
transfer_opens blocking address (write_read bs len) L n h = setup_opens address L n _ h
transfer_opens blocking address (transaction os) L n h = setup_opens address L n _ h
transfer_opens async address (read len) L n h = setup_opens address L n _ h
transfer_opens async address (write bs) L n h = setup_opens address L n _ h
transfer_opens async address (write_read bs len) L n h = setup_opens address L n _ h
transfer_opens async address (transaction []) L n h = refuses tt
transfer_opens async address (transaction (o ∷ os)) L n h = setup_opens address L n _ h

within_opens : (limits : Bool) (mode : Mode) (address : ℕ) (x : Transfer ℕ) (L n : ℕ)
    → (limits ≡ true → reads_in (operations_of x) ≤ L)
    → Calls L (within limits (transfer reason_of mode address x) n P.ends)
within_opens true mode address x L n most =
    transfer_opens mode address x L n (operate_filled mode x L n (most refl))
within_opens false mode address x L n most = refuses tt

-- the reads that kinds and lengths list
pub reads_listed : (kinds lengths bytes : List ℕ) → known kinds ≡ true → reads_in (listed kinds lengths bytes) ≡ total READ kinds lengths
unfolding listed known total
reads_listed [] lengths bytes e = refl
reads_listed (kind ∷ kinds) [] bytes e = refl
reads_listed (kind ∷ kinds) (m ∷ lengths) bytes e =
    let here = both_of (eqb kind READ || eqb kind WRITE) (known kinds) e in
    let w = reads_listed kinds lengths (drop m bytes) here.1 in
    let r = reads_listed kinds lengths bytes here.1 in
    by_test (eqb kind WRITE)
    (λ q. let other : eqb kind READ ≡ false = ne_eqb kind READ (λ y. absurd (omega (arith, eqb-true kind WRITE q))) in rw (q, other) w)
    (λ q. let same : eqb kind READ ≡ true = by_test (eqb kind READ) (λ y. y) (λ y. absurd (false_true (rw (y, q) at here.0))) in
    rw (q, same) (ap (λ (t : ℕ). m + t) r))

pub lists_room : (kinds lengths : List ℕ) (written room : ℕ) → lists kinds lengths written room ≡ true
    → (known kinds ≡ true) × (total READ kinds lengths ≡ room)
lists_room kinds lengths written room e =
    let read : Bool = eqb (total READ kinds lengths) room in
    let wrote : Bool = eqb (total WRITE kinds lengths) written in
    let sums : Bool = wrote && (read && (fits written && fits room)) in
    let few : Bool = leb (length kinds) MOST_OPERATIONS in
    let listed = (both_of few (known kinds && sums) (both_of (eqb (length kinds) (length lengths)) (few && (known kinds && sums)) e).1).1 in
    let two = both_of (known kinds) sums listed in
    let added = both_of read (fits written && fits room) (both_of wrote (read && (fits written && fits room)) two.1).1 in
    (two.0, eqb-true (total READ kinds lengths) room added.0)

call_opens : (mode : Mode) (address : ℕ) (l : Lent) (n : ℕ) → Calls (length (buffer_in l)) (program_of mode address l n P.ends)
call_opens mode address (reads_into buffer) n =
    within_opens (fits (length buffer)) mode address (read (length buffer)) (length buffer) n (λ _. omega arith)
call_opens mode address (writes_from bytes) n = within_opens (fits (length bytes)) mode address (write bytes) 0 n (λ _. omega arith)
call_opens mode address (writes_then_reads bytes buffer) n =
    within_opens (fits (length bytes) && fits (length buffer)) mode address (write_read bytes (length buffer)) (length buffer) n
    (λ _. omega arith)
call_opens mode address (transacts kinds lengths bytes buffer) n =
    within_opens (lists kinds lengths (length bytes) (length buffer)) mode address (transaction (listed kinds lengths bytes))
    (length buffer) n (λ e.
    let l = lists_room kinds lengths (length bytes) (length buffer) e in
    let r = reads_listed kinds lengths bytes l.0 in
    omega (arith, r, l.1))

pub left_whole : (c : Call) → Plain c → (log readings : List ℕ) → Whole none any (buffer_in c.lent) tt (left_by_call c log readings)
left_whole c plain log readings =
    rw plain (whole none any (λ _. tt) (λ _. tt) (call_opens c.mode c.address c.lent _) (length log / 2) readings (buffer_in c.lent) refl)

pub received : (before : List ℕ) (o : Outcome (Unit {0}) Reply) → Whole none any before tt o → Received before o
received before o w =
    let s = w.stored in
    let front : bytes_read o.log ≡ take w.count o.buffer = s.bytes ∙ append-nil (take w.count o.buffer) in
    let many : length (bytes_read o.log) ≡ w.count =
    ap length front ∙ simp length-take (omega (arith, s.within, s.size)) in
    record {
      places = omega (arith, s.within);
      buffer = sym (take-append-drop w.count o.buffer)
          ∙ ap (λ (x : List ℕ). x ++ drop w.count o.buffer) (sym front)
          ∙ ap (λ (x : List ℕ). bytes_read o.log ++ x) s.others
          ∙ ap (λ (m : ℕ). bytes_read o.log ++ drop m before) (sym many);
    }

pub bytes_received : BytesReceived
bytes_received c plain log readings = received (buffer_in c.lent) (left_by_call c log readings) (left_whole c plain log readings)
