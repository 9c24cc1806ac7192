-- The driver's functions are alike (Alike.antt): the same reads and writes to themselves, a last write of bytes and 0 to
-- the write of those bytes and c.
use Prim.Native.Nat.{ℕ, zero, suc, ◌+◌, ◌-◌, ◌<◌}
use native.Mathlib.Omega.{arith}
use mathlib.Core.Bool.{Bool, true, false, ◌&&◌, and-false, and_comm}
use mathlib.Core.List.{List, [], ◌∷◌, ◌++◌}
use mathlib.Core.Path.{◌≡◌, refl, ap, ◌∙◌}
use lib.Dec.{eqb, eqb-suc-zero}
use lib.ListN.{length}
use borrow.Author.Tests.{eq-eqb, ne_eqb}
use Rattle.regs.specs.Program.{Turn, by_turn, rounds, ok, err}
use Rattle.master.specs.Driver.{Driver, Tried, try, while_turn, setup, tx_fifo_capacity, tx_fifo_full, rx_fifo_len, reason_of}
use Rattle.master.specs.Driver.{read_and_clear_abort_reason}
use Rattle.master.specs.Blocking.{read_blocking_bytes, read_blocking_internal, write_blocking_bytes, write_blocking_internal}
use Rattle.master.specs.Async.{is_empty, wait_stop_det, Counts, queue_batch, fetch_bytes, take_batch, read_round}
use Rattle.master.specs.Async.{read_async_internal, Filled, break_xmit, full, fill, space_come, go_on, wait_space, xmit}
use Rattle.master.specs.Async.{write_async_internal}
use Rattle.master.specs.Operations.{Mode, blocking, async}
use Rattle.master.specs.Transfer.{read_internal, write_internal}
use Rattle.master.proofs.Sequence.{Bytes}
use Rattle.master.proofs.Emits.{Does}
use Rattle.master.proofs.Alike.{Alike, data_alike, stores_alike, cut_alike, code_alike, byte_alike, alike, Same, SameRead}

-- ---- parts that read no byte

pub setup_same : (address : ℕ) → Same (setup address)
unfolding setup
setup_same address = search alike

capacity_same : Same tx_fifo_capacity
unfolding tx_fifo_capacity
capacity_same = search alike

full_same : Same tx_fifo_full
unfolding tx_fifo_full
full_same = search (alike, capacity_same)

len_same : Same rx_fifo_len
unfolding rx_fifo_len
len_same = search alike

abort_same : Same (read_and_clear_abort_reason reason_of)
unfolding read_and_clear_abort_reason
abort_same = search alike

try_same : {B : Type 0} (r : Tried B) → Same (try r)
try_same (ok b) = search alike
try_same (err reason) = search alike

while_turn_same : (body : Driver (Unit {0})) → Same body → (more : Bool) → Same (while_turn body more)
while_turn_same body h true = search alike
while_turn_same body h false = search alike

ruleset parts = (alike, capacity_same, full_same, len_same, abort_same, try_same, while_turn_same)

stop_det_same : (had_abort : Tried (Unit {0})) (do_stop : Bool) → Same (wait_stop_det reason_of had_abort do_stop)
unfolding wait_stop_det
stop_det_same had_abort do_stop = search parts depth 20

batch_same : (len : ℕ) (restart stop : Bool) (batch queue : ℕ) → Same (queue_batch len restart stop batch queue)
unfolding queue_batch
batch_same len restart stop zero queue = search alike
batch_same len restart stop (suc batch) queue = let ih = batch_same len restart stop batch (queue - 1) in search alike

come_same : (abort : Tried (Unit {0})) → Same (space_come abort)
come_same (ok u) = search parts
come_same (err reason) = search alike

-- ---- reads

bytes_same : (offset lastindex : ℕ) (restart stop : Bool) (i left : ℕ)
    → SameRead (read_blocking_bytes reason_of offset lastindex restart stop i left)
unfolding read_blocking_bytes
bytes_same offset lastindex restart stop i zero = search alike
bytes_same offset lastindex restart stop i (suc left) =
    let ih = bytes_same offset lastindex restart stop (i + 1) left in search (parts, data_alike, stores_alike) depth 20

fetch_same : (at rxbytes : ℕ) → SameRead (fetch_bytes at rxbytes)
unfolding fetch_bytes
fetch_same at zero = search alike
fetch_same at (suc rxbytes) = let ih = fetch_same (at + 1) rxbytes in search (data_alike, stores_alike)

take_same : (offset len remaining queue : ℕ) (res : Tried ℕ) → SameRead (take_batch offset len remaining queue res)
take_same offset len remaining queue (ok rxfifo) = search fetch_same
take_same offset len remaining queue (err reason) = search alike

round_same : (offset len : ℕ) (restart stop : Bool) (counts : Counts) → SameRead (read_round reason_of offset len restart stop counts)
round_same offset len restart stop counts = search (parts, batch_same, take_same) depth 30

pub read_same : (mode : Mode) (offset len : ℕ) (restart stop : Bool) → SameRead (read_internal reason_of mode offset len restart stop)
unfolding read_blocking_internal read_async_internal
read_same blocking offset len restart stop = search (alike, bytes_same)
read_same async offset len restart stop = search (alike, round_same, stop_det_same, try_same) depth 10

-- ---- writes

-- the bytes of a write beside those of another, which end in c where they end in 0: last tells whether the write is the
-- last operation, so that its last word has STOP
pub data Sent (c : ℕ) : Bool → List ℕ → List ℕ → Type 0 where
  over : {last : Bool} → Sent c last [] []
  code : Sent c true (0 ∷ []) (c ∷ [])
  byte : {last : Bool} {b : ℕ} {bs cs : List ℕ} → b < 256 → is_empty bs && last ≡ false → is_empty cs && last ≡ false
      → Sent c last bs cs → Sent c last (b ∷ bs) (b ∷ cs)

pub same_sent : (c : ℕ) (bs : List ℕ) → Bytes bs → Sent c false bs bs
same_sent c [] small = over
same_sent c (b ∷ bs) small = byte small.0 (and-false (is_empty bs)) (and-false (is_empty bs)) (same_sent c bs small.1)

pub code_sent : (c x : ℕ) (xs : List ℕ) → Bytes (x ∷ xs) → Sent c true (x ∷ (xs ++ 0 ∷ [])) (x ∷ (xs ++ c ∷ []))
code_sent c x [] small = byte small.0 refl refl code
code_sent c x (y ∷ ys) small = byte small.0 refl refl (code_sent c y ys small.1)

last_byte : (len : ℕ) (bs : List ℕ) (i : ℕ) → i + suc (length bs) ≡ len → eqb i (len - 1) ≡ is_empty bs
last_byte len [] i e = eq-eqb i (len - 1) (omega arith)
last_byte len (b ∷ bs) i e = ne_eqb i (len - 1) (λ q. omega arith)

pub no_stop : (len : ℕ) (last : Bool) (bs : List ℕ) (i : ℕ) → i + suc (length bs) ≡ len → is_empty bs && last ≡ false
    → last && eqb i (len - 1) ≡ false
no_stop len last bs i e q = ap (λ (z : Bool). last && z) (last_byte len bs i e) ∙ and_comm last (is_empty bs) ∙ q

written_alike : (c n len len' : ℕ) {last : Bool} {bs cs : List ℕ} → Sent c last bs cs → (i : ℕ)
    → i + length bs ≡ len
    → i + length cs ≡ len'
    → (k l : Unit {0} → Does)
    → Alike c last (k tt) (l tt)
    → Alike c last (write_blocking_bytes reason_of len last i bs n k) (write_blocking_bytes reason_of len' last i cs n l)
unfolding write_blocking_bytes
written_alike c n len len' over i e e' k l h = h
written_alike c n len len' code i e e' k l h =
    let last : eqb i (len - 1) ≡ true = eq-eqb i (len - 1) (omega arith) in
    let last' : eqb i (len' - 1) ≡ true = eq-eqb i (len' - 1) (omega arith) in
    rw (last, last') (search (parts, code_alike) depth 20)
written_alike c n len len' (byte {last = last} {bs = bs} {cs = cs} small p q s) i e e' k l h =
    let ih = written_alike c n len len' s (i + 1) (omega arith) (omega arith) k l h in
    rw (no_stop len last bs i e p, no_stop len' last cs i e' q) (search (parts, byte_alike) depth 20)

fill_alike : (c n : ℕ) {last : Bool} (k l : Filled → Does)
    → Alike c last (k break_xmit) (l break_xmit)
    → ((bs cs : List ℕ) → Sent c last bs cs → Alike c last (k (full bs)) (l (full cs)))
    → (space : ℕ) {bs cs : List ℕ}
    → Sent c last bs cs
    → Alike c last (fill last space bs n k) (fill last space cs n l)
unfolding fill
fill_alike c n k l ended more zero s = more _ _ s
fill_alike c n k l ended more (suc space) over = ended
fill_alike c n k l ended more (suc space) code = code_alike (fill_alike c n k l ended more space over)
fill_alike c n k l ended more (suc space) (byte {b = b} small p q s) =
    rw (p, q) (byte_alike b small (fill_alike c n k l ended more space s))

space_alike : (c n : ℕ) (d : Bool) (bs cs : List ℕ) (k l : Turn (List ℕ) (Tried (Unit {0})) → Does)
    → ((res : Tried (Unit {0})) → Alike c d (k (go_on bs res)) (l (go_on cs res)))
    → Alike c d (wait_space reason_of (full bs) n k) (wait_space reason_of (full cs) n l)
space_alike c n d bs cs k l h = search (parts, come_same) depth 20

module _ (c n : ℕ) (last : Bool) (k l : Tried (Unit {0}) → Does) (h : (r : Tried (Unit {0})) → Alike c last (k r) (l r)) where
  gone_on : (left : ℕ) (bs cs : List ℕ)
      → Alike c last (rounds left n (xmit reason_of last) bs k) (rounds left n (xmit reason_of last) cs l)
      → (res : Tried (Unit {0}))
      → Alike c last (by_turn (go_on bs res) (λ y. rounds left n (xmit reason_of last) y k) k)
      (by_turn (go_on cs res) (λ y. rounds left n (xmit reason_of last) y l) l)
  gone_on left bs cs ih (ok u) = ih
  gone_on left bs cs ih (err reason) = h (err reason)

  rounds_sent : (left : ℕ) (bs cs : List ℕ) → Sent c last bs cs
      → Alike c last (rounds left n (xmit reason_of last) bs k) (rounds left n (xmit reason_of last) cs l)
  unfolding rounds
  rounds_sent zero bs cs s = cut_alike
  rounds_sent (suc left) bs cs s = capacity_same c last n _ _ (λ space. fill_alike c n _ _ (h (ok tt))
      (λ bs cs s. space_alike c n last bs cs (λ t. by_turn t (λ y. rounds left n (xmit reason_of last) y k) k)
      (λ t. by_turn t (λ y. rounds left n (xmit reason_of last) y l) l) (gone_on left bs cs (rounds_sent left bs cs s))) space s)

pub write_alike : (c : ℕ) (mode : Mode) (last : Bool) (x y : ℕ) (xs ys : List ℕ) → Sent c last (x ∷ xs) (y ∷ ys)
    → (n : ℕ) (k l : Unit {0} → Does)
    → Alike c last (k tt) (l tt)
    → Alike c last (write_internal reason_of mode (x ∷ xs) last n k) (write_internal reason_of mode (y ∷ ys) last n l)
unfolding write_blocking_internal write_async_internal
write_alike c blocking last x y xs ys s n k l h = rw (eqb-suc-zero (length xs), eqb-suc-zero (length ys))
    (written_alike c n (length (x ∷ xs)) (length (y ∷ ys)) s 0 (omega arith) (omega arith) k l h)
write_alike c async last x y xs ys s n k l h = rounds_sent c n last _ _
    (λ r. stop_det_same r last c last n _ _ (λ res. try_same res c last n k l (λ _. h))) n _ _ s
