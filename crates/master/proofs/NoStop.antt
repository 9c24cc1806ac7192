-- What a transfer does before its last operation: no write word with STOP, no byte stored past the first L places of
-- the buffer. Two behaviours are `Alike` that do so and differ in nothing but their last answers, a and b.
-- A function of the driver has a lemma, Kept of its calls: what follows it alike is alike with it before.
use Prim.Native.Nat.{ℕ, zero, suc, ◌+◌, ◌-◌, ◌/◌, ◌%◌, ◌^◌, ◌≤◌, ◌<◌, min}
use native.Mathlib.Omega.{arith}
use mathlib.Core.Bool.{Bool, true, false, not, ◌&&◌}
use mathlib.Core.List.{List, [], ◌∷◌}
use mathlib.Core.Path.{◌≡◌}
use lib.Dec.{eqb, ltb, T, eqb-suc-zero}
use lib.ListN.{length}
use Rattle.regs.specs.declared.answers.AbortReason.{AbortReason}
use Rattle.regs.specs.declared.answers.AbortReason.TheVariants.{NoAcknowledge, ArbitrationLoss, TxNotEmpty, Other, DataNotAcknowledged}
use Rattle.regs.specs.declared.answers.Answer.{Answer}
use Rattle.regs.specs.declared.answers.Answer.TheVariants.{Refused}
use Rattle.regs.specs.declared.answers.Refusal.{Refusal}
use Rattle.regs.specs.declared.answers.Refusal.TheVariants.{Abort}
use Rattle.regs.specs.Answers.{refusal_number}
use Rattle.regs.specs.Registers.{DATA_CMD}
use Rattle.regs.specs.Fields.{command_word, cmd, stop}
use Rattle.regs.specs.Log.{Each}
use Rattle.regs.specs.Program as P
use Rattle.regs.specs.Program.{when, turns, Turn, again, done, by_turn, rounds, Poll, pending, ready, polled, ok, err}
use Rattle.std.specs.Prelude.{if◌then◌else◌}
use Rattle.master.specs.Driver.{Driver, Tried, try, while_turn, setup, tx_fifo_capacity, tx_fifo_full, rx_fifo_len, reason_of}
use Rattle.master.specs.Driver.{read_and_clear_abort_reason}
use Rattle.master.specs.Blocking.{read_blocking_bytes, read_blocking_internal, write_blocking_bytes, write_blocking_internal}
use Rattle.master.specs.Async.{wait_stop_det, Counts, queue_batch, fetch_bytes, take_batch, read_round, read_async_internal}
use Rattle.master.specs.Async.{Filled, break_xmit, full, fill, space_come, go_on, wait_space, xmit, write_async_internal}
use Rattle.master.specs.Operations.{Mode, blocking, async}
use Rattle.master.specs.Transfer.{read_internal, write_internal}
use Rattle.master.proofs.Emits.{Does}

-- a write word with STOP
abbrev pub stops : ℕ → ℕ → Bool
stops r w = eqb r DATA_CMD && (stop w && not (cmd w))

-- bytes to write
abbrev pub AllSmall : List ℕ → Type 0
AllSmall bs = Each (λ b. b < 256) bs

-- refused-alike: an answer on the way is a refusal, and not 7
pub data Alike (a b : Answer) (L : ℕ) : Does → Does → Type 0 where
  last_alike : Alike a b L (P.ends a) (P.ends b)
  refused_alike : {why : Refusal} → T (not (eqb (refusal_number why) 7)) → Alike a b L (P.ends (Refused why)) (P.ends (Refused why))
  reads_alike : {r : ℕ} {f g : ℕ → Does} → ((v : ℕ) → Alike a b L (f v) (g v)) → Alike a b L (P.reads r f) (P.reads r g)
  writes_alike : {r w : ℕ} {t u : Does} → T (not (stops r w)) → Alike a b L t u → Alike a b L (P.writes r w t) (P.writes r w u)
  marks_alike : {x : ℕ} {t u : Does} → Alike a b L t u → Alike a b L (P.marks x t) (P.marks x u)
  stores_alike : {i v : ℕ} {t u : Does} → i < L → Alike a b L t u → Alike a b L (P.stores i v t) (P.stores i v u)
  cut_alike : Alike a b L P.cut P.cut

-- ---- words

read_word : (s r : Bool) → T (not (stops DATA_CMD (command_word 0 true s r)))
read_word true true = tt
read_word true false = tt
read_word false true = tt
read_word false false = tt

write_word : (b : ℕ) → b < 256 → T (not (stops DATA_CMD (command_word b false false false)))
write_word b small = let e : command_word b false false false / 2 ^ 9 % 2 ≡ 0 = omega arith in rw e tt

other_number : (reason : AbortReason) → T (not (eqb (refusal_number (Abort reason)) 7))
other_number NoAcknowledge = tt
other_number ArbitrationLoss = tt
other_number (TxNotEmpty n) = tt
other_number (Other w) = tt
other_number (DataNotAcknowledged w) = tt

-- what the rounds of an async write hand on
abbrev SmallFilled : Filled → Type 0
SmallFilled break_xmit = Unit {0}
SmallFilled (full bs) = AllSmall bs

abbrev SmallTurn : Turn (List ℕ) (Tried (Unit {0})) → Type 0
SmallTurn (again bs) = AllSmall bs
SmallTurn (done r) = Unit {0}

module _ (a b : Answer) (L : ℕ) where
  abbrev Same : Does → Does → Type 0
  Same t u = Alike a b L t u

  abbrev pub Kept : {B : Type 0} → Driver B → Type 0
  Kept {B} p = (n : ℕ) (k k' : B → Does) → ((y : B) → Same (k y) (k' y)) → Same (p n k) (p n k')

  -- ---- along a program's text

  if_alike : (B : Type 0) (p p' : Driver B) (n : ℕ) (k k' : B → Does) (q : Bool)
      → Same (p n k) (p n k')
      → Same (p' n k) (p' n k')
      → Same ((if q then p else p') n k) ((if q then p else p') n k')
  if_alike B p p' n k k' true l r = l
  if_alike B p p' n k k' false l r = r

  if_behaviour : {t t' u u' : Does} (q : Bool) → Same t t' → Same u u' → Same (if q then t else u) (if q then t' else u')
  if_behaviour true l r = l
  if_behaviour false l r = r

  when_alike : (p : Driver (Unit {0})) (n : ℕ) (k k' : Unit {0} → Does) (q : Bool)
      → Same (p n k) (p n k')
      → Same (k tt) (k' tt)
      → Same (when q p n k) (when q p n k')
  when_alike p n k k' true l r = l
  when_alike p n k k' false l r = r

  -- `while`
  turns_alike : (left n r : ℕ) (more : ℕ → Bool) (body : Driver (Unit {0})) (k k' : ℕ → Does)
      → Kept body
      → ((v : ℕ) → Same (k v) (k' v))
      → Same (turns left n r more body k) (turns left n r more body k')
  unfolding turns
  turns_alike zero n r more body k k' h o = cut_alike
  turns_alike (suc left) n r more body k k' h o =
      reads_alike (λ v. if_behaviour (more v) (h n _ _ (λ _. turns_alike left n r more body k k' h o)) (o v))

  by_turn_alike : {X B : Type 0} {t t' : X → Does} {k k' : B → Does}
      → ((x : X) → Same (t x) (t' x))
      → ((y : B) → Same (k y) (k' y))
      → (w : Turn X B)
      → Same (by_turn w t k) (by_turn w t' k')
  by_turn_alike l o (again x) = l x
  by_turn_alike l o (done y) = o y

  -- `loop`
  rounds_alike : (X B : Type 0) (left n : ℕ) (body : X → Driver (Turn X B)) (x : X) (k k' : B → Does)
      → ((y : X) → Kept (body y))
      → ((y : B) → Same (k y) (k' y))
      → Same (rounds left n body x k) (rounds left n body x k')
  unfolding rounds
  rounds_alike X B zero n body x k k' h o = cut_alike
  rounds_alike X B (suc left) n body x k k' h o =
      h x n _ _ (by_turn_alike (λ y. rounds_alike X B left n body y k k' h o) o)

  polled_alike : {X B : Type 0} (g : Driver (Unit {0})) → Kept g → (y : Poll X B) → Kept (polled g y)
  polled_alike g l (pending x) n k k' h = l n _ _ (λ _. marks_alike (h (again x)))
  polled_alike g l (ready y) n k k' h = h (done y)

  ruleset alike = (
    refused_alike,
    other_number,
    reads_alike,
    writes_alike,
    marks_alike,
    stores_alike,
    if_alike,
    if_behaviour,
    when_alike,
    turns_alike,
    by_turn_alike,
    rounds_alike,
    polled_alike,
  )

  -- ---- the driver's parts

  pub setup_kept : (address : ℕ) → Kept (setup address)
  unfolding setup
  setup_kept address = search alike

  capacity_kept : Kept tx_fifo_capacity
  unfolding tx_fifo_capacity
  capacity_kept = search alike

  full_kept : Kept tx_fifo_full
  unfolding tx_fifo_full
  full_kept = search (alike, capacity_kept)

  len_kept : Kept rx_fifo_len
  unfolding rx_fifo_len
  len_kept = search alike

  abort_kept : Kept (read_and_clear_abort_reason reason_of)
  unfolding read_and_clear_abort_reason
  abort_kept = search alike

  try_kept : {B : Type 0} (r : Tried B) → Kept (try r)
  try_kept (ok y) = search alike
  try_kept (err reason) = search alike

  while_turn_kept : (body : Driver (Unit {0})) → Kept body → (more : Bool) → Kept (while_turn body more)
  while_turn_kept body h true = search alike
  while_turn_kept body h false = search alike

  ruleset parts = (alike, capacity_kept, full_kept, len_kept, abort_kept, try_kept, while_turn_kept)

  stop_det_kept : (had_abort : Tried (Unit {0})) (do_stop : Bool) → Kept (wait_stop_det reason_of had_abort do_stop)
  unfolding wait_stop_det
  stop_det_kept had_abort do_stop = search parts depth 20

  -- ---- blocking

  bytes_read_kept : (offset lastindex : ℕ) (restart stop : Bool) (left i : ℕ) → offset + i + left ≤ L
      → Kept (read_blocking_bytes reason_of offset lastindex restart stop i left)
  unfolding read_blocking_bytes
  bytes_read_kept offset lastindex restart stop zero i most = search alike
  bytes_read_kept offset lastindex restart stop (suc left) i most =
      let ih = bytes_read_kept offset lastindex restart stop left (i + 1) (omega arith) in
      let place : offset + i < L = omega arith in
      let word = read_word (stop && eqb i lastindex) (restart && eqb i 0) in
      search parts depth 20

  bytes_written_kept : (len : ℕ) (bs : List ℕ) (i : ℕ) → AllSmall bs → Kept (write_blocking_bytes reason_of len false i bs)
  unfolding write_blocking_bytes
  bytes_written_kept len [] i small = search alike
  bytes_written_kept len (x ∷ bs) i small =
      let ih = bytes_written_kept len bs (i + 1) small.1 in
      let word = write_word x small.0 in
      search parts depth 20

  -- ---- an async read

  batch_kept : (len : ℕ) (restart stop : Bool) (batch queue : ℕ) → Kept (queue_batch len restart stop batch queue)
  unfolding queue_batch
  batch_kept len restart stop zero queue = search alike
  batch_kept len restart stop (suc batch) queue =
      let ih = batch_kept len restart stop batch (queue - 1) in
      let word = read_word (eqb (queue - 1) 0 && stop) (restart && eqb (queue - 1) (len - 1)) in
      search alike

  fetch_kept : (at m : ℕ) → at + m ≤ L → Kept (fetch_bytes at m)
  unfolding fetch_bytes
  fetch_kept at zero most = search alike
  fetch_kept at (suc m) most =
      let ih = fetch_kept (at + 1) m (omega arith) in
      let place : at < L = omega arith in
      search alike

  -- the rounds: with so many bytes remaining, the next one goes behind the others
  module _ (offset len : ℕ) (restart stop : Bool) (n : ℕ) (k k' : Tried (Unit {0}) → Does) (most : offset + len ≤ L)
      (h : (r : Tried (Unit {0})) → Same (k r) (k' r)) where
    abbrev from : (Tried (Unit {0}) → Does) → ℕ → ℕ → ℕ → Does
    from j left remaining queue =
        rounds left n (read_round reason_of offset len restart stop) (record { remaining = remaining; remaining_queue = queue }) j

    abbrev turned : (Tried (Unit {0}) → Does) → ℕ → Turn Counts (Tried (Unit {0})) → Does
    turned j left w = by_turn w (λ y. rounds left n (read_round reason_of offset len restart stop) y j) j

    take_kept : (left remaining queue : ℕ) → remaining ≤ len
        → ((rest queue : ℕ) → rest ≤ len → Same (from k left rest queue) (from k' left rest queue))
        → (batch : ℕ) (res : Tried ℕ)
        → Same (take_batch offset len remaining (queue - batch) res n (turned k left))
        (take_batch offset len remaining (queue - batch) res n (turned k' left))
    take_kept left remaining queue fits ih batch (err reason) = h (err reason)
    take_kept left remaining queue fits ih batch (ok rx) =
        fetch_kept (offset + (len - remaining)) (min rx remaining) (omega arith) n _ _ (λ _. ih _ _ (omega arith))

    rounds_kept : (left remaining queue : ℕ) → remaining ≤ len → Same (from k left remaining queue) (from k' left remaining queue)
    unfolding rounds
    rounds_kept zero remaining queue fits = cut_alike
    rounds_kept (suc left) remaining queue fits =
        let taken = take_kept left remaining queue fits (λ rest queue fits. rounds_kept left rest queue fits) in
        if_alike _ _ _ n _ _ (not (ltb 0 remaining)) (h (ok tt)) (search (parts, batch_kept) depth 30)

  -- ---- an async write

  fill_kept : (space : ℕ) (bs : List ℕ) → AllSmall bs → (n : ℕ) (k k' : Filled → Does)
      → ((f : Filled) → SmallFilled f → Same (k f) (k' f))
      → Same (fill false space bs n k) (fill false space bs n k')
  unfolding fill
  fill_kept zero bs small n k k' h = h (full bs) small
  fill_kept (suc space) [] small n k k' h = h break_xmit tt
  fill_kept (suc space) (x ∷ []) small n k k' h =
      writes_alike (write_word x small.0) (fill_kept space [] tt n k k' h)
  fill_kept (suc space) (x ∷ (y ∷ bs)) small n k k' h =
      writes_alike (write_word x small.0) (fill_kept space (y ∷ bs) small.1 n k k' h)

  come_kept : (abort : Tried (Unit {0})) → Kept (space_come abort)
  come_kept (ok u) = search parts
  come_kept (err reason) = search alike

  go_kept : (bs : List ℕ) → AllSmall bs → (k k' : Turn (List ℕ) (Tried (Unit {0})) → Does)
      → ((w : Turn (List ℕ) (Tried (Unit {0}))) → SmallTurn w → Same (k w) (k' w))
      → (res : Tried (Unit {0}))
      → Same (k (go_on bs res)) (k' (go_on bs res))
  go_kept bs small k k' h (ok u) = h (again bs) small
  go_kept bs small k k' h (err reason) = h (done (err reason)) tt

  space_kept : (f : Filled) → SmallFilled f → (n : ℕ) (k k' : Turn (List ℕ) (Tried (Unit {0})) → Does)
      → ((w : Turn (List ℕ) (Tried (Unit {0}))) → SmallTurn w → Same (k w) (k' w))
      → Same (wait_space reason_of f n k) (wait_space reason_of f n k')
  space_kept break_xmit small n k k' h = h (done (ok tt)) tt
  space_kept (full bs) small n k k' h = let gone = go_kept bs small k k' h in search (parts, come_kept) depth 20

  turned_small : {t t' : List ℕ → Does} {k k' : Tried (Unit {0}) → Does}
      → ((bs : List ℕ) → AllSmall bs → Same (t bs) (t' bs))
      → ((r : Tried (Unit {0})) → Same (k r) (k' r))
      → (w : Turn (List ℕ) (Tried (Unit {0})))
      → SmallTurn w
      → Same (by_turn w t k) (by_turn w t' k')
  turned_small l o (again bs) small = l bs small
  turned_small l o (done r) small = o r

  xmit_kept : (n : ℕ) (k k' : Tried (Unit {0}) → Does) → ((r : Tried (Unit {0})) → Same (k r) (k' r))
      → (left : ℕ) (bs : List ℕ) → AllSmall bs
      → Same (rounds left n (xmit reason_of false) bs k) (rounds left n (xmit reason_of false) bs k')
  unfolding rounds
  xmit_kept n k k' h zero bs small = cut_alike
  xmit_kept n k k' h (suc left) bs small =
      capacity_kept n _ _ (λ space. fill_kept space bs small n _ _ (λ f s. space_kept f s n _ _
      (turned_small (λ bs small. xmit_kept n k k' h left bs small) h)))

  -- ---- both modes together

  pub read_kept : (mode : Mode) (offset m : ℕ) (restart stop : Bool) → offset + suc m ≤ L
      → Kept (read_internal reason_of mode offset (suc m) restart stop)
  unfolding read_blocking_internal read_async_internal
  read_kept blocking offset m restart stop most n k k' h =
      rw (eqb-suc-zero m) (bytes_read_kept offset (suc m - 1) restart stop (suc m) 0 (omega arith) n k k' h)
  read_kept async offset m restart stop most n k k' h =
      rw (eqb-suc-zero m) (rounds_kept offset (suc m) restart stop n _ _ most
      (λ r. stop_det_kept r stop n _ _ (λ res. try_kept res n k k' h)) n (suc m) (suc m) (omega arith))

  pub write_kept : (mode : Mode) (bs : List ℕ) → AllSmall bs → Kept (write_internal reason_of mode bs false)
  unfolding write_blocking_internal write_async_internal
  write_kept blocking bs small n k k' h = let bytes = bytes_written_kept (length bs) bs 0 small in search alike
  write_kept async bs small n k k' h =
      xmit_kept n _ _ (λ r. stop_det_kept r false n _ _ (λ res. try_kept res n k k' h)) n bs small
