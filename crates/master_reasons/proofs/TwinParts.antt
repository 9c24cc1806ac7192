-- The driver's functions with two reasons are twins (Twins.antt): the same accesses, and the reason told of the first word.
use Prim.Native.Nat.{ℕ, zero, suc, ◌+◌, ◌-◌}
use mathlib.Core.Bool.{Bool, true, false, not, ◌&&◌, ◌||◌}
use mathlib.Core.List.{List, [], ◌∷◌}
use mathlib.Core.Path.{◌≡◌, refl, sym, subst}
use lib.Dec.{eqb, ltb}
use lib.ListN.{length}
use borrow.Author.Tests.{eqb-true}
use Rattle.regs.specs.Registers.{INTR_MASK, RAW_INTR_STAT, CLR_TX_ABRT, CLR_STOP_DET}
use Rattle.regs.specs.Fields.{tx_empty, stop_det, set_m_tx_abrt, set_m_stop_det}
use Rattle.regs.specs.Program.{◌>>=◌, ◌>>◌, return, get, modify, skip, when, while, Turn, again}
use Rattle.std.specs.Prelude.{if◌then◌else◌}
use Rattle.regs.specs.Program.{done, rounds, Poll, pending, ready, polled, ok, err}
use Rattle.master.specs.Driver.{Driver, Reasons, Tried, is_err, try, while_turn, setup, tx_fifo_capacity, tx_fifo_full, rx_fifo_len}
use Rattle.master.specs.Driver.{read_and_clear_abort_reason}
use Rattle.master.specs.Blocking.{read_blocking_bytes, read_blocking_internal, write_blocking_bytes, write_blocking_internal}
use Rattle.master.specs.Async.{both, stop_poll, wait_stop_det, Counts, queue_batch, batch_come}
use Rattle.master.specs.Async.{batch_poll, fetch_bytes, take_batch}
use Rattle.master.specs.Async.{read_round, read_async_internal, Filled, break_xmit, full, fill, space_come, space_poll, go_on}
use Rattle.master.specs.Async.{wait_space, xmit, write_async_internal}
use Rattle.master.specs.Operations.{Mode, blocking, async}
use Rattle.master.specs.Transfer.{read_internal, write_internal}
use Rattle.master.proofs.Emits.{Does}
use Rattle.master_reasons.proofs.Twins.{first, Twin, ends_twin, abort_twin, reads_twin, source_twin, writes_twin, marks_twin}
use Rattle.master_reasons.proofs.Twins.{cut_twin, Tells, fine, failed, SameAt, Same, Goes}
use Rattle.master_reasons.proofs.Twins.{TellsP, if_program, when_twin, turns_twin, twins}

-- what `write_blocking_internal` does after an abort and after its last byte
abbrev await_stop : Driver (Unit {0})
await_stop = while RAW_INTR_STAT (λ stat. not (stop_det stat)) skip >> (get CLR_STOP_DET >> skip)

-- what `stop_poll` does with what it read
abbrev stop_after : Tried (Unit {0}) → Tried (Unit {0}) → Driver (Poll (Unit {0}) (Tried (Unit {0})))
stop_after had_abort abort =
    if not (is_err had_abort) && is_err abort
    then return (ready abort)
    else (get RAW_INTR_STAT >>= (λ stat. if stop_det stat then return (ready (ok tt)) else return (pending tt)))

module _ (f g : Reasons) where
  -- ---- parts without a reason

  pub setup_same : (address : ℕ) → Same f g (setup address)
  unfolding setup
  setup_same address = search twins

  capacity_same : Same f g tx_fifo_capacity
  unfolding tx_fifo_capacity
  capacity_same = search twins

  full_same : Same f g tx_fifo_full
  unfolding tx_fifo_full
  full_same = search (twins, capacity_same)

  len_same : Same f g rx_fifo_len
  unfolding rx_fifo_len
  len_same = search twins

  batch_same : (len : ℕ) (restart stop : Bool) (batch queue : ℕ) → Same f g (queue_batch len restart stop batch queue)
  unfolding queue_batch
  batch_same len restart stop zero queue = search twins
  batch_same len restart stop (suc batch) queue = let ih = batch_same len restart stop batch (queue - 1) in search twins

  fetch_same : (at rxbytes : ℕ) → Same f g (fetch_bytes at rxbytes)
  unfolding fetch_bytes
  fetch_same at zero = search twins
  fetch_same at (suc rxbytes) = let ih = fetch_same (at + 1) rxbytes in search twins

  fill_same : (stop : Bool) (space : ℕ) (bytes : List ℕ) → Same f g (fill stop space bytes)
  unfolding fill
  fill_same stop zero bytes = search twins
  fill_same stop (suc space) [] = search twins
  fill_same stop (suc space) (b ∷ bytes) = let ih = fill_same stop space bytes in search twins

  while_turn_same : (p q : Driver (Unit {0})) → SameAt f g 0 p q → (more : Bool)
      → SameAt f g 0 (while_turn p more) (while_turn q more)
  while_turn_same p q h true = search twins
  while_turn_same p q h false = search twins

  -- ---- the word

  cleared : (had v n : ℕ) (k l : Tried (Unit {0}) → Does) (none : Bool)
      → (none ≡ true → Twin f g had (k (ok tt)) (l (ok tt)))
      → (none ≡ false → Twin f g had (k (err (f v))) (l (err (g v))))
      → Twin f g had ((if not none then (get CLR_TX_ABRT >> return (err (f v))) else return (ok tt)) n k)
      ((if not none then (get CLR_TX_ABRT >> return (err (g v))) else return (ok tt)) n l)
  cleared had v n k l true h e = h refl
  cleared had v n k l false h e = reads_twin refl (λ _. e refl)

  -- where a word came before, it stays the first
  abort_again : (w n : ℕ) (k l : Tried (Unit {0}) → Does)
      → eqb w 0 ≡ false
      → Twin f g w (k (ok tt)) (l (ok tt))
      → ((v : ℕ) → Twin f g w (k (err (f v))) (l (err (g v))))
      → Twin f g w (read_and_clear_abort_reason f n k) (read_and_clear_abort_reason g n l)
  unfolding read_and_clear_abort_reason
  abort_again w n k l q h e = source_twin (λ v.
      let stays : w ≡ first w v = rw q refl in
      cleared (first w v) v n k l (eqb v 0)
      (λ z. subst (λ (y : ℕ). Twin f g y (k (ok tt)) (l (ok tt))) stays h)
      (λ z. subst (λ (y : ℕ). Twin f g y (k (err (f v))) (l (err (g v)))) stays (e v)))

  abort_tells : TellsP f g (read_and_clear_abort_reason f) (read_and_clear_abort_reason g)
  unfolding read_and_clear_abort_reason
  abort_tells n k l h = source_twin (λ v. cleared v v n k l (eqb v 0)
      (λ z. subst (λ (y : ℕ). Twin f g y (k (ok tt)) (l (ok tt))) (sym (eqb-true v 0 z)) (h 0 (ok tt) (ok tt) fine))
      (λ z. h v (err (f v)) (err (g v)) (failed z)))

  -- `r?`
  pub try_goes : {B : Type 0} (n : ℕ) (k l : B → Does) → ((b : B) → Twin f g 0 (k b) (l b))
      → Goes f g (λ r. try r n k) (λ r. try r n l)
  try_goes n k l h w (ok a) (ok b) fine = h a
  try_goes n k l h w (err a) (err b) (failed q) = abort_twin q
  try_goes {B = B} n k l h w (ok a) (err b) x'' = elim x'' [ ]
  try_goes {B = B} n k l h w (err a) (ok b) x3 = elim x3 [ ]

  abort_or_on : SameAt f g 0 (λ n k. read_and_clear_abort_reason f n (λ r. try r n k))
      (λ n k. read_and_clear_abort_reason g n (λ r. try r n k))
  abort_or_on n k l h = abort_tells n _ _ (try_goes n k l h)

  -- ---- blocking

  bytes_read_same : (offset lastindex : ℕ) (restart stop : Bool) (i left : ℕ)
      → SameAt f g 0 (read_blocking_bytes f offset lastindex restart stop i left)
      (read_blocking_bytes g offset lastindex restart stop i left)
  unfolding read_blocking_bytes
  bytes_read_same offset lastindex restart stop i zero = search twins
  bytes_read_same offset lastindex restart stop i (suc left) =
      let ih = bytes_read_same offset lastindex restart stop (i + 1) left in
      search (twins, full_same, len_same, while_turn_same, abort_or_on) depth 20

  -- what a blocking write does with a result: STOP is waited for after an abort, or where the byte was the last
  byte_goes : (n : ℕ) (closes : Bool) (k l : Unit {0} → Does) → Twin f g 0 (k tt) (l tt)
      → Goes f g (λ r. when (is_err r || closes) await_stop n (λ _. try r n k))
      (λ r. when (is_err r || closes) await_stop n (λ _. try r n l))
  byte_goes n closes k l h w (ok a) (ok b) fine = search twins depth 20
  byte_goes n closes k l h w (err a) (err b) (failed q) =
      turns_twin n n RAW_INTR_STAT (λ stat. not (stop_det stat)) skip _ _ refl (λ n k l h. h tt)
      (λ _. reads_twin refl (λ _. abort_twin q))
  byte_goes n closes k l h w (ok a) (err b) x'' = elim x'' [ ]
  byte_goes n closes k l h w (err a) (ok b) x3 = elim x3 [ ]

  bytes_written_same : (len : ℕ) (stop : Bool) (bytes : List ℕ) (i : ℕ)
      → SameAt f g 0 (write_blocking_bytes f len stop i bytes) (write_blocking_bytes g len stop i bytes)
  unfolding write_blocking_bytes
  bytes_written_same len stop [] i n k l h = h tt
  bytes_written_same len stop (b ∷ bytes) i n k l h =
      let ih : Twin f g 0 (write_blocking_bytes f len stop (i + 1) bytes n k) (write_blocking_bytes g len stop (i + 1) bytes n l) =
      bytes_written_same len stop bytes (i + 1) n k l h in
      writes_twin (turns_twin n n RAW_INTR_STAT (λ stat. not (tx_empty stat)) skip _ _ refl (λ n k l h. h tt)
      (λ _. abort_tells n _ _ (byte_goes n (stop && eqb i (len - 1)) _ _ ih)))

  -- ---- async

  -- `wait_on(f, g)` of a poll whose results tell a word: fine where none came, else failed by it
  waits_tells : {B : Type 0} (p q : Driver (Poll (Unit {0}) (Tried B))) (m : Driver (Unit {0})) (n : ℕ) (k l : Tried B → Does)
      → Same f g m
      → ((i j : Poll (Unit {0}) (Tried B) → Does)
      → Twin f g 0 (i (pending tt)) (j (pending tt))
      → ((w : ℕ) (a b : Tried B) → Tells f g w a b → Twin f g w (i (ready a)) (j (ready b)))
      → Twin f g 0 (p n i) (q n j))
      → Goes f g k l
      → (left : ℕ)
      → Twin f g 0 (rounds left n (λ _. p >>= polled m) tt k) (rounds left n (λ _. q >>= polled m) tt l)
  unfolding rounds
  waits_tells p q m n k l s h o zero = cut_twin
  waits_tells p q m n k l s h o (suc left) =
      h _ _ (s n _ _ (λ _. marks_twin (waits_tells p q m n k l s h o left))) (λ w a b t. o w a b t)

  -- the same, after an abort: its word stays the first
  waits_again : (w : ℕ) (p q : Driver (Poll (Unit {0}) (Tried (Unit {0})))) (m : Driver (Unit {0})) (n : ℕ)
      (k l : Tried (Unit {0}) → Does)
      → SameAt f g w m m
      → ((i j : Poll (Unit {0}) (Tried (Unit {0})) → Does)
      → Twin f g w (i (pending tt)) (j (pending tt))
      → Twin f g w (i (ready (ok tt))) (j (ready (ok tt)))
      → Twin f g w (p n i) (q n j))
      → Twin f g w (k (ok tt)) (l (ok tt))
      → (left : ℕ)
      → Twin f g w (rounds left n (λ _. p >>= polled m) tt k) (rounds left n (λ _. q >>= polled m) tt l)
  unfolding rounds
  waits_again w p q m n k l s h o zero = cut_twin
  waits_again w p q m n k l s h o (suc left) = h _ _ (s n _ _ (λ _. marks_twin (waits_again w p q m n k l s h o left))) o

  stop_mask : (w : ℕ) → SameAt f g w (modify INTR_MASK (λ w. set_m_tx_abrt (set_m_stop_det w)))
      (modify INTR_MASK (λ w. set_m_tx_abrt (set_m_stop_det w)))
  stop_mask w n k l h = reads_twin refl (λ v. writes_twin (h tt))

  -- after RAW_INTR_STAT: STOP, or pending
  stop_seen : (w : ℕ) (i j : Poll (Unit {0}) (Tried (Unit {0})) → Does)
      → Twin f g w (i (pending tt)) (j (pending tt))
      → Twin f g w (i (ready (ok tt))) (j (ready (ok tt)))
      → (q : Bool)
      → (n : ℕ)
      → Twin f g w ((if q then return (ready (ok tt)) else return (pending tt)) n i)
      ((if q then return (ready (ok tt)) else return (pending tt)) n j)
  stop_seen w i j more stop true n = stop
  stop_seen w i j more stop false n = more

  polls_first : (n : ℕ) (i j : Poll (Unit {0}) (Tried (Unit {0})) → Does)
      → Twin f g 0 (i (pending tt)) (j (pending tt))
      → ((w : ℕ) (a b : Tried (Unit {0})) → Tells f g w a b → Twin f g w (i (ready a)) (j (ready b)))
      → Goes f g (λ abort. stop_after (ok tt) abort n i) (λ abort. stop_after (ok tt) abort n j)
  polls_first n i j more come w (ok a) (ok b) fine =
      reads_twin refl (λ stat. stop_seen 0 i j more (come 0 (ok tt) (ok tt) fine) (stop_det stat) n)
  polls_first n i j more come w (err a) (err b) (failed q) = come w (err (f w)) (err (g w)) (failed q)
  polls_first n i j more come w (ok a) (err b) x'' = elim x'' [ ]
  polls_first n i j more come w (err a) (ok b) x3 = elim x3 [ ]

  both_goes : {k l : Tried (Unit {0}) → Does} (w : ℕ) (a b : Tried (Unit {0})) → Tells f g w a b → Goes f g k l
      → Twin f g w (k (both (ok tt) a)) (l (both (ok tt) b))
  both_goes w (ok a) (ok b) fine h = h 0 (ok a) (ok b) fine
  both_goes w (err a) (err b) (failed q) h = h w (err a) (err b) (failed q)
  both_goes {k = k} {l = l} w (ok a) (err b) x4 h = elim x4 [ ]
  both_goes {k = k} {l = l} w (err a) (ok b) x4 h = elim x4 [ ]

  stop_goes : (do_stop : Bool) (n : ℕ) (k l : Tried (Unit {0}) → Does) → Goes f g k l
      → Goes f g (λ r. wait_stop_det f r do_stop n k) (λ r. wait_stop_det g r do_stop n l)
  unfolding wait_stop_det
  stop_goes true n k l h w (ok a) (ok b) fine =
      waits_tells (stop_poll f (ok tt)) (stop_poll g (ok tt)) _ n _ _ (stop_mask 0)
      (λ i j more come. abort_tells n _ _ (polls_first n i j more come))
      (λ w a b t. reads_twin refl (λ _. both_goes w a b t h)) n
  stop_goes false n k l h w (ok a) (ok b) fine = h 0 (ok tt) (ok tt) fine
  stop_goes do_stop n k l h w (err a) (err b) (failed q) =
      waits_again w (stop_poll f (err (f w))) (stop_poll g (err (g w))) _ n _ _ (stop_mask w)
      (λ i j more come.
      let seen : (stat : ℕ) → Twin f g w ((if stop_det stat then return (ready (ok tt)) else return (pending tt)) n i)
      ((if stop_det stat then return (ready (ok tt)) else return (pending tt)) n j) = λ stat. stop_seen w i j more come (stop_det stat) n in
      abort_again w n _ _ q (reads_twin refl seen) (λ v. reads_twin refl seen))
      (reads_twin refl (λ _. h w (err (f w)) (err (g w)) (failed q))) n
  stop_goes false n k l h w (ok a) (err b) x4 = elim x4 [ ]
  stop_goes true n k l h w (ok a) (err b) x5 = elim x5 [ ]
  stop_goes do_stop n k l h w (err a) (ok b) x3 = elim x3 [ ]

  -- a `loop` whose result tells a word
  rounds_tells : (X : Type 0) {B : Type 0} (p q : X → Driver (Turn X (Tried B))) (n : ℕ) (k l : Tried B → Does)
      → ((y : X) (i j : Turn X (Tried B) → Does)
      → ((x : X) → Twin f g 0 (i (again x)) (j (again x)))
      → ((w : ℕ) (a b : Tried B) → Tells f g w a b → Twin f g w (i (done a)) (j (done b)))
      → Twin f g 0 (p y n i) (q y n j))
      → Goes f g k l
      → (left : ℕ) (x : X)
      → Twin f g 0 (rounds left n p x k) (rounds left n q x l)
  unfolding rounds
  rounds_tells X p q n k l h o zero x = cut_twin
  rounds_tells X p q n k l h o (suc left) x = h x _ _ (λ y. rounds_tells X p q n k l h o left y) (λ w a b t. o w a b t)

  -- ---- reads

  module _ (n batch : ℕ) (i j : Poll (Unit {0}) (Tried ℕ) → Does) (more : Twin f g 0 (i (pending tt)) (j (pending tt)))
      (come : (w : ℕ) (a b : Tried ℕ) → Tells f g w a b → Twin f g w (i (ready a)) (j (ready b))) where
    came : (rxfifo : ℕ) (q : Bool) → Twin f g 0 (i (if q then ready (ok rxfifo) else pending tt))
        (j (if q then ready (ok rxfifo) else pending tt))
    came rxfifo true = come 0 (ok rxfifo) (ok rxfifo) fine
    came rxfifo false = more

    batch_goes : (rxfifo : ℕ) → Goes f g (λ abort. i (batch_come batch rxfifo abort)) (λ abort. j (batch_come batch rxfifo abort))
    batch_goes rxfifo w (ok a) (ok b) fine = came rxfifo (not (ltb rxfifo batch))
    batch_goes rxfifo w (err a) (err b) (failed q) = come w (err (f w)) (err (g w)) (failed q)
    batch_goes rxfifo w (ok a) (err b) x'' = elim x'' [ ]
    batch_goes rxfifo w (err a) (ok b) x3 = elim x3 [ ]

    batch_polls : Twin f g 0 (batch_poll f batch n i) (batch_poll g batch n j)
    batch_polls = len_same n _ _ (λ rxfifo. abort_tells n _ _ (batch_goes rxfifo))

  module _ (offset len : ℕ) (restart stop : Bool) (n : ℕ) (i j : Turn Counts (Tried (Unit {0})) → Does)
      (next : (x : Counts) → Twin f g 0 (i (again x)) (j (again x)))
      (last : (w : ℕ) (a b : Tried (Unit {0})) → Tells f g w a b → Twin f g w (i (done a)) (j (done b))) where
    take_goes : (remaining queue : ℕ)
        → Goes f g (λ res. take_batch offset len remaining queue res n i) (λ res. take_batch offset len remaining queue res n j)
    take_goes remaining queue w (ok a) (ok b) fine = fetch_same _ _ n _ _ (λ _. next _)
    take_goes remaining queue w (err a) (err b) (failed q) = last w (err (f w)) (err (g w)) (failed q)
    take_goes remaining queue w (ok a) (err b) x'' = elim x'' [ ]
    take_goes remaining queue w (err a) (ok b) x3 = elim x3 [ ]

    read_rounds : (counts : Counts)
        → Twin f g 0 (read_round f offset len restart stop counts n i) (read_round g offset len restart stop counts n j)
    read_rounds counts =
        if_program _ _ _ _ _ n i j (not (ltb 0 counts.remaining)) (last 0 (ok tt) (ok tt) fine)
        (capacity_same n _ _ (λ space. batch_same len restart stop _ _ n _ _ (λ _.
        waits_tells (batch_poll f _) (batch_poll g _) _ n _ _
        (λ n k l h. writes_twin (reads_twin refl (λ v. writes_twin (h tt))))
        (λ i j more come. batch_polls n _ i j more come)
        (take_goes counts.remaining _) n)))

  pub read_same : (mode : Mode) (offset len : ℕ) (restart stop : Bool)
      → SameAt f g 0 (read_internal f mode offset len restart stop) (read_internal g mode offset len restart stop)
  unfolding read_blocking_internal read_async_internal
  read_same blocking offset len restart stop n k l h =
      when_twin _ _ n _ _ (eqb len 0) (ends_twin refl) (bytes_read_same offset (len - 1) restart stop 0 len n k l h)
  read_same async offset len restart stop n k l h =
      when_twin _ _ n _ _ (eqb len 0) (ends_twin refl)
      (rounds_tells Counts (read_round f offset len restart stop) (read_round g offset len restart stop) n _ _
      (λ counts i j next last. read_rounds offset len restart stop n i j next last counts)
      (stop_goes stop n _ _ (try_goes n k l h)) n _)

  -- ---- writes

  module _ (n : ℕ) (i j : Poll (Unit {0}) (Tried (Unit {0})) → Does) (more : Twin f g 0 (i (pending tt)) (j (pending tt)))
      (come : (w : ℕ) (a b : Tried (Unit {0})) → Tells f g w a b → Twin f g w (i (ready a)) (j (ready b))) where
    space_goes : Goes f g (λ abort. space_come abort n i) (λ abort. space_come abort n j)
    space_goes w (ok a) (ok b) fine =
        full_same n _ _ (λ no_space. stop_seen 0 i j more (come 0 (ok tt) (ok tt) fine) (not no_space) n)
    space_goes w (err a) (err b) (failed q) = come w (err (f w)) (err (g w)) (failed q)
    space_goes w (ok a) (err b) x'' = elim x'' [ ]
    space_goes w (err a) (ok b) x3 = elim x3 [ ]

  module _ (n : ℕ) (i j : Turn (List ℕ) (Tried (Unit {0})) → Does)
      (next : (x : List ℕ) → Twin f g 0 (i (again x)) (j (again x)))
      (last : (w : ℕ) (a b : Tried (Unit {0})) → Tells f g w a b → Twin f g w (i (done a)) (j (done b))) where
    on_goes : (bytes : List ℕ) → Goes f g (λ res. i (go_on bytes res)) (λ res. j (go_on bytes res))
    on_goes bytes w (ok a) (ok b) fine = next bytes
    on_goes bytes w (err a) (err b) (failed q) = last w (err (f w)) (err (g w)) (failed q)
    on_goes bytes w (ok a) (err b) x'' = elim x'' [ ]
    on_goes bytes w (err a) (ok b) x3 = elim x3 [ ]

    space_waits : (filled : Filled) → Twin f g 0 (wait_space f filled n i) (wait_space g filled n j)
    space_waits break_xmit = last 0 (ok tt) (ok tt) fine
    space_waits (full bytes) =
        waits_tells (space_poll f) (space_poll g) _ n _ _
        (λ n k l h. writes_twin (reads_twin refl (λ v. writes_twin (h tt))))
        (λ i j more come. abort_tells n _ _ (space_goes n i j more come))
        (on_goes bytes) n

    xmits : (stop : Bool) (bytes : List ℕ) → Twin f g 0 (xmit f stop bytes n i) (xmit g stop bytes n j)
    xmits stop bytes = capacity_same n _ _ (λ space. fill_same stop space bytes n _ _ (λ filled. space_waits filled))

  pub write_same : (mode : Mode) (bytes : List ℕ) (stop : Bool)
      → SameAt f g 0 (write_internal f mode bytes stop) (write_internal g mode bytes stop)
  unfolding write_blocking_internal write_async_internal
  write_same blocking bytes stop n k l h =
      when_twin _ _ n _ _ (eqb (length bytes) 0) (ends_twin refl) (bytes_written_same (length bytes) stop bytes 0 n k l h)
  write_same async bytes stop n k l h =
      rounds_tells (List ℕ) (xmit f stop) (xmit g stop) n _ _ (λ bytes i j next last. xmits n i j next last stop bytes)
      (stop_goes stop n _ _ (try_goes n k l h)) n bytes
