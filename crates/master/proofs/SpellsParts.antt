-- `spells_longer`: the longer transfer of a coded call spells its operations (Spells.antt), function by function. The parts
-- that neither take nor send a byte are in Calm.antt.
--     Untaken os m c   of a read that os follow, m bytes are still to be taken, the code with them, and c is to come
--     Unsent os bs c   of a write that os follow, bs are still to be sent, 0 for the code with them, and c is to come
use Prim.Native.Nat.{ℕ, zero, suc, ◌+◌, ◌-◌, ◌≤◌, ◌<◌}
use native.Mathlib.Omega.{arith}
use native.Mathlib.Numerals.{add-one}
use mathlib.Core.Bool.{Bool, true, false, ◌&&◌}
use mathlib.Core.List.{List, [], ◌∷◌, ◌++◌}
use mathlib.Core.Path.{◌≡◌, refl}
use lib.Dec.{eqb, ltb, eqb-suc-zero}
use lib.ListN.{length}
use borrow.Author.Tests.{eq-eqb, ltb-true, ltb-false}
use Rattle.regs.specs.declared.answers.AbortReason.{AbortReason}
use Rattle.regs.specs.Registers.{DATA_CMD}
use Rattle.regs.specs.Fields.{dat}
use Rattle.regs.specs.Log.{Each}
use Rattle.regs.specs.Program as P
use Rattle.regs.specs.Program.{Turn, by_turn, rounds, ok, err}
use Rattle.regs.proofs.Tests.{by_test}
use Rattle.master.specs.Driver.{Tried, reason_of}
use Rattle.master.specs.Blocking.{read_blocking_bytes, read_blocking_internal, write_blocking_bytes, write_blocking_internal}
use Rattle.master.specs.Async.{is_empty, fetch_bytes, take_batch, read_round, read_async_internal}
use Rattle.master.specs.Async.{Filled, break_xmit, full, fill, go_on, wait_space, xmit, write_async_internal}
use Rattle.master.specs.Operations.{Operation, writes, reads, READ, WRITE, Mode, blocking, async}
use Rattle.master.specs.Transfer.{read_internal, write_internal}
use Rattle.master.specs.Coded.{with_code, each_coded, longer_transfer}
use Rattle.master.specs.CodedLaws.{Small}
use Rattle.master.proofs.Emits.{Does}
use Rattle.master.proofs.AlikeParts.{no_stop}
use Rattle.master.proofs.AsLonger.{some_left}
use Rattle.master.proofs.Spells.{ToCome, data_and_code, nothing, to_come, Spells, refused_spells, accepted_spells}
use Rattle.master.proofs.Spells.{reads_spells, writes_spells, marks_spells, cut_spells, byte_read, code_read}
use Rattle.master.proofs.Spells.{byte_written, code_written, read_over, write_over}
use Rattle.master.proofs.Calm.{Awaits, setup_calm, capacity_calm, batch_calm, come_calm, parts, finish, aborted, finished}

-- ---- reads

data Untaken : List (Operation ℕ) → ℕ → ToCome → Type 0 where
  code_taken : Untaken [] 0 nothing
  the_code : Untaken [] 1 (data_and_code READ (reads 0 ∷ []))
  and_code : {last m : ℕ} → Untaken [] (suc (suc m)) (data_and_code last (reads (suc m) ∷ []))
  all_taken : {o : Operation ℕ} {os : List (Operation ℕ)} → Untaken (o ∷ os) 0 (data_and_code READ (reads 0 ∷ (o ∷ os)))
  a_byte : {last m : ℕ} {o : Operation ℕ} {os : List (Operation ℕ)}
      → Untaken (o ∷ os) (suc m) (data_and_code last (reads (suc m) ∷ (o ∷ os)))

then_code : (m : ℕ) → Untaken [] (suc m) (data_and_code READ (reads m ∷ []))
then_code zero = the_code
then_code (suc m) = and_code

then_bytes : (m : ℕ) (o : Operation ℕ) (os : List (Operation ℕ)) → Untaken (o ∷ os) m (data_and_code READ (reads m ∷ (o ∷ os)))
then_bytes zero o os = all_taken
then_bytes (suc m) o os = a_byte

-- where nothing is to come, the place is of no matter
anywhere : {i j : ℕ} {t : Does} → Spells nothing i t → Spells nothing j t
anywhere refused_spells = refused_spells
anywhere accepted_spells = accepted_spells
anywhere (reads_spells q h) = reads_spells q (λ v. anywhere (h v))
anywhere (writes_spells q h) = writes_spells q (anywhere h)
anywhere (marks_spells h) = marks_spells (anywhere h)
anywhere cut_spells = cut_spells

-- bytes that are to be taken are to come
awaited : {os : List (Operation ℕ)} {m : ℕ} {c : ToCome} → Untaken os m c → 0 < m → Awaits c
awaited code_taken h = absurd (omega arith)
awaited the_code h = tt
awaited and_code h = tt
awaited all_taken h = absurd (omega arith)
awaited a_byte h = tt

fetched : {os : List (Operation ℕ)} {left i p : ℕ} {c : ToCome} {f : ℕ → Does} → Untaken os (suc left) c → p ≡ i
    → ((c : ToCome) → Untaken os left c → (v : ℕ) → Spells c (suc i) (f v))
    → Spells c i (P.reads DATA_CMD (λ v. P.stores p (dat v) (f v)))
fetched the_code e h = code_read e (λ v. anywhere (h _ code_taken v))
fetched (and_code {m = m}) e h = byte_read e (h _ (then_code m))
fetched (a_byte {m = m} {o = o} {os = os}) e h = byte_read e (h _ (then_bytes m o os))

-- what follows takes up the spelling at the place `end`
module _ (os : List (Operation ℕ)) (n end rest : ℕ) (k : Unit {0} → Does)
    (h : (c : ToCome) → Untaken os rest c → Spells c end (k tt)) where
  batch_spelt : (i m left : ℕ) {c : ToCome} → Untaken os left c → left ≡ m + rest → i + m ≡ end
      → Spells c i (fetch_bytes i m n k)
  unfolding fetch_bytes
  batch_spelt i zero left u e place =
      let same : i ≡ end = omega arith in
      let none : left ≡ rest = omega arith in
      rw same (h _ (rw none at u))
  batch_spelt i (suc m) zero u e place = absurd (omega arith)
  batch_spelt i (suc m) (suc left) u e place =
      fetched u refl (λ c u v. rw add-one (batch_spelt (suc i) m left u (omega arith) (omega arith)))

module _ (os : List (Operation ℕ)) (n end : ℕ) (k : Unit {0} → Does)
    (h : (c : ToCome) → Untaken os 0 c → Spells c end (k tt)) where
  bytes_spelt : (offset lastindex : ℕ) (restart stop : Bool) (i left : ℕ) {c : ToCome} → Untaken os left c
      → offset + i + left ≡ end
      → Spells c (offset + i) (read_blocking_bytes reason_of offset lastindex restart stop i left n k)
  unfolding read_blocking_bytes
  bytes_spelt offset lastindex restart stop i zero u e = let same : offset + i ≡ end = omega arith in rw same (h _ u)
  bytes_spelt offset lastindex restart stop i (suc left) {c} u e =
      let next : offset + (i + 1) ≡ suc (offset + i) = omega arith in
      let more : Awaits c = awaited u (omega arith) in
      let byte = fetched u refl
      (λ c u v. rw next at (bytes_spelt offset lastindex restart stop (i + 1) left {c = c} u (omega arith))) in
      search parts depth 20

-- the rounds of an async read: with so many bytes remaining, the others are taken
module _ (os : List (Operation ℕ)) (offset len : ℕ) (restart stop : Bool) (n : ℕ) (k : Tried (Unit {0}) → Does)
    (ended : (reason : AbortReason) (c : ToCome) (i : ℕ) → Spells c i (k (err reason)))
    (h : (c : ToCome) → Untaken os 0 c → Spells c (offset + len) (k (ok tt))) where
  abbrev from : ℕ → ℕ → ℕ → Does
  from left remaining queue =
      rounds left n (read_round reason_of offset len restart stop) (record { remaining = remaining; remaining_queue = queue }) k

  take_spelt : (left remaining queue : ℕ) → remaining ≤ len
      → ((rest queue : ℕ) (c : ToCome) → rest ≤ len → Untaken os rest c
      → Spells c (offset + (len - rest)) (from left rest queue))
      → (c : ToCome) → Untaken os remaining c
      → (batch : ℕ) (res : Tried ℕ) → Spells c (offset + (len - remaining))
      (take_batch offset len remaining (queue - batch) res n
      (λ t. by_turn t (λ y. rounds left n (read_round reason_of offset len restart stop) y k) k))
  take_spelt left remaining queue fits ih c u batch (err reason) = ended reason c (offset + (len - remaining))
  take_spelt left remaining queue fits ih c u batch (ok rx) =
      batch_spelt os n _ _ _ (λ c u. ih _ _ c (omega arith) u) (offset + (len - remaining)) _ remaining u
      (omega arith) (omega arith)

  rounds_taken : (left remaining queue : ℕ) (c : ToCome) → remaining ≤ len → Untaken os remaining c
      → Spells c (offset + (len - remaining)) (from left remaining queue)
  unfolding rounds
  rounds_taken zero remaining queue c fits u = cut_spells
  rounds_taken (suc left) remaining queue c fits u =
      let taken = take_spelt left remaining queue fits (λ rest queue c fits u. rounds_taken left rest queue c fits u) c u in
      by_test (ltb 0 remaining)
      (λ q. let more : Awaits c = awaited u (ltb-true 0 remaining q) in rw q (search (parts, batch_calm) depth 30))
      (λ q. let none : remaining ≡ 0 = omega (arith, ltb-false 0 remaining q) in
      let place : offset + (len - remaining) ≡ offset + len = omega arith in
      rw (q, place) (h c (rw none at u)))

read_spelt : (mode : Mode) (offset len : ℕ) (restart stop : Bool) (os : List (Operation ℕ)) (n : ℕ) (k : Unit {0} → Does)
    → ((c : ToCome) → Untaken os 0 c → Spells c (offset + suc len) (k tt))
    → (c : ToCome) → Untaken os (suc len) c
    → Spells c offset (read_internal reason_of mode offset (suc len) restart stop n k)
unfolding read_blocking_internal read_async_internal
read_spelt blocking offset len restart stop os n k h c u =
    let start : offset + 0 ≡ offset = omega arith in
    let bytes = rw start at
    (bytes_spelt os n (offset + suc len) k h offset (suc len - 1) restart stop 0 (suc len) u (omega arith)) in
    rw (eqb-suc-zero len) bytes
read_spelt async offset len restart stop os n k h c u =
    let start : offset + (suc len - suc len) ≡ offset = omega arith in
    let taken = rw start at (rounds_taken os offset (suc len) restart stop n (finish stop n k) (aborted stop n k)
    (λ c u. finished stop n k c (offset + suc len) (h c u)) n (suc len) (suc len) c (omega arith) u) in
    rw (eqb-suc-zero len) taken

no_bytes : (mode : Mode) (offset : ℕ) (restart stop : Bool) (n : ℕ) (k : Unit {0} → Does) (c : ToCome)
    → Spells c offset (read_internal reason_of mode offset 0 restart stop n k)
unfolding read_blocking_internal read_async_internal
no_bytes blocking offset restart stop n k c = refused_spells
no_bytes async offset restart stop n k c = refused_spells

-- ---- writes

data Unsent : List (Operation ℕ) → List ℕ → ToCome → Type 0 where
  code_sent : Unsent [] [] nothing
  send_code : Unsent [] (0 ∷ []) (data_and_code WRITE (writes [] ∷ []))
  all_sent : {o : Operation ℕ} {os : List (Operation ℕ)} → Unsent (o ∷ os) [] (data_and_code WRITE (writes [] ∷ (o ∷ os)))
  send_byte : {last b : ℕ} {bs rest : List ℕ} {os : List (Operation ℕ)} → b < 256 → is_empty rest && is_empty os ≡ false
      → Unsent os rest (data_and_code WRITE (writes bs ∷ os))
      → Unsent os (b ∷ rest) (data_and_code last (writes (b ∷ bs) ∷ os))

unsent : (last x : ℕ) (xs : List ℕ) (o : Operation ℕ) (os : List (Operation ℕ)) → Small (writes (x ∷ xs))
    → Unsent (o ∷ os) (x ∷ xs) (data_and_code last (writes (x ∷ xs) ∷ (o ∷ os)))
unsent last x [] o os small = send_byte small.0 refl all_sent
unsent last x (y ∷ ys) o os small = send_byte small.0 refl (unsent WRITE y ys o os small.1)

unsent_code : (last x : ℕ) (xs : List ℕ) → Small (writes (x ∷ xs))
    → Unsent [] (x ∷ (xs ++ 0 ∷ [])) (data_and_code last (writes (x ∷ xs) ∷ []))
unsent_code last x [] small = send_byte small.0 refl send_code
unsent_code last x (y ∷ ys) small = send_byte small.0 refl (unsent_code WRITE y ys small.1)

module _ (i n : ℕ) where
  bytes_sent : {os : List (Operation ℕ)} (len : ℕ) (k : Unit {0} → Does)
      → ((c : ToCome) → Unsent os [] c → Spells c i (k tt))
      → {bs : List ℕ} {c : ToCome} → Unsent os bs c → (j : ℕ) → j + length bs ≡ len
      → Spells c i (write_blocking_bytes reason_of len (is_empty os) j bs n k)
  unfolding write_blocking_bytes
  bytes_sent len k h code_sent j e = h _ code_sent
  bytes_sent len k h send_code j e =
      let last : eqb j (len - 1) ≡ true = eq-eqb j (len - 1) (omega arith) in
      let on = h _ code_sent in
      rw last (search (parts, code_written) depth 20)
  bytes_sent len k h all_sent j e = h _ all_sent
  bytes_sent len k h (send_byte {b = b} {rest = rest} {os = os} small p u) j e =
      let ih = bytes_sent len k h u (j + 1) (omega arith) in
      rw (no_stop len (is_empty os) rest j e p) (search (parts, byte_written) depth 20)

  fill_spelt : {os : List (Operation ℕ)} (k : Filled → Does)
      → ((c : ToCome) → Unsent os [] c → Spells c i (k break_xmit))
      → ((bs : List ℕ) (c : ToCome) → Unsent os bs c → Spells c i (k (full bs)))
      → (space : ℕ) (bs : List ℕ) (c : ToCome) → Unsent os bs c
      → Spells c i (fill (is_empty os) space bs n k)
  unfolding fill
  fill_spelt k ended more zero bs c u = more bs c u
  fill_spelt k ended more (suc space) _ _ code_sent = ended _ code_sent
  fill_spelt k ended more (suc space) _ _ send_code = code_written (fill_spelt k ended more space _ _ code_sent)
  fill_spelt k ended more (suc space) _ _ all_sent = ended _ all_sent
  fill_spelt k ended more (suc space) _ _ (send_byte small p u) = rw p (byte_written small (fill_spelt k ended more space _ _ u))

  space_spelt : (c : ToCome) (bs : List ℕ) (k : Turn (List ℕ) (Tried (Unit {0})) → Does)
      → ((res : Tried (Unit {0})) → Spells c i (k (go_on bs res)))
      → Spells c i (wait_space reason_of (full bs) n k)
  space_spelt c bs k h = search (parts, come_calm) depth 20

module _ (os : List (Operation ℕ)) (i n : ℕ) (k : Tried (Unit {0}) → Does)
    (ended : (reason : AbortReason) (c : ToCome) → Spells c i (k (err reason)))
    (h : (c : ToCome) → Unsent os [] c → Spells c i (k (ok tt))) where
  gone_on : (left : ℕ) (bs : List ℕ) (c : ToCome)
      → Spells c i (rounds left n (xmit reason_of (is_empty os)) bs k)
      → (res : Tried (Unit {0}))
      → Spells c i (by_turn (go_on bs res) (λ y. rounds left n (xmit reason_of (is_empty os)) y k) k)
  gone_on left bs c ih (ok u) = ih
  gone_on left bs c ih (err reason) = ended reason c

  rounds_sent : (left : ℕ) (bs : List ℕ) (c : ToCome) → Unsent os bs c
      → Spells c i (rounds left n (xmit reason_of (is_empty os)) bs k)
  unfolding rounds
  rounds_sent zero bs c u = cut_spells
  rounds_sent (suc left) bs c u = capacity_calm c i n _ (λ space. fill_spelt i n _ h
      (λ bs c u. space_spelt i n c bs (λ t. by_turn t (λ y. rounds left n (xmit reason_of (is_empty os)) y k) k)
      (gone_on left bs c (rounds_sent left bs c u))) space bs c u)

write_spelt : (mode : Mode) (os : List (Operation ℕ)) (x : ℕ) (xs : List ℕ) (i n : ℕ) (k : Unit {0} → Does)
    → ((c : ToCome) → Unsent os [] c → Spells c i (k tt))
    → (c : ToCome) → Unsent os (x ∷ xs) c
    → Spells c i (write_internal reason_of mode (x ∷ xs) (is_empty os) n k)
unfolding write_blocking_internal write_async_internal
write_spelt blocking os x xs i n k h c u =
    rw (eqb-suc-zero (length xs)) (bytes_sent i n (length (x ∷ xs)) k h u 0 (omega arith))
write_spelt async os x xs i n k h c u = rounds_sent os i n (finish (is_empty os) n k)
    (λ reason c. aborted (is_empty os) n k reason c i) (λ c u. finished (is_empty os) n k c i (h c u)) n (x ∷ xs) c u

-- ---- the operations one after the other

then_reads : (o : Operation ℕ) (os : List (Operation ℕ)) (i : ℕ) (t : Does) → Spells (data_and_code READ (o ∷ os)) i t
    → (c : ToCome) → Untaken (o ∷ os) 0 c
    → Spells c i t
then_reads o os i t h _ all_taken = read_over h

then_writes : (o : Operation ℕ) (os : List (Operation ℕ)) (i : ℕ) (t : Does) → Spells (data_and_code WRITE (o ∷ os)) i t
    → (c : ToCome) → Unsent (o ∷ os) [] c
    → Spells c i t
then_writes o os i t h _ all_sent = write_over h

after_code_taken : (i : ℕ) (t : Does) → Spells nothing i t → (c : ToCome) → Untaken [] 0 c → Spells c i t
after_code_taken i t h _ code_taken = h

after_code_sent : (i : ℕ) (t : Does) → Spells nothing i t → (c : ToCome) → Unsent [] [] c → Spells c i t
after_code_sent i t h _ code_sent = h

module _ (mode : Mode) (restart : Bool) (n : ℕ) (k : Unit {0} → Does) (h : (i : ℕ) → Spells nothing i (k tt)) where
  operations_spelt : (os : List (Operation ℕ)) (last offset : ℕ) (o : Operation ℕ) → Each Small (o ∷ os)
      → Spells (data_and_code last (o ∷ os)) offset (each_coded reason_of mode restart offset (with_code 0 (o ∷ os)) n k)
  unfolding each_coded with_code
  operations_spelt [] last offset (writes []) small = refused_spells
  operations_spelt [] last offset (writes (x ∷ xs)) small =
      write_spelt mode [] x _ offset n _ (after_code_sent offset _ (h offset)) _ (unsent_code last x xs small.0)
  operations_spelt [] last offset (reads zero) small = no_bytes mode offset restart true n _ _
  operations_spelt [] last offset (reads (suc m)) small =
      read_spelt mode offset (suc m) restart true [] n _ (after_code_taken _ _ (h _)) _ and_code
  operations_spelt (p ∷ os) last offset (writes []) small = refused_spells
  operations_spelt (p ∷ os) last offset (writes (x ∷ xs)) small =
      rw (some_left 0 p os) (write_spelt mode (p ∷ os) x xs offset n _
      (then_writes p os offset _ (operations_spelt os WRITE offset p small.1)) _ (unsent last x xs p os small.0))
  operations_spelt (p ∷ os) last offset (reads zero) small = no_bytes mode offset restart _ n _ _
  operations_spelt (p ∷ os) last offset (reads (suc m)) small =
      rw (some_left 0 p os) (read_spelt mode offset m restart false (p ∷ os) n _
      (then_reads p os _ _ (operations_spelt os READ (offset + suc m) p small.1)) _ a_byte)

pub spells_longer : (mode : Mode) (restart : Bool) (address n : ℕ) (os : List (Operation ℕ)) → Each Small os
    → Spells (to_come os) 0 (longer_transfer reason_of mode restart address (with_code 0 os) n P.ends)
unfolding longer_transfer each_coded with_code
spells_longer blocking restart address n [] small = setup_calm address nothing 0 n _ (λ _. accepted_spells)
spells_longer async restart address n [] small = accepted_spells
spells_longer blocking restart address n (o ∷ os) small = setup_calm address _ 0 n _
    (λ _. operations_spelt blocking restart n _ (λ i. accepted_spells) os _ 0 o small)
spells_longer async restart address n (o ∷ os) small = rw (some_left 0 o os) (setup_calm address _ 0 n _
    (λ _. operations_spelt async restart n _ (λ i. accepted_spells) os _ 0 o small))
