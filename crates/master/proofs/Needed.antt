-- Demand 3's premises can be met, and none can be left out: the claim without it is refuted by two computed calls.
use Prim.Native.Nat.{ℕ, ◌+◌, ◌*◌, ◌≤◌, ◌<◌}
use native.Mathlib.Omega.{arith}
use mathlib.Core.Path.{◌≡◌, refl}
use mathlib.Core.Logic.{◌≢◌}
use mathlib.Core.Bool.{Bool, false, ◌&&◌}
use mathlib.Core.List.{List, [], ◌∷◌, ◌++◌}
use lib.Dec.{eqb}
use lib.ListN.{length, drop, replicate}
use Rattle.regs.specs.declared.access.Entry.{Entry}
use Rattle.regs.specs.declared.access.Entry.TheVariants.{Read, Write, Marked}
use Rattle.regs.specs.declared.answers.Reply.{Reply}
use Rattle.regs.specs.Answers.{number}
use Rattle.regs.specs.Registers.{DATA_CMD, RXFLR}
use Rattle.regs.specs.Fields.{cmd, level}
use Rattle.regs.specs.Program.{Outcome, outcome, turns, rounds}
use Rattle.regs.specs.Log.{Each, encode, decode, reads_in, written_to}
use Rattle.bus.specs.Bus.{signs}
use Rattle.master.specs.Driver.{setup, tx_fifo_capacity, tx_fifo_full, rx_fifo_len, read_and_clear_abort_reason}
use Rattle.master.specs.Blocking.{read_blocking_bytes, read_blocking_internal, write_blocking_bytes, write_blocking_internal}
use Rattle.master.specs.Async.{wait_stop_det, queue_batch, fetch_bytes, read_async_internal, fill, write_async_internal}
use Rattle.master.specs.Operations.{Mode, blocking, async, READ, WRITE, listed, total, known}
use Rattle.master.specs.Transfer.{each_operation, blocking_read, blocking_write, blocking_write_read}
use Rattle.master.specs.Transfer.{blocking_transaction, read_async, write_async, write_read_async}
use Rattle.master.specs.Transfer.{transaction_async}
use Rattle.master.specs.Sequence.{joined}
use Rattle.master.specs.Calls.{Lent, reads_into, writes_from, writes_then_reads, transacts, Call, bytes_in, left_by_call}
use Rattle.master.specs.Demand3.{Made, asked, operations, log_of, NotEmpty, taken_by, taken_in, issued_by, issued_in}
use Rattle.master.specs.Demand3.{LevelsPossible, Premises, SameIf}
use Rattle.master.proofs.Emits.{AllPossible}
use Rattle.master.proofs.Longer.{not_nil}
use Rattle.master.proofs.Demand3.{shifted, log_is}

-- the lent log, with words of an earlier call in it
abbrev pub old : List ℕ
old = replicate 80 0x210

abbrev pub made_with : Bool → (mode : Mode) (address : ℕ) (lent : Lent) → Each (λ b. b < 256) (bytes_in lent) → List ℕ → Made
made_with pec mode address lent small readings =
    let c : Call = record { mode = mode; address = address; lent = lent; pec = pec } in
    let o : Outcome (Unit {0}) Reply = left_by_call c old readings in
    record {
      call = c;
      readings = readings;
      before = old;
      after = encode o.log ++ drop (length o.log * 2) old;
      ran = record { reply = o.answer; entries = length o.log; used = reads_in o.log };
      left = record { reply = refl; entries = refl; used = refl; log = refl };
      small = small;
    }

abbrev made : (mode : Mode) (address : ℕ) (lent : Lent) → Each (λ b. b < 256) (bytes_in lent) → List ℕ → Made
made = made_with false

-- the levels of a log, place by place and as the premise has them
levels_at : (before after : List Entry) (v i t : ℕ)
    → AllPossible i t (before ++ (Read RXFLR v ∷ after))
    → level v + (t + taken_in before) ≤ i + issued_in before
levels_at [] after v i t l = let f : level v + t ≤ i = l.0 tt in omega arith
levels_at (Read r u ∷ before) after v i t l =
    rw (← shifted (eqb r DATA_CMD) t (taken_in before)) (levels_at before after v i (taken_by r t) l.1)
levels_at (Write r w ∷ before) after v i t l =
    rw (← shifted (eqb r DATA_CMD && cmd w) i (issued_in before)) (levels_at before after v (issued_by r w i) t l)
levels_at (Marked x ∷ before) after v i t l = levels_at before after v i t l

levels_of : (log : List Entry) → AllPossible 0 0 log → LevelsPossible log
levels_of log l before after v e = let f = levels_at before after v 0 0 (rw e at l) in omega arith

pub levels_left : (m : Made) → AllPossible 0 0 (left_by_call m.call m.before m.readings).log → LevelsPossible (log_of m)
levels_left m l = rw (log_is m) (levels_of (left_by_call m.call m.before m.readings).log l)

-- calls

-- an async read of 3 bytes: a round of no words, one of two with a pending poll, one of one
abbrev three_rounds : Made
three_rounds = made async 0x50 (reads_into (0 ∷ 0 ∷ 0 ∷ [])) tt
    (16 ∷ 0 ∷ 0 ∷ 14 ∷ 1 ∷ 0 ∷ 0 ∷ 2 ∷ 0 ∷ 0xAA ∷ 0xBB ∷ 0 ∷ 1 ∷ 0 ∷ 0xCC ∷ 0 ∷ 0x200 ∷ 0 ∷ [])

abbrev written_and_read : Made
written_and_read = made blocking 0x50 (writes_then_reads (0x11 ∷ []) (0 ∷ 0 ∷ [])) (omega arith)
    (0x10 ∷ 0 ∷ 16 ∷ 3 ∷ 0 ∷ 0 ∷ 1 ∷ 0xAA ∷ 0 ∷ 1 ∷ 0xBB ∷ [])

-- one word is queued, and two or three bytes are said to be there
abbrev two_come : Made
two_come = made async 0x50 (reads_into (0 ∷ 0 ∷ [])) tt (15 ∷ 2 ∷ 0 ∷ 0xAA ∷ 0xBB ∷ 0 ∷ 0x200 ∷ 0 ∷ [])

abbrev three_come : Made
three_come = made async 0x50 (reads_into (0 ∷ 0 ∷ 0 ∷ [])) tt (15 ∷ 3 ∷ 0 ∷ 0xAA ∷ 0xBB ∷ 0xCC ∷ 0 ∷ 0x200 ∷ 0 ∷ [])

-- a read alone, and one after an empty write
abbrev read_alone : Made
read_alone = made async 0x50 (transacts (READ ∷ []) (1 ∷ []) [] (0 ∷ [])) tt (0 ∷ 1 ∷ 0 ∷ 0xAA ∷ 0 ∷ 0x200 ∷ 0 ∷ [])

abbrev read_after_nothing : Made
read_after_nothing = made async 0x50 (transacts (WRITE ∷ READ ∷ []) (0 ∷ 1 ∷ []) [] (0 ∷ [])) tt
    (0 ∷ 0 ∷ 1 ∷ 0 ∷ 0xAA ∷ 0 ∷ 0x200 ∷ 0 ∷ [])

-- no operation, at an address
abbrev nothing_at : ℕ → Made
nothing_at address = made blocking address (transacts [] [] [] []) tt []

-- a write of two bytes that is aborted after the first
abbrev cut_short : (second : ℕ) → second < 256 → Made
cut_short second small = made blocking 0x50 (writes_from (0x11 ∷ second ∷ [])) (omega arith) (0x10 ∷ 1 ∷ 0 ∷ 0x200 ∷ 0 ∷ [])

-- what is proved of them
pub record Needed : Type 0 where
  -- the premises can be met
  pub met_async : Premises three_rounds
  pub met_blocking : Premises written_and_read
  -- the claim without one of them is false
  pub succeeds : SameIf (λ m. (asked m ≢ []) × (Each NotEmpty (asked m) × LevelsPossible (log_of m))) → ⊥
  pub at_least_one : SameIf (λ m. (number m.ran.reply ≡ 0) × (Each NotEmpty (asked m) × LevelsPossible (log_of m))) → ⊥
  pub none_empty : SameIf (λ m. (number m.ran.reply ≡ 0) × ((asked m ≢ []) × LevelsPossible (log_of m))) → ⊥
  pub levels : SameIf (λ m. (number m.ran.reply ≡ 0) × ((asked m ≢ []) × Each NotEmpty (asked m))) → ⊥

pub needed : Needed
unfolding outcome turns rounds setup tx_fifo_capacity tx_fifo_full rx_fifo_len read_and_clear_abort_reason
    read_blocking_bytes read_blocking_internal write_blocking_bytes write_blocking_internal wait_stop_det
    queue_batch fetch_bytes
    read_async_internal fill write_async_internal each_operation blocking_read blocking_write blocking_write_read
    blocking_transaction read_async write_async write_read_async transaction_async signs written_to joined
    decode listed total known
needed = record {
  met_async = record {
    succeeds = refl;
    at_least_one = not_nil _ _;
    none_empty = (tt, tt);
    levels = levels_left three_rounds (omega arith);
  };
  met_blocking = record {
    succeeds = refl;
    at_least_one = not_nil _ _;
    none_empty = (tt, (tt, tt));
    levels = levels_left written_and_read (omega arith);
  };
  succeeds = λ claim.
      let c : Made = cut_short 0x22 (omega arith) in
      let d : Made = cut_short 0x33 (omega arith) in
      let e : joined (operations c) ≡ joined (operations d) =
      ((claim c d (not_nil _ _, ((tt, tt), levels_left c (omega arith))) (not_nil _ _, ((tt, tt), levels_left d (omega arith)))).0 refl).1 in
      let q : ◌≡◌ {A = ℕ} 0x22 0x33 = cc in omega arith;
  at_least_one = λ claim.
      let e : ◌≡◌ {A = ℕ} 0x10 0x11 =
      ((claim (nothing_at 0x10) (nothing_at 0x11) (refl, (tt, levels_left (nothing_at 0x10) (omega arith)))
      (refl, (tt, levels_left (nothing_at 0x11) (omega arith)))).0 refl).0 in
      omega arith;
  none_empty = λ claim.
      let e : joined (operations read_alone) ≡ joined (operations read_after_nothing) =
      ((claim read_alone read_after_nothing (refl, (not_nil _ _, levels_left read_alone (omega arith)))
      (refl, (not_nil _ _, levels_left read_after_nothing (omega arith)))).0 refl).1 in
      let q : ◌≡◌ {A = ℕ} 0 1 = cc in omega arith;
  levels = λ claim.
      let e : joined (operations two_come) ≡ joined (operations three_come) =
      ((claim two_come three_come (refl, (not_nil _ _, (tt, tt))) (refl, (not_nil _ _, (tt, tt)))).0 refl).1 in
      let q : ◌≡◌ {A = ℕ} 2 3 = cc in omega arith;
}
