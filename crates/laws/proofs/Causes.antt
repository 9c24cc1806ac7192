-- A call is turned down before its first access exactly if a row of the table applies: `first_cause`. Where a row applies, the
-- definition ends with its number; where none does, it begins with an access, after which `nothing_touched` lets no such
-- number come.
use Prim.Native.Nat.{ℕ, zero, suc, ◌/◌}
use native.Mathlib.Omega.{arith}
use mathlib.Core.Bool.{Bool, true, false, not, ◌&&◌}
use mathlib.Core.List.{List, [], ◌∷◌}
use mathlib.Core.Path.{◌≡◌, refl}
use lib.Dec.{eqb, ltb, T}
use lib.ListN.{length}
use borrow.Author.Tests.{ne_eqb}
use Rattle.std.specs.Prelude.{is_some}
use Rattle.regs.proofs.Tests.{by_test}
use Rattle.regs.specs.Answers.{number}
use Rattle.regs.specs.Left.{no_access, Untouched}
use Rattle.regs.specs.Program.{Behaviour, ends, reads, writes, marks, stores, asks, keeps, cut, Outcome, outcome, rounds, when}
use Rattle.regs.specs.Program.{exit, return, ◌>>◌, ◌>>=◌}
use Rattle.regs.specs.Watched.{watched_from}
use Rattle.regs.specs.declared.access.Entry.{Entry}
use Rattle.regs.specs.declared.answers.Answer.{Answer}
use Rattle.regs.specs.declared.answers.Answer.TheVariants.{Accepted, Heard, Refused}
use Rattle.regs.specs.declared.answers.Refusal.TheVariants.{NoPlaceForPending}
use Rattle.regs.specs.declared.answers.Reply.{Reply}
use Rattle.regs.specs.declared.answers.Reply.TheVariants.{Answered, LogFull, OutOfReadings}
use Rattle.clock_setting.specs.SetConfig.{set_config}
use Rattle.master.specs.Driver.{setup, reason_of}
use Rattle.master.specs.Operations as Op
use Rattle.master.specs.Operations.{Transfer, Mode, blocking, async, operations_of, fits, lists, listed}
use Rattle.master.specs.Transfer.{within, transfer, each_operation, blocking_read, blocking_write, blocking_write_read}
use Rattle.master.specs.Transfer.{blocking_transaction, read_async, write_async, write_read_async, transaction_async}
use Rattle.master.specs.Coded.{with_code, ends_in_read, coder, each_coded, longer_transfer, coded}
use Rattle.master.specs.Calls as Master
use Rattle.master.specs.Calls.{Lent, reads_into, writes_from, writes_then_reads, transacts}
use Rattle.slave.specs.I2cSlave.{answer, reset, reset_call, listen, listen_call, respond_to_read, respond_to_read_call}
use Rattle.slave.specs.I2cSlave.{respond_till_stop, respond_till_stop_call, respond_and_fill, respond_and_fill_call}
use Rattle.slave.specs.Calls as Slave
use Rattle.slave.specs.Calls.{resets, listens, responds, fills, responds_and_fills}
use Rattle.slave.specs.declared.SlaveState.{SlaveState}
use Rattle.laws.specs.Calls.{clock, master, slave, buffer_in}
use Rattle.laws.specs.Causes.{◌numbered◌, idle, slave_rows, master_rows, rows, first, NumberedBy, FirstCause}
use Rattle.laws.proofs.Left.{nothing_touched}

-- t ends at once, with this number
abbrev Refuses : {S : Type 0} → ℕ → S → Behaviour S Answer → Type 0
Refuses k me (ends a) = number (Answered a) ≡ k
Refuses k me (reads r f) = ⊥
Refuses k me (writes r v t) = ⊥
Refuses k me (marks x t) = ⊥
Refuses k me (stores i v t) = ⊥
Refuses k me (asks f) = Refuses k me (f me)
Refuses k me (keeps s t) = ⊥
Refuses k me cut = ⊥

-- t begins with an access, or ends without one and without a number of no access
abbrev Begins : {S : Type 0} → S → Behaviour S Answer → Type 0
Begins me (ends a) = no_access (Answered a) ≡ false
Begins me (reads r f) = Unit {0}
Begins me (writes r v t) = Unit {0}
Begins me (marks x t) = Unit {0}
Begins me (stores i v t) = ⊥
Begins me (asks f) = Begins me (f me)
Begins me (keeps s t) = ⊥
Begins me cut = Unit {0}

-- by the number of the first row that applies
abbrev OpensAs : {S : Type 0} → ℕ → S → Behaviour S Answer → Type 0
OpensAs zero me t = Begins me t
OpensAs (suc k) me t = Refuses (suc k) me t

-- an entry was logged
late : (r : Reply) {e : Entry} {es : List Entry} → (T (no_access r) → ◌≡◌ {A = List Entry} (e ∷ es) []) → no_access r ≡ false
late r {e} {es} h =
    by_test (no_access r)
    (λ q. let n : ◌≡◌ {A = List Entry} (e ∷ es) [] = h (rw q tt) in let z : ◌≡◌ {A = ℕ} 0 1 = cc in absurd (omega arith))
    (λ q. q)

abbrev left : {S : Type 0} → Behaviour S Answer → ℕ → List ℕ → List ℕ → S → Outcome S Reply
left = outcome Answered LogFull OutOfReadings

-- so does what it leaves
module _ {S : Type 0} where
  begun : (t : Behaviour S Answer) (room : ℕ) (rs b : List ℕ) (me : S) → Begins me t
      → (T (no_access (left t room rs b me).answer)
      → (left t room rs b me).log ≡ [])
      → no_access (left t room rs b me).answer ≡ false
  unfolding outcome
  begun (ends a) room rs b me h u = h
  begun (reads r f) zero rs b me h u = refl
  begun (reads r f) (suc n) [] b me h u = refl
  begun (reads r f) (suc n) (v ∷ rs) b me h u = late (left (f v) n rs b me).answer u
  begun (writes r v t) zero rs b me h u = refl
  begun (writes r v t) (suc n) rs b me h u = late (left t n rs b me).answer u
  begun (marks x t) zero rs b me h u = refl
  begun (marks x t) (suc n) rs b me h u = late (left t n rs b me).answer u
  begun (stores i v t) room rs b me h u = absurd h
  begun (asks f) room rs b me h u = begun (f me) room rs b me h u
  begun (keeps s t) room rs b me h u = absurd h
  begun cut room rs b me h u = refl

  refused : (k : ℕ) (t : Behaviour S Answer) (room : ℕ) (rs b : List ℕ) (me : S) → Refuses k me t
      → number (left t room rs b me).answer ≡ k
  unfolding outcome
  refused k (ends a) room rs b me h = h
  refused k (reads r f) room rs b me h = absurd h
  refused k (writes r v t) room rs b me h = absurd h
  refused k (marks x t) room rs b me h = absurd h
  refused k (stores i v t) room rs b me h = absurd h
  refused k (asks f) room rs b me h = refused k (f me) room rs b me h
  refused k (keeps s t) room rs b me h = absurd h
  refused k cut room rs b me h = absurd h

  number_is : (e : ℕ) (t : Behaviour S Answer) (room : ℕ) (rs b : List ℕ) (me : S) → OpensAs e me t
      → (T (no_access (left t room rs b me).answer)
      → Untouched b me (left t room rs b me))
      → NumberedBy e (left t room rs b me).answer
  number_is zero t room rs b me h u = begun t room rs b me h (λ q. (u q).log)
  number_is (suc k) t room rs b me h u = refused (suc k) t room rs b me h

  asking : (e : ℕ) (f : S → Behaviour S Answer) (me : S) → OpensAs e me (f me) → OpensAs e me (asks f)
  asking zero f me h = h
  asking (suc k) f me h = h

-- ---- how each call opens

clock_opens : (frequency clk n : ℕ) → OpensAs (first (rows (clock frequency clk) tt)) tt (set_config frequency clk n ends)
unfolding set_config
clock_opens frequency clk n =
    by_test (ltb 1000000 frequency) (λ q. rw q refl) (λ q. rw q
    (by_test (eqb frequency 0) (λ q. rw q refl) (λ q. rw q
    (by_test (ltb 1431655765 clk) (λ q. rw q refl) (λ q. rw q tt)))))

setup_opens : (address n : ℕ) (k : Unit {0} → Behaviour (Unit {0}) Answer)
    → OpensAs (first ((not (ltb address 0x80) numbered 6) ∷ [])) tt (setup address n k)
unfolding setup
setup_opens address n k = by_test (ltb address 0x80) (λ q. rw q tt) (λ q. rw q refl)

-- without operations an async transaction makes no access and is accepted, in range or not
idle_opens : (in_range : Bool)
    → OpensAs {S = Unit {0}} (first ((not (idle async []) && not in_range numbered 6) ∷ [])) tt (ends Accepted)
idle_opens true = refl
idle_opens false = refl

transfer_opens : (mode : Mode) (address : ℕ) (x : Transfer ℕ) (n : ℕ)
    → OpensAs (first ((not (idle mode (operations_of x)) && not (ltb address 0x80) numbered 6) ∷ [])) tt
    (transfer reason_of mode address x n ends)
unfolding blocking_read blocking_write blocking_write_read blocking_transaction read_async write_async write_read_async transaction_async
    each_operation
transfer_opens blocking address (Op.read len) n = setup_opens address n _
transfer_opens blocking address (Op.write bs) n = setup_opens address n _
transfer_opens blocking address (Op.write_read bs len) n = setup_opens address n _
transfer_opens blocking address (Op.transaction os) n = setup_opens address n _
transfer_opens async address (Op.read len) n = setup_opens address n _
transfer_opens async address (Op.write bs) n = setup_opens address n _
transfer_opens async address (Op.write_read bs len) n = setup_opens address n _
transfer_opens async address (Op.transaction []) n = idle_opens (ltb address 0x80)
transfer_opens async address (Op.transaction (o ∷ os)) n = setup_opens address n _

within_opens : (limits : Bool) (mode : Mode) (address : ℕ) (x : Transfer ℕ) (n : ℕ)
    → OpensAs (first ((not limits numbered 20) ∷ (not (idle mode (operations_of x)) && not (ltb address 0x80) numbered 6) ∷ []))
    tt (within limits (transfer reason_of mode address x) n ends)
within_opens true mode address x n = transfer_opens mode address x n
within_opens false mode address x n = refl

plain_opens : (mode : Mode) (address : ℕ) (l : Lent) (n : ℕ)
    → OpensAs (first (master_rows mode address l)) tt (Master.program_of mode address l n ends)
plain_opens mode address (reads_into buffer) n = within_opens (fits (length buffer)) mode address (Op.read (length buffer)) n
plain_opens mode address (writes_from bytes) n = within_opens (fits (length bytes)) mode address (Op.write bytes) n
plain_opens mode address (writes_then_reads bytes buffer) n =
    within_opens (fits (length bytes) && fits (length buffer)) mode address (Op.write_read bytes (length buffer)) n
plain_opens mode address (transacts kinds lengths bytes buffer) n =
    within_opens (lists kinds lengths (length bytes) (length buffer)) mode address (Op.transaction (listed kinds lengths bytes)) n

-- with a packet error code

watched_setup : (address : ℕ) (os : List (Op.Operation ℕ)) (n : ℕ) (k : Unit {0} → Behaviour (Unit {0}) Answer)
    → OpensAs (first ((not (ltb address 0x80) numbered 6) ∷ [])) tt (watched_from (coder address os) ends [] (setup address n k))
unfolding setup watched_from
watched_setup address os n k = by_test (ltb address 0x80) (λ q. rw q tt) (λ q. rw q refl)

coded_opens : (mode : Mode) (address : ℕ) (x : Transfer ℕ) (n : ℕ)
    → OpensAs (first ((not (idle mode (operations_of x)) && not (ltb address 0x80) numbered 6) ∷ [])) tt
    (coded reason_of mode address x n ends)
unfolding longer_transfer each_coded with_code ends_in_read watched_from
coded_opens blocking address (Op.read len) n = watched_setup address (operations_of (Op.read len)) n _
coded_opens blocking address (Op.write bs) n = watched_setup address (operations_of (Op.write bs)) n _
coded_opens blocking address (Op.write_read bs len) n = watched_setup address (operations_of (Op.write_read bs len)) n _
coded_opens blocking address (Op.transaction os) n = watched_setup address os n _
coded_opens async address (Op.read len) n = watched_setup address (operations_of (Op.read len)) n _
coded_opens async address (Op.write bs) n = watched_setup address (operations_of (Op.write bs)) n _
coded_opens async address (Op.write_read bs len) n = watched_setup address (operations_of (Op.write_read bs len)) n _
coded_opens async address (Op.transaction []) n = idle_opens (ltb address 0x80)
coded_opens async address (Op.transaction (o ∷ [])) n = watched_setup address (o ∷ []) n _
coded_opens async address (Op.transaction (o ∷ (p ∷ os))) n = watched_setup address (o ∷ (p ∷ os)) n _

coded_within : (limits : Bool) (mode : Mode) (address : ℕ) (x : Transfer ℕ) (n : ℕ)
    → OpensAs (first ((not limits numbered 20) ∷ (not (idle mode (operations_of x)) && not (ltb address 0x80) numbered 6) ∷ []))
    tt (within limits (coded reason_of mode address x) n ends)
coded_within true mode address x n = coded_opens mode address x n
coded_within false mode address x n = refl

master_opens : (pec : Bool) (mode : Mode) (address : ℕ) (l : Lent) (n : ℕ)
    → OpensAs (first (master_rows mode address l)) tt (Master.program_by pec mode address l n ends)
master_opens false mode address l n = plain_opens mode address l n
master_opens true mode address (reads_into buffer) n = coded_within (fits (length buffer)) mode address (Op.read (length buffer)) n
master_opens true mode address (writes_from bytes) n = coded_within (fits (length bytes)) mode address (Op.write bytes) n
master_opens true mode address (writes_then_reads bytes buffer) n =
    coded_within (fits (length bytes) && fits (length buffer)) mode address (Op.write_read bytes (length buffer)) n
master_opens true mode address (transacts kinds lengths bytes buffer) n =
    coded_within (lists kinds lengths (length bytes) (length buffer)) mode address (Op.transaction (listed kinds lengths bytes)) n

listen_opens : (no_place : Bool) (L n : ℕ) (me : SlaveState) → OpensAs (first ((no_place numbered 17) ∷ [])) me
    ((when no_place (exit (Refused NoPlaceForPending)) >> (listen L >>= (λ r. return (answer Heard r)))) n ends)
unfolding listen
listen_opens true L n me = refl
listen_opens false L n me = tt

-- the first poll of a response reads RAW_INTR_STAT
slave_opens : (c : Slave.Call) (me : SlaveState) (n : ℕ) → OpensAs (first (slave_rows c me)) me (Slave.program c (suc n) ends)
unfolding reset_call reset listen_call respond_to_read_call respond_to_read respond_till_stop_call respond_till_stop
    respond_and_fill_call respond_and_fill rounds
slave_opens (resets address general_call) me n = by_test (eqb address 0) (λ q. rw q refl) (λ q. rw q tt)
slave_opens (listens buffer) me n =
    let no_place : Bool = is_some me.pending_byte && eqb (length buffer) 0 in
    by_test (ltb 4096 (length buffer)) (λ q. rw q refl)
    (λ q. rw q (asking (first ((no_place numbered 17) ∷ [])) _ me (listen_opens no_place (length buffer) (suc n) me)))
slave_opens (responds []) me n = refl
slave_opens (responds (b ∷ bs)) me n =
    let some : eqb (suc (length bs)) 0 ≡ false = ne_eqb (suc (length bs)) 0 (λ z. omega arith) in
    by_test (ltb 4096 (suc (length bs))) (λ q. rw q refl) (λ q. rw (q, some) tt)
slave_opens (fills fill) me n = tt
slave_opens (responds_and_fills [] fill) me n = refl
slave_opens (responds_and_fills (b ∷ bs) fill) me n =
    let some : eqb (suc (length bs)) 0 ≡ false = ne_eqb (suc (length bs)) 0 (λ z. omega arith) in
    by_test (ltb 4096 (suc (length bs))) (λ q. rw q refl) (λ q. rw (q, some) tt)

pub first_cause : FirstCause
first_cause (clock frequency clk) log readings me =
    number_is (first (rows (clock frequency clk) me)) _ (length log / 2) readings [] me (clock_opens frequency clk _)
    (nothing_touched (clock frequency clk) log readings me)
first_cause (master c) log readings me =
    number_is (first (rows (master c) me)) _ (length log / 2) readings (buffer_in (master c)) tt
    (master_opens c.pec c.mode c.address c.lent _) (nothing_touched (master c) log readings me)
first_cause (slave c) log readings me =
    number_is (first (rows (slave c) me)) _ (length log / 2) readings (buffer_in (slave c)) me
    (slave_opens c me _) (nothing_touched (slave c) log readings me)
