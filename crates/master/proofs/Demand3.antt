-- Demand 3, proved: `same_sequence`, with `sequence_of_call`, `told_by_call` and `code_on_the_bus` (specs/Demand3.antt has
-- the statements). A call that succeeds leaves the log of a plain transfer on the operations that it makes (`AsTransfer`).
use Prim.Native.Nat.{ℕ, zero, suc, ◌+◌, ◌/◌, ◌≤◌, ◌<◌}
use native.Mathlib.Omega.{arith}
use mathlib.Core.Path.{◌≡◌, refl, ap, ap₂, sym, subst, ◌∙◌}
use mathlib.Core.Logic.{◌≢◌}
use mathlib.Core.Bool.{Bool, true, false, not, ◌&&◌}
use mathlib.Core.List.{List, [], ◌∷◌, ◌++◌}
use lib.Dec.{eqb, eqb→eq, ltb}
use lib.ListN.{length}
use borrow.Author.Tests.{ltb-true}
use Rattle.regs.specs.declared.access.Entry.{Entry}
use Rattle.regs.specs.declared.access.Entry.TheVariants.{Read, Write, Marked}
use Rattle.regs.specs.declared.answers.Refusal.TheVariants.{AddressOutOfRange}
use Rattle.regs.specs.declared.answers.Answer.{Answer}
use Rattle.regs.specs.declared.answers.Answer.TheVariants.{Accepted, Heard, Responded, Refused}
use Rattle.regs.specs.declared.answers.Reply.{Reply}
use Rattle.regs.specs.declared.answers.Reply.TheVariants.{Answered, OutOfReadings, LogFull}
use Rattle.regs.specs.Answers.{number}
use Rattle.regs.specs.Registers.{TAR, DATA_CMD, RXFLR, ENABLE}
use Rattle.regs.specs.Fields.{address_field, cmd, level}
use Rattle.regs.specs.Program as P
use Rattle.regs.specs.Program.{exit, when, ends, Outcome, outcome}
use Rattle.std.specs.Prelude.{if◌then◌else◌}
use Rattle.regs.specs.Left.{bytes_read}
use Rattle.regs.specs.Log.{Each, expected, written_to}
use Rattle.regs.proofs.Tests.{by_test}
use Rattle.regs.proofs.RoundTrip.{read_back}
use Rattle.bus.specs.declared.Bus.TheVariants.{Idle}
use Rattle.bus.specs.declared.Sign.{Sign}
use Rattle.crc8.specs.Crc8.{crc8}
use Rattle.crc8.proofs.Laws.{is_byte}
use Rattle.master.specs.Driver.{Driver, setup, reason_of}
use Rattle.master.specs.Operations.{Operation, writes, reads, Transfer, read, write, write_read, transaction}
use Rattle.master.specs.Operations.{Mode, blocking, async, operations_of}
use Rattle.master.specs.Transfer.{blocking_read, blocking_write, blocking_write_read, blocking_transaction}
use Rattle.master.specs.Transfer.{read_async, write_async, write_read_async, transaction_async, transfer}
use Rattle.master.specs.Transfer.{within}
use Rattle.master.specs.Sequence.{joined_to, joined, sequence, told}
use Rattle.master.specs.Calls.{within_limits, arguments, buffer_in, left_by_call}
use Rattle.master.specs.Coded.{message, code_of, with_code, is_right}
use Rattle.master.specs.CodedLaws.{plain_left, longer_form, tested_reply, LongerLeft}
use Rattle.master.specs.Demand3.{Made, address, asked, operations, log_of, made_sequence, NotEmpty}
use Rattle.master.specs.Demand3.{taken_by, taken_in, issued_by, issued_in}
use Rattle.master.specs.Demand3.{Premises, SameSequence, SequenceOfCall, ToldByCall, CodeOnTheBus}
use Rattle.master.proofs.Words.{all_words}
use Rattle.master.proofs.Sequence.{OfBytes, AllHarmless, harmless_unset, words_make_sequence}
use Rattle.master.proofs.Told.{all_told}
use Rattle.master.proofs.Emits.{Does, after, AllPossible, Emits, emits_sound, emits_accepted}
use Rattle.master.proofs.Issue.{read_issues, write_issues, operations_issue}
use Rattle.master.proofs.Accesses.{every_access_legal}
use Rattle.master.proofs.Lent.{transfer_by, program_within, small_operations}
use Rattle.master.proofs.Longer.{not_nil, longer_operations, longer_some, longer_full, longer_small, room_lent}
use Rattle.master.proofs.Message.{code_behind}
use Rattle.master.proofs.AsLonger.{as_longer}

-- the level premise, place by place

pub shifted : (c : Bool) (m n : ℕ) → (if c then suc m else m) + n ≡ m + (if c then suc n else n)
shifted true m n = omega arith
shifted false m n = refl

all_possible : (log : List Entry) (i t : ℕ)
    → ((before after : List Entry) (v : ℕ)
    → log ≡ before ++ (Read RXFLR v ∷ after)
    → level v + (t + taken_in before) ≤ i + issued_in before)
    → AllPossible i t log
all_possible [] i t h = tt
all_possible (Read r v ∷ log) i t h = (
  (λ e. let q : r ≡ RXFLR = eqb→eq r RXFLR e in let f : level v + (t + 0) ≤ i + 0 = h [] log v (rw q) in omega arith),
  all_possible log i (taken_by r t)
      (λ before after u e. rw (shifted (eqb r DATA_CMD) t (taken_in before))
      (h (Read r v ∷ before) after u (ap (λ l. Read r v ∷ l) e))),
)
all_possible (Write r w ∷ log) i t h =
    all_possible log (issued_by r w i) t
    (λ before after u e. rw (shifted (eqb r DATA_CMD && cmd w) i (issued_in before))
    (h (Write r w ∷ before) after u (ap (λ l. Write r w ∷ l) e)))
all_possible (Marked x ∷ log) i t h = all_possible log i t (λ before after u e. h (Marked x ∷ before) after u (ap (λ l. Marked x ∷ l) e))

-- an accepted outcome set the target once, to a 7-bit address, and wrote these words
abbrev Issued : ℕ → List ℕ → Outcome (Unit {0}) Reply → Type 0
Issued a words o = number o.answer ≡ 0 → AllPossible 0 0 o.log
    → (written_to TAR o.log ≡ a ∷ []) × (written_to DATA_CMD o.log ≡ words) × (address_field a ≡ a)
    × (o.answer ≡ Answered Accepted)

module _ (a n : ℕ) (p : Does) (rs b due : List ℕ) (issues : Emits p 0 0 due) where
  set_up_if : (c : Bool) → (c ≡ true → address_field a ≡ a) → (room : ℕ)
      → Issued a due (after (when (not c) (exit (Refused (AddressOutOfRange a))) n
      (λ _. P.writes ENABLE 0 (P.writes TAR (address_field a) (P.writes ENABLE 1 p))))
      room rs b)
  unfolding outcome written_to
  set_up_if false small room good l = absurd (omega arith)
  set_up_if true small zero good l = absurd (omega arith)
  set_up_if true small (suc zero) good l = absurd (omega arith)
  set_up_if true small (suc (suc zero)) good l = absurd (omega arith)
  set_up_if true small (suc (suc (suc room))) good l =
      let s = emits_sound p room rs b 0 0 due issues good l in
      (rw (s.0, small refl), s.1, small refl, emits_accepted p room rs b 0 0 due issues good l)

  set_up : (room : ℕ) → Issued a due (after (setup a n (λ _. p)) room rs b)
  unfolding setup
  set_up room = set_up_if (ltb a 0x80) (λ e. let h : a < 0x80 = ltb-true a 0x80 e in omega arith) room

-- the plain read and write-read set the RESTART flag
abbrev flagged : Transfer ℕ → Bool
flagged (read len) = true
flagged (write bytes) = true
flagged (write_read bytes len) = true
flagged (transaction os) = false

transfer_writes : (mode : Mode) (n a : ℕ) (x : Transfer ℕ) (room : ℕ) (rs b : List ℕ)
    → Each OfBytes (operations_of x)
    → operations_of x ≢ []
    → Issued a (all_words (flagged x) (operations_of x)) (after (transfer reason_of mode a x n ends) room rs b)
unfolding blocking_read blocking_write blocking_write_read blocking_transaction read_async write_async
    write_read_async transaction_async all_words
transfer_writes blocking n a (read len) room rs b bytes some =
    set_up a n _ rs b _ (read_issues blocking 0 len true true [] n (λ _. ends Accepted) (λ j. refl) 0) room
transfer_writes async n a (read len) room rs b bytes some =
    set_up a n _ rs b _ (read_issues async 0 len true true [] n (λ _. ends Accepted) (λ j. refl) 0) room
transfer_writes blocking n a (write bs) room rs b bytes some =
    set_up a n _ rs b _ (write_issues blocking bs bytes.0 true [] n (λ _. ends Accepted) 0 refl) room
transfer_writes async n a (write bs) room rs b bytes some =
    set_up a n _ rs b _ (write_issues async bs bytes.0 true [] n (λ _. ends Accepted) 0 refl) room
transfer_writes blocking n a (write_read bs len) room rs b bytes some =
    set_up a n _ rs b _ (write_issues blocking bs bytes.0 false _ n _ 0
    (read_issues blocking 0 len true true [] n (λ _. ends Accepted) (λ j. refl) 0))
    room
transfer_writes async n a (write_read bs len) room rs b bytes some =
    set_up a n _ rs b _ (write_issues async bs bytes.0 false _ n _ 0
    (read_issues async 0 len true true [] n (λ _. ends Accepted) (λ j. refl) 0))
    room
transfer_writes blocking n a (transaction os) room rs b bytes some =
    set_up a n _ rs b _ (operations_issue blocking n (λ _. ends Accepted) (λ j. refl) os bytes 0 0) room
transfer_writes async n a (transaction []) room rs b bytes some = absurd (some refl)
transfer_writes async n a (transaction (o ∷ os)) room rs b bytes some =
    set_up a n _ rs b _ (operations_issue async n (λ _. ends Accepted) (λ j. refl) (o ∷ os) bytes 0 0) room

harmless : (x : Transfer ℕ) → AllHarmless (flagged x) Idle (operations_of x)
harmless (read len) = (λ a. refl, tt)
harmless (write bs) = (λ a. refl, tt)
harmless (write_read bs len) = (λ a. refl, (λ a. refl, tt))
harmless (transaction os) = harmless_unset Idle os

some_joined_to : (o : Operation ℕ) (os : List (Operation ℕ)) → joined_to o os ≢ []
some_joined_to o [] = not_nil _ _
some_joined_to (writes a) (writes b ∷ os) = not_nil _ _
some_joined_to (writes a) (reads n ∷ os) = not_nil _ _
some_joined_to (reads m) (writes b ∷ os) = not_nil _ _
some_joined_to (reads m) (reads n ∷ os) = not_nil _ _

some_joined : (os : List (Operation ℕ)) → os ≢ [] → joined os ≢ []
unfolding joined
some_joined [] some = some
some_joined (o ∷ os) some = some_joined_to o (joined os)

-- ---- what a call leaves

-- the operations that it makes, by its kind
first_of : (q : Bool) (x y : List (Operation ℕ)) → q ≡ true → (if q then x else y) ≡ x
first_of q x y e = rw e refl

second_of : (q : Bool) (x y : List (Operation ℕ)) → q ≡ false → (if q then x else y) ≡ y
second_of q x y e = rw e refl

plain_operations : (m : Made) → m.call.pec ≡ false → operations m ≡ asked m
plain_operations m plain = second_of m.call.pec _ _ plain

coded_operations : (m : Made) → m.call.pec ≡ true
    → operations m ≡ with_code (code_of (address m) (asked m) (bytes_read (log_of m))) (asked m)
coded_operations m coded = first_of m.call.pec _ _ coded

-- the log that a call left reads back as the entries of its outcome
pub log_is : (m : Made) → log_of m ≡ (left_by_call m.call m.before m.readings).log
log_is m = read_back m.left (every_access_legal m.call m.before m.readings (buffer_in m.call.lent) tt)

-- an accepted call was within its limits, and left what its transfer leaves

within_accepted : (limits : Bool) (p : Driver Answer) (n room : ℕ) (rs b : List ℕ)
    → number (after (within limits p n ends) room rs b).answer ≡ 0
    → (limits ≡ true) × (after (within limits p n ends) room rs b ≡ after (p n ends) room rs b)
unfolding outcome
within_accepted true p n room rs b good = (refl, refl)
within_accepted false p n room rs b good = absurd (omega arith)

-- what a transfer leaves, and what one of a kind does, where m was made
abbrev left_of : (m : Made) → Transfer ℕ → Outcome (Unit {0}) Reply
left_of m x = plain_left m.call.mode (address m) x m.before m.readings (buffer_in m.call.lent)

abbrev left_by : (m : Made) → Bool → Outcome (Unit {0}) Reply
left_by m pec = expected (transfer_by pec m.call.mode (address m) (arguments m.call.lent))
    m.before m.readings (buffer_in m.call.lent) tt

module _ (m : Made) (h : Premises m) where
  accepted : (within_limits m.call.lent ≡ true) × (left_by_call m.call m.before m.readings ≡ left_by m m.call.pec)
  accepted =
      let p = program_within m.call.pec m.call.mode (address m) m.call.lent in
      let g = rw (m.left.reply, p) at h.succeeds in
      rw p (within_accepted (within_limits m.call.lent)
      (transfer_by m.call.pec m.call.mode (address m) (arguments m.call.lent))
      (suc (length m.before / 2)) (length m.before / 2) m.readings (buffer_in m.call.lent) g)

  module _ (pec : Bool) (kind : m.call.pec ≡ pec) where
    left_is : left_by_call m.call m.before m.readings ≡ left_by m pec
    left_is = accepted.1 ∙ ap (left_by m) kind

    left_log : log_of m ≡ (left_by m pec).log
    left_log = log_is m ∙ ap (λ (o : Outcome (Unit {0}) Reply). o.log) left_is

    left_good : number (left_by m pec).answer ≡ 0
    left_good = ap (λ (o : Outcome (Unit {0}) Reply). number o.answer) (sym left_is) ∙ (ap number (sym m.left.reply) ∙ h.succeeds)

  asked_small : Each OfBytes (asked m)
  asked_small = small_operations m.call.lent m.small

-- ---- a call as a plain transfer on the operations that it makes

record AsTransfer (m : Made) : Type 0 where
  x : Transfer ℕ
  log : log_of m ≡ (left_of m x).log
  good : number (left_of m x).answer ≡ 0
  same : operations m ≡ operations_of x
  some : operations_of x ≢ []
  full : Each NotEmpty (operations_of x)
  small : Each OfBytes (operations_of x)

plain_transfer : (m : Made) → Premises m → m.call.pec ≡ false → AsTransfer m
plain_transfer m h plain = record {
  x = arguments m.call.lent;
  log = left_log m h false plain;
  good = left_good m h false plain;
  same = plain_operations m plain;
  some = h.at_least_one;
  full = h.none_empty;
  small = asked_small m h;
}

issued : (m : Made) → Premises m → (t : AsTransfer m)
    → (written_to TAR (left_of m t.x).log ≡ address m ∷ [])
    × (written_to DATA_CMD (left_of m t.x).log ≡ all_words (flagged t.x) (operations_of t.x))
    × (address_field (address m) ≡ address m)
    × ((left_of m t.x).answer ≡ Answered Accepted)
issued m h t =
    let possible = all_possible (log_of m) 0 0 (λ before after v q. omega (arith, h.levels before after v q)) in
    transfer_writes m.call.mode (suc (length m.before / 2)) (address m) t.x (length m.before / 2) m.readings
    (buffer_in m.call.lent) t.small t.some t.good
    (subst (λ (log : List Entry). AllPossible 0 0 log) t.log possible)

sequence_as : (m : Made) → Premises m → (t : AsTransfer m) → made_sequence m ≡ sequence (address m) (joined (operations_of t.x))
sequence_as m h t =
    let w = issued m h t in
    rw (t.log, w.0, w.1, w.2) (words_make_sequence (address m) (flagged t.x) (operations_of t.x)
    t.some t.full t.small (harmless t.x))

-- where its answer is 0, the plain transfer's is, and a code that came is right
tested_zero : (right : Bool) (r : Reply) → number (tested_reply right r) ≡ 0 → number r ≡ 0
tested_zero right (Answered Accepted) e = refl
tested_zero right (Answered (Heard c)) e = e
tested_zero right (Answered (Responded s)) e = e
tested_zero right (Answered (Refused why)) e = e
tested_zero right OutOfReadings e = e
tested_zero right LogFull e = e

right_zero : (right : Bool) → number (tested_reply right (Answered Accepted)) ≡ 0 → right ≡ true
right_zero true e = refl
right_zero false e = absurd (omega arith)

module _ (m : Made) (h : Premises m) (coded : m.call.pec ≡ true) where
  abbrev data_of : Transfer ℕ
  data_of = arguments m.call.lent

  abbrev code : ℕ
  code = code_of (address m) (operations_of data_of) (bytes_read (left_by m true).log)

  longer_left : LongerLeft (address m) (operations_of data_of) (left_by m true) (left_of m (longer_form code data_of))
  longer_left =
      as_longer m.call.mode (address m) data_of m.before m.readings (buffer_in m.call.lent)
      h.none_empty (asked_small m h) (room_lent m.call.lent (accepted m h).0)

  code_small : code < 256
  code_small = is_byte 0 _ (omega arith)

  coded_transfer : AsTransfer m
  coded_transfer = record {
    x = longer_form code data_of;
    log = left_log m h true coded ∙ longer_left.log;
    good = tested_zero (is_right (address m) (operations_of data_of) (bytes_read (left_by m true).log))
        (left_of m (longer_form code data_of)).answer (ap number (sym longer_left.answer) ∙ left_good m h true coded);
    same = coded_operations m coded
        ∙ (ap (λ (log : List Entry). with_code (code_of (address m) (asked m) (bytes_read log)) (asked m)) (left_log m h true coded)
        ∙ sym (longer_operations code data_of));
    some = λ e. longer_some code (operations_of data_of) h.at_least_one (sym (longer_operations code data_of) ∙ e);
    full = subst (λ (os : List (Operation ℕ)). Each NotEmpty os) (sym (longer_operations code data_of))
        (longer_full code (operations_of data_of) h.none_empty);
    small = subst (λ (os : List (Operation ℕ)). Each OfBytes os) (sym (longer_operations code data_of))
        (longer_small code (operations_of data_of) code_small (asked_small m h));
  }

as_transfer : (m : Made) → Premises m → AsTransfer m
as_transfer m h = by_test m.call.pec (coded_transfer m h) (plain_transfer m h)

-- ---- the claims

pub sequence_of_call : SequenceOfCall
sequence_of_call m h =
    let t : AsTransfer m = as_transfer m h in
    sequence_as m h t ∙ ap (λ (os : List (Operation ℕ)). sequence (address m) (joined os)) (sym t.same)

pub told_by_call : ToldByCall
told_by_call m h =
    let t : AsTransfer m = as_transfer m h in
    let s = sequence_of_call m h in
    let back = all_told (address m) (joined (operations m)) (some_joined (operations m) (λ e. t.some (sym t.same ∙ e))) in
    (ap (λ (ss : List Sign). (told ss).address) s ∙ back.0, ap (λ (ss : List Sign). (told ss).operations) s ∙ back.1)

pub same_sequence : SameSequence
same_sequence m n h k = (
  (λ e. let x = told_by_call m h in let y = told_by_call n k in (
    sym x.0 ∙ (ap (λ ss. (told ss).address) e ∙ y.0),
    sym x.1 ∙ (ap (λ ss. (told ss).operations) e ∙ y.1),
  )),
  (λ e. sequence_of_call m h ∙ (ap₂ sequence e.0 e.1 ∙ sym (sequence_of_call n k))),
)

pub code_on_the_bus : CodeOnTheBus
unfolding coded_transfer
code_on_the_bus m coded h =
    let os : List (Operation ℕ) = operations_of (arguments m.call.lent) in
    let longer = longer_left m h coded in
    let answered : (left_of m (coded_transfer m h coded).x).answer ≡ Answered Accepted = (issued m h (coded_transfer m h coded)).3 in
    let z : number (tested_reply (is_right (address m) os (bytes_read (left_by m true).log)) (Answered Accepted)) ≡ 0 =
    ap (λ (r : Reply). number (tested_reply (is_right (address m) os (bytes_read (left_by m true).log)) r)) (sym answered)
    ∙ (ap number (sym longer.answer) ∙ left_good m h true coded) in
    let right : is_right (address m) (asked m) (bytes_read (log_of m)) ≡ true =
    ap (λ (log : List Entry). is_right (address m) os (bytes_read log)) (left_log m h true coded)
    ∙ right_zero (is_right (address m) os (bytes_read (left_by m true).log)) z in
    ap (λ (ss : List Sign). crc8 (message ss (bytes_read (log_of m))))
    (sequence_of_call m h ∙ ap (λ (os : List (Operation ℕ)). sequence (address m) (joined os)) (coded_operations m coded))
    ∙ code_behind (address m) (asked m) (bytes_read (log_of m)) h.at_least_one h.none_empty right
