-- What a behaviour that spells operations and their code (Spells.antt) leaves, as `settles` needs it (Settles.antt).
--     right_behind                a byte that came past the data is tested against the code over the data
--     quiet_log, quiet_buffer     where nothing is to come any more, no access to DATA_CMD follows and no store
--     open_left                   while the code is to come it is not accepted, or an access to DATA_CMD follows
--     pushed                      an entry before an outcome that is settled
--     Held                        what is known of the buffer with so many operations left
use Prim.Native.Nat.{ℕ, zero, suc, ◌+◌, ◌/◌, ◌%◌, ◌^◌, ◌<◌}
use native.Mathlib.Omega.{arith}
use mathlib.Core.Bool.{Bool, true, false, not, ◌&&◌, ◌||◌}
use mathlib.Core.List.{List, [], ◌∷◌, ◌++◌, append-nil}
use mathlib.Core.Path.{◌≡◌, refl, sym, ap, ap₂, ◌∙◌}
use lib.Dec.{eqb}
use lib.ListN.{length, take, drop, set, get_or, length-set, length-drop}
use lib.Seq.{take-append-le, drop-append-le, take_all, take-suc-set, get_or_at}
use Rattle.crc8.specs.Crc8.{crc8}
use Rattle.regs.specs.declared.access.Entry.{Entry}
use Rattle.regs.specs.declared.access.Entry.TheVariants.{Read, Write, Marked}
use Rattle.regs.specs.declared.answers.Answer.TheVariants.{Accepted, Heard, Responded, Refused}
use Rattle.regs.specs.declared.answers.Reply.{Reply}
use Rattle.regs.specs.declared.answers.Reply.TheVariants.{Answered, LogFull, OutOfReadings}
use Rattle.regs.specs.Registers.{DATA_CMD}
use Rattle.regs.specs.Fields.{command_word, cmd, stop, dat}
use Rattle.regs.specs.Left.{bytes_read}
use Rattle.regs.specs.Program.{stores, Outcome, outcome, logged}
use Rattle.std.specs.Prelude.{if◌then◌else◌}
use Rattle.master.specs.Operations.{Operation, writes, reads, READ, WRITE}
use Rattle.master.specs.Coded.{code_of, room_of, ends_in_read, is_right}
use Rattle.master.specs.CodedLaws.{tested_reply}
use Rattle.master.specs.Inner.Message.{NO_KIND, opened, message_from}
use Rattle.master.specs.Inner.Settled.{LastData, none, got, put, data_of, later, last_data, put_here, put_last}
use Rattle.master.specs.Inner.Settled.{settled_by}
use Rattle.master.proofs.Emits.{Does, after}
use Rattle.master.proofs.AlikeLeft.{bytes_append}
use Rattle.master.proofs.MessageFrom.{message_is}
use Rattle.master.proofs.Spells.{data_and_code, nothing, Spells, refused_spells, accepted_spells, reads_spells}
use Rattle.master.proofs.Spells.{writes_spells, asks_spells, marks_spells, cut_spells, byte_read, code_read, byte_written}
use Rattle.master.proofs.Spells.{code_written, read_over, write_over}

-- ---- the code is over the bytes of the message, whatever came after them

message_front : (address last : ℕ) (os : List (Operation ℕ)) (a c : List ℕ) → length a ≡ room_of os
    → message_from address last os (a ++ c) ≡ message_from address last os a
unfolding message_from room_of
message_front address last [] a c e = refl
message_front address last (writes bs ∷ os) a c e =
    ap (λ (l : List ℕ). opened address last WRITE ++ (bs ++ l)) (message_front address WRITE os a c e)
message_front address last (reads n ∷ os) a c e =
    let size : length (drop n a) ≡ room_of os = length-drop n a ∙ omega arith in
    rw (take-append-le n a c (omega arith), drop-append-le n a c (omega arith))
    (ap (λ (l : List ℕ). opened address last READ ++ (take n a ++ l)) (message_front address READ os (drop n a) c size))

code_front : (address : ℕ) (os : List (Operation ℕ)) (a c : List ℕ) → length a ≡ room_of os
    → code_of address os (a ++ c) ≡ code_of address os a
code_front address os a c e =
    ap crc8 (message_is address os (a ++ c) ∙ message_front address NO_KIND os a c e ∙ sym (message_is address os a))

-- a byte that came past the data is the code that is tested
pub right_behind : (address : ℕ) (os : List (Operation ℕ)) (b : List ℕ) (x : ℕ) → length b ≡ room_of os → ends_in_read os ≡ true
    → is_right address os (b ++ x ∷ []) ≡ eqb x (code_of address os b)
right_behind address os b x e last =
    ap (λ (q : Bool). not q || eqb (get_or (b ++ x ∷ []) (room_of os) 0) (code_of address os (b ++ x ∷ []))) last
    ∙ ap₂ eqb (get_or_at b x [] 0 (room_of os) e) (code_front address os b (x ∷ []) e)

-- ---- where nothing is to come any more

pub quiet_log : {i : ℕ} {t : Does} → Spells nothing i t → (room : ℕ) (rs b : List ℕ) → last_data (after t room rs b).log ≡ none
unfolding outcome last_data
quiet_log refused_spells room rs b = refl
quiet_log accepted_spells room rs b = refl
quiet_log (reads_spells q l) zero rs b = refl
quiet_log (reads_spells q l) (suc n) [] b = refl
quiet_log (reads_spells q l) (suc n) (v ∷ rs) b =
    ap₂ later (ap (λ (z : Bool). if z then got v else none) q) (quiet_log (l v) n rs b)
quiet_log (writes_spells q l) zero rs b = refl
quiet_log (writes_spells {w = w} q l) (suc n) rs b =
    ap₂ later (ap (λ (z : Bool). if z then put w else none) q) (quiet_log l n rs b)
quiet_log (marks_spells l) zero rs b = refl
quiet_log (marks_spells l) (suc n) rs b = ap (later none) (quiet_log l n rs b)
quiet_log cut_spells room rs b = refl

pub quiet_buffer : {i : ℕ} {t : Does} → Spells nothing i t → (room : ℕ) (rs b : List ℕ) → (after t room rs b).buffer ≡ b
unfolding outcome
quiet_buffer refused_spells room rs b = refl
quiet_buffer accepted_spells room rs b = refl
quiet_buffer (reads_spells q l) zero rs b = refl
quiet_buffer (reads_spells q l) (suc n) [] b = refl
quiet_buffer (reads_spells q l) (suc n) (v ∷ rs) b = quiet_buffer (l v) n rs b
quiet_buffer (writes_spells q l) zero rs b = refl
quiet_buffer (writes_spells q l) (suc n) rs b = quiet_buffer l n rs b
quiet_buffer (marks_spells l) zero rs b = refl
quiet_buffer (marks_spells l) (suc n) rs b = quiet_buffer l n rs b
quiet_buffer cut_spells room rs b = refl

abbrev pub tested_by : Bool → Outcome (Unit {0}) Reply → Outcome (Unit {0}) Reply
tested_by q o = record { answer = tested_reply q o.answer; log = o.log; buffer = o.buffer; state = o.state }

right_reply : (r : Reply) → tested_reply true r ≡ r
right_reply (Answered Accepted) = refl
right_reply (Answered (Heard c)) = refl
right_reply (Answered (Responded s)) = refl
right_reply (Answered (Refused why)) = refl
right_reply LogFull = refl
right_reply OutOfReadings = refl

abbrev pub with_answer : Outcome (Unit {0}) Reply → Reply → Outcome (Unit {0}) Reply
with_answer o r = record { answer = r; log = o.log; buffer = o.buffer; state = o.state }

pub right_same : (q : Bool) (o : Outcome (Unit {0}) Reply) → q ≡ true → tested_by q o ≡ o
right_same q o e = ap (λ (z : Bool). tested_by z o) e ∙ ap (with_answer o) (right_reply o.answer)

-- an entry that reads no byte
pub unread : (seen : List Entry) (e : Entry) → bytes_read (e ∷ []) ≡ [] → bytes_read (seen ++ e ∷ []) ≡ bytes_read seen
unread seen e h = bytes_append seen (e ∷ []) ∙ ap (λ (l : List ℕ). bytes_read seen ++ l) h ∙ append-nil (bytes_read seen)

pub other_read : (r v : ℕ) → eqb r DATA_CMD ≡ false → bytes_read (Read r v ∷ []) ≡ []
other_read r v q = ap (λ (z : Bool). if z then dat v ∷ [] else []) q

-- ---- while the code is to come

-- P is to hold where no access to DATA_CMD follows
abbrev pub IfNone : LastData → Type 0 → Type 0
IfNone none P = P
IfNone (got v) P = Unit {0}
IfNone (put w) P = Unit {0}

pub always : {P : Type 0} (d : LastData) → P → IfNone d P
always none p = p
always (got v) p = tt
always (put w) p = tt

pub if_none : {P Q : Type 0} (d : LastData) → (P → Q) → IfNone d P → IfNone d Q
if_none none f p = f p
if_none (got v) f p = tt
if_none (put w) f p = tt

-- the answer is not one that a test changes
abbrev pub Open : LastData → Reply → Type 0
Open d r = IfNone d ((q : Bool) → tested_reply q r ≡ r)

later_open : (first d : LastData) (r : Reply) → Open d r → Open (later first d) r
later_open none none r h = h
later_open (got v) none r h = tt
later_open (put w) none r h = tt
later_open first (got v) r h = tt
later_open first (put w) r h = tt

data_open : (v : ℕ) (d : LastData) (r : Reply) → Open (later (got v) d) r × Open (later (put v) d) r
data_open v none r = (tt, tt)
data_open v (got w) r = (tt, tt)
data_open v (put w) r = (tt, tt)

entry_open : (e : Entry) (o : Outcome (Unit {0}) Reply) → Open (last_data o.log) o.answer
    → Open (last_data (e ∷ o.log)) o.answer
unfolding last_data
entry_open e o h = later_open (data_of e) (last_data o.log) o.answer h

got_open : (v : ℕ) (o : Outcome (Unit {0}) Reply) → Open (last_data (Read DATA_CMD v ∷ o.log)) o.answer
unfolding last_data
got_open v o = (data_open v (last_data o.log) o.answer).0

put_open : (w : ℕ) (o : Outcome (Unit {0}) Reply) → Open (last_data (Write DATA_CMD w ∷ o.log)) o.answer
unfolding last_data
put_open w o = (data_open w (last_data o.log) o.answer).1

pub open_left : {last i : ℕ} {rest : List (Operation ℕ)} {t : Does} → Spells (data_and_code last rest) i t
    → (room : ℕ) (rs b : List ℕ)
    → Open (last_data (after t room rs b).log) (after t room rs b).answer
unfolding outcome last_data
open_left refused_spells room rs b = λ q. refl
open_left (reads_spells q l) zero rs b = λ q. refl
open_left (reads_spells q l) (suc n) [] b = λ q. refl
open_left (reads_spells {r = r} {f = f} q l) (suc n) (v ∷ rs) b =
    entry_open (Read r v) (after (f v) n rs b) (open_left (l v) n rs b)
open_left (writes_spells q l) zero rs b = λ q. refl
open_left (writes_spells {r = r} {w = w} {t = t} q l) (suc n) rs b = entry_open (Write r w) (after t n rs b) (open_left l n rs b)
open_left (asks_spells q l) zero rs b = λ q. refl
open_left (asks_spells {w = w} {t = t} q l) (suc n) rs b = put_open w (after t n rs b)
open_left (marks_spells l) zero rs b = λ q. refl
open_left (marks_spells {x = x} {t = t} l) (suc n) rs b = entry_open (Marked x) (after t n rs b) (open_left l n rs b)
open_left cut_spells room rs b = λ q. refl
open_left (byte_read e l) zero rs b = λ q. refl
open_left (byte_read e l) (suc n) [] b = λ q. refl
open_left (byte_read {p = p} {f = f} e l) (suc n) (v ∷ rs) b = got_open v (after (f v) n rs (set b p (dat v)))
open_left (code_read e l) zero rs b = λ q. refl
open_left (code_read e l) (suc n) [] b = λ q. refl
open_left (code_read {p = p} {f = f} e l) (suc n) (v ∷ rs) b = got_open v (after (f v) n rs (set b p (dat v)))
open_left (byte_written e l) zero rs b = λ q. refl
open_left (byte_written {b = x} {t = t} e l) (suc n) rs b = put_open (command_word x false false false) (after t n rs b)
open_left (code_written l) zero rs b = λ q. refl
open_left (code_written {t = t} l) (suc n) rs b = put_open (command_word 0 false true false) (after t n rs b)
open_left (read_over l) room rs b = open_left l room rs b
open_left (write_over l) room rs b = open_left l room rs b

abbrev pub with_log : Outcome (Unit {0}) Reply → List Entry → Outcome (Unit {0}) Reply
with_log o l = record { answer = o.answer; log = l; buffer = o.buffer; state = o.state }

-- an entry before an outcome that is settled
put_pushed : (c : ℕ) (e : Entry) (w : ℕ) (p : Outcome (Unit {0}) Reply) → last_data p.log ≡ put w → (z : Bool)
    → logged e (with_log p (if z then put_last c p.log else p.log))
    ≡ with_log p (if z then put_last c (e ∷ p.log) else e ∷ p.log)
unfolding put_last
put_pushed c e w p q true = ap (with_log p) (ap (λ (d : LastData). put_here c d e p.log (put_last c p.log)) (sym q))
put_pushed c e w p q false = refl

pub pushed : (c : ℕ) (e : Entry) (p : Outcome (Unit {0}) Reply) (d : LastData) → last_data p.log ≡ d
    → IfNone d (settled_by c (data_of e) (logged e p) ≡ logged e p)
    → logged e (settled_by c d p) ≡ settled_by c (later (data_of e) d) (logged e p)
pushed c e p none q h = sym h
pushed c e p (got v) q h = refl
pushed c e p (put w) q h = put_pushed c e w p q (stop w && not (cmd w))

-- words without STOP, and words that ask for a byte, are left as they are
pub not_closing : (c w : ℕ) (o : Outcome (Unit {0}) Reply) → stop w && not (cmd w) ≡ false → settled_by c (put w) o ≡ o
not_closing c w o q = ap (λ (z : Bool). with_log o (if z then put_last c o.log else o.log)) q

pub asking : (s a : Bool) → a ≡ true → s && not a ≡ false
asking true a q = ap not q
asking false a q = refl

pub byte_word : (x : ℕ) → x < 256 → stop (command_word x false false false) && not (cmd (command_word x false false false)) ≡ false
byte_word x small = let e : command_word x false false false / 2 ^ 9 % 2 ≡ 0 = omega arith in rw e

pub fewer_reads : (n : ℕ) (rest : List (Operation ℕ)) → ends_in_read (reads n ∷ rest) ≡ ends_in_read (reads (suc n) ∷ rest)
unfolding ends_in_read
fewer_reads n [] = refl
fewer_reads n (o ∷ rest) = refl

pub fewer_writes : (x : ℕ) (bs : List ℕ) (rest : List (Operation ℕ))
    → ends_in_read (writes bs ∷ rest) ≡ ends_in_read (writes (x ∷ bs) ∷ rest)
unfolding ends_in_read
fewer_writes x bs [] = refl
fewer_writes x bs (o ∷ rest) = refl

-- a store where the watcher has a place, and where it has none
pub with_place : (z : Bool) (i x : ℕ) (t : Does) (room : ℕ) (rs b : List ℕ) → z ≡ true
    → after (if z then stores i x t else t) room rs b ≡ after t room rs (set b i x)
unfolding outcome
with_place z i x t room rs b q = ap (λ (y : Bool). after (if y then stores i x t else t) room rs b) q

pub without_place : (z : Bool) (i x : ℕ) (t : Does) (room : ℕ) (rs b : List ℕ) → z ≡ false
    → after (if z then stores i x t else t) room rs b ≡ after t room rs b
without_place z i x t room rs b q = ap (λ (y : Bool). after (if y then stores i x t else t) room rs b) q

-- with these operations left of os: i bytes were read, and they are the front of the buffer
pub record Held (os rest : List (Operation ℕ)) (i : ℕ) (b : List ℕ) (seen : List Entry) : Type 0 where
  pub size : length b ≡ room_of os
  pub front : take i b ≡ bytes_read seen
  pub left : i + room_of rest ≡ room_of os
  pub last : ends_in_read rest ≡ ends_in_read os

module _ {os : List (Operation ℕ)} {i : ℕ} {b : List ℕ} {seen : List Entry} where
  -- an entry that reads no byte
  pub held_on : {rest : List (Operation ℕ)} (e : Entry) → bytes_read (e ∷ []) ≡ []
      → Held os rest i b seen
      → Held os rest i b (seen ++ e ∷ [])
  held_on e q h = record { size = h.size; front = h.front ∙ sym (unread seen e q); left = h.left; last = h.last }

  -- a byte that is read and stored
  pub held_read : {n p : ℕ} {rest : List (Operation ℕ)} (v : ℕ) → p ≡ i → Held os (reads (suc n) ∷ rest) i b seen
      → Held os (reads n ∷ rest) (suc i) (set b p (dat v)) (seen ++ Read DATA_CMD v ∷ [])
  unfolding room_of
  held_read {n} {p} {rest} v e h =
      let l : i < length b = omega (arith, h.size, h.left) in
      record {
        size = length-set b p (dat v) ∙ h.size;
        front = ap (λ (j : ℕ). take (suc i) (set b j (dat v))) e
            ∙ take-suc-set b i (dat v) l
            ∙ ap (λ (x : List ℕ). x ++ dat v ∷ []) h.front
            ∙ sym (bytes_append seen (Read DATA_CMD v ∷ []));
        left = omega (arith, h.left);
        last = fewer_reads n rest ∙ h.last;
      }

  -- a byte that is written
  pub held_write : {x : ℕ} {bs : List ℕ} {rest : List (Operation ℕ)} (e : Entry) → bytes_read (e ∷ []) ≡ []
      → Held os (writes (x ∷ bs) ∷ rest) i b seen
      → Held os (writes bs ∷ rest) i b (seen ++ e ∷ [])
  unfolding room_of
  held_write {x} {bs} {rest} e q h = record {
    size = h.size;
    front = h.front ∙ sym (unread seen e q);
    left = h.left;
    last = fewer_writes x bs rest ∙ h.last;
  }

  -- an operation is over
  pub read_ended : {o : Operation ℕ} {rest : List (Operation ℕ)} → Held os (reads 0 ∷ (o ∷ rest)) i b seen
      → Held os (o ∷ rest) i b seen
  unfolding room_of ends_in_read
  read_ended h = record { size = h.size; front = h.front; left = omega (arith, h.left); last = h.last }

  pub write_ended : {o : Operation ℕ} {rest : List (Operation ℕ)} → Held os (writes [] ∷ (o ∷ rest)) i b seen
      → Held os (o ∷ rest) i b seen
  unfolding room_of ends_in_read
  write_ended h = record { size = h.size; front = h.front; left = h.left; last = h.last }

  -- where the next byte has its place
  pub before_end : {n p : ℕ} {rest : List (Operation ℕ)} → p ≡ i → Held os (reads (suc n) ∷ rest) i b seen → p < room_of os
  unfolding room_of
  before_end e h = omega (arith, h.left)

  pub read_last : Held os (reads 0 ∷ []) i b seen → ends_in_read os ≡ true
  unfolding ends_in_read
  read_last h = sym h.last

  pub write_last : Held os (writes [] ∷ []) i b seen → false ≡ ends_in_read os
  unfolding ends_in_read
  write_last h = h.last

  pub no_more : Held os (reads 0 ∷ []) i b seen → i ≡ room_of os
  unfolding room_of
  no_more h = omega (arith, h.left)

  pub none_left : Held os (writes [] ∷ []) i b seen → i ≡ room_of os
  unfolding room_of
  none_left h = omega (arith, h.left)

  -- the data are over: all bytes were read
  pub read_all : {rest : List (Operation ℕ)} → Held os rest i b seen → i ≡ room_of os → b ≡ bytes_read seen
  read_all h e = sym (take_all i b (omega (arith, h.size))) ∙ h.front
