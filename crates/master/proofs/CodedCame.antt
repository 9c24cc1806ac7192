-- How many bytes an accepted transfer reads that ends in a read: all data and the code. From what the longer transfer
-- spells (Spells.antt), and so of the plain transfer that is one byte longer.
use Prim.Native.Nat.{ℕ, zero, suc, ◌/◌}
use native.Mathlib.Omega.{arith}
use mathlib.Core.Bool.{Bool, true, false, not}
use mathlib.Core.List.{List, [], ◌∷◌}
use mathlib.Core.Path.{◌≡◌, refl, ap, subst, ◌∙◌}
use lib.Dec.{eqb, T}
use lib.ListN.{length, set}
use Rattle.regs.specs.declared.access.Entry.TheVariants.{Read, Write, Marked}
use Rattle.regs.specs.declared.answers.Answer.TheVariants.{Accepted}
use Rattle.regs.specs.declared.answers.Reply.{Reply}
use Rattle.regs.specs.declared.answers.Reply.TheVariants.{Answered, LogFull, OutOfReadings}
use Rattle.regs.specs.Answers.{number}
use Rattle.regs.specs.Registers.{DATA_CMD}
use Rattle.regs.specs.Fields.{command_word, dat}
use Rattle.regs.specs.Left.{bytes_read}
use Rattle.regs.specs.Log.{Each}
use Rattle.regs.specs.Program.{Outcome, outcome, logged}
use Rattle.master.specs.Operations.{Operation, Mode, Transfer, operations_of}
use Rattle.master.specs.Demand3.{NotEmpty}
use Rattle.master.specs.Coded.{room_of, ends_in_read, restarts}
use Rattle.master.specs.CodedLaws.{plain_left, Small, longer_form}
use Rattle.master.proofs.Emits.{Does, after, numbered}
use Rattle.master.proofs.Alike.{Alike, ends_alike, reads_alike, data_alike, writes_alike, code_alike}
use Rattle.master.proofs.Alike.{marks_alike, stores_alike, cut_alike, late}
use Rattle.master.proofs.AsLonger.{part_alike, transfer_alike}
use Rattle.master.proofs.Spells.{data_and_code, nothing, to_come, Spells, refused_spells, accepted_spells, reads_spells}
use Rattle.master.proofs.Spells.{writes_spells, asks_spells, marks_spells, cut_spells, byte_read, code_read, byte_written}
use Rattle.master.proofs.Spells.{code_written, read_over, write_over}
use Rattle.master.proofs.SpellsParts.{spells_longer}
use Rattle.master.proofs.SettlesParts.{fewer_reads, fewer_writes}

-- alike behaviours whose one word is the same leave the same
same_left : {d : Bool} {t u : Does} → Alike 0 d t u → (room : ℕ) (rs b : List ℕ) → after t room rs b ≡ after u room rs b
unfolding outcome
same_left ends_alike room rs b = refl
same_left (reads_alike q l) zero rs b = refl
same_left (reads_alike q l) (suc n) [] b = refl
same_left (reads_alike {r = r} q l) (suc n) (v ∷ rs) b = ap (logged (Read r v)) (same_left (l v) n rs b)
same_left (data_alike l) zero rs b = refl
same_left (data_alike l) (suc n) [] b = refl
same_left (data_alike l) (suc n) (v ∷ rs) b = ap (logged (Read DATA_CMD v)) (same_left (l v) n rs b)
same_left (writes_alike q l) zero rs b = refl
same_left (writes_alike {r = r} {w = w} q l) (suc n) rs b = ap (logged (Write r w)) (same_left l n rs b)
same_left (code_alike l) zero rs b = refl
same_left (code_alike l) (suc n) rs b = ap (logged (Write DATA_CMD (command_word 0 false true false))) (same_left l n rs b)
same_left (marks_alike l) zero rs b = refl
same_left (marks_alike {x = x} l) (suc n) rs b = ap (logged (Marked x)) (same_left l n rs b)
same_left (stores_alike {i = i} {v = v} l) room rs b = same_left l room rs (set b i v)
same_left cut_alike room rs b = refl
same_left (late l) room rs b = same_left l room rs b

-- where nothing is to come any more, no byte is read
none_read : {i : ℕ} {t : Does} → Spells nothing i t → (room : ℕ) (rs b : List ℕ) → bytes_read (after t room rs b).log ≡ []
unfolding outcome
none_read refused_spells room rs b = refl
none_read accepted_spells room rs b = refl
none_read (reads_spells q l) zero rs b = refl
none_read (reads_spells q l) (suc n) [] b = refl
none_read (reads_spells q l) (suc n) (v ∷ rs) b = rw q (none_read (l v) n rs b)
none_read (writes_spells q l) zero rs b = refl
none_read (writes_spells q l) (suc n) rs b = none_read l n rs b
none_read (marks_spells l) zero rs b = refl
none_read (marks_spells l) (suc n) rs b = none_read l n rs b
none_read cut_spells room rs b = refl

-- such an answer is not accepted
full : {P : Type 0} → LogFull ≡ Answered Accepted → P
full e = absurd (subst (λ (r : Reply). T (not (eqb (number r) 0))) e tt)

dry : {P : Type 0} → OutOfReadings ≡ Answered Accepted → P
dry e = absurd (subst (λ (r : Reply). T (not (eqb (number r) 0))) e tt)

abbrev ReadBy : ℕ → Outcome (Unit {0}) Reply → Type 0
ReadBy n o = length (bytes_read o.log) ≡ n

counted : {last i : ℕ} {rest : List (Operation ℕ)} {t : Does} → Spells (data_and_code last rest) i t → ends_in_read rest ≡ true
    → (room : ℕ) (rs b : List ℕ) → (after t room rs b).answer ≡ Answered Accepted
    → ReadBy (suc (room_of rest)) (after t room rs b)
unfolding outcome room_of ends_in_read
counted (refused_spells {why = why}) e room rs b a = absurd (numbered why (ap number a))
counted (reads_spells q l) e zero rs b a = full a
counted (reads_spells q l) e (suc n) [] b a = dry a
counted (reads_spells q l) e (suc n) (v ∷ rs) b a = rw q (counted (l v) e n rs b a)
counted (writes_spells q l) e zero rs b a = full a
counted (writes_spells q l) e (suc n) rs b a = counted l e n rs b a
counted (asks_spells q l) e zero rs b a = full a
counted (asks_spells q l) e (suc n) rs b a = counted l e n rs b a
counted (marks_spells l) e zero rs b a = full a
counted (marks_spells l) e (suc n) rs b a = counted l e n rs b a
counted cut_spells e room rs b a = full a
counted (byte_read p l) e zero rs b a = full a
counted (byte_read p l) e (suc n) [] b a = dry a
counted (byte_read {n = m} {p = j} {os = os} p l) e (suc n) (v ∷ rs) b a =
    omega (arith, counted (l v) (fewer_reads m os ∙ e) n rs (set b j (dat v)) a)
counted (code_read p l) e zero rs b a = full a
counted (code_read p l) e (suc n) [] b a = dry a
counted (code_read {p = j} p l) e (suc n) (v ∷ rs) b a =
    ap (λ (came : List ℕ). suc (length came)) (none_read (l v) n rs (set b j (dat v)))
counted (byte_written p l) e zero rs b a = full a
counted (byte_written {b = x} {bs = bs} {os = os} p l) e (suc n) rs b a = counted l (fewer_writes x bs os ∙ e) n rs b a
counted (code_written l) e room rs b a = absurd (subst (λ (q : Bool). T (not q)) e tt)
counted (read_over l) e room rs b a = omega (arith, counted l e room rs b a)
counted (write_over l) e room rs b a = counted l e room rs b a

whole_counted : (os : List (Operation ℕ)) {t : Does} → Spells (to_come os) 0 t → ends_in_read os ≡ true
    → (room : ℕ) (rs b : List ℕ) → (after t room rs b).answer ≡ Answered Accepted
    → ReadBy (suc (room_of os)) (after t room rs b)
unfolding ends_in_read
whole_counted [] s e room rs b a = absurd (subst (λ (q : Bool). T (not q)) e tt)
whole_counted (o ∷ os) s e room rs b a = counted s e room rs b a

pub all_came : (mode : Mode) (address : ℕ) (t : Transfer ℕ) (log readings buffer : List ℕ)
    → Each NotEmpty (operations_of t)
    → Each Small (operations_of t)
    → ends_in_read (operations_of t) ≡ true
    → (plain_left mode address (longer_form 0 t) log readings buffer).answer ≡ Answered Accepted
    → ReadBy (suc (room_of (operations_of t))) (plain_left mode address (longer_form 0 t) log readings buffer)
all_came mode address t log readings buffer some small last accepted =
    let room : ℕ = length log / 2 in
    let same = same_left (transfer_alike 0 mode address (suc room) t (part_alike 0 mode (suc room) t some small)) room readings buffer in
    subst (ReadBy (suc (room_of (operations_of t)))) same
    (whole_counted (operations_of t) (spells_longer mode (restarts t) address (suc room) (operations_of t) small) last room readings buffer
    (ap (λ (o : Outcome (Unit {0}) Reply). o.answer) same ∙ accepted))
