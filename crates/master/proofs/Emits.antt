-- The words that a behaviour writes to DATA_CMD wherever it is accepted and the levels that it reads are possible.
use Prim.Native.Nat.{ℕ, zero, suc, ◌+◌, ◌≤◌}
use native.Mathlib.Omega.{arith}
use mathlib.Core.Path.{◌≡◌, refl, ap₂, sym}
use mathlib.Core.Bool.{Bool, true, false}
use mathlib.Core.List.{List, [], ◌∷◌}
use lib.Dec.{eqb, T}
use lib.ListN.{set}
use Rattle.regs.specs.declared.access.Entry.{Entry}
use Rattle.regs.specs.declared.access.Entry.TheVariants.{Read, Write, Marked}
use Rattle.regs.specs.declared.answers.AbortReason.TheVariants.{NoAcknowledge, ArbitrationLoss, TxNotEmpty, Other, DataNotAcknowledged}
use Rattle.regs.specs.declared.answers.Refusal.{Refusal}
use Rattle.regs.specs.declared.answers.Refusal.TheVariants.{FrequencyTooHigh, FrequencyZero, ClockOutOfRange}
use Rattle.regs.specs.declared.answers.Refusal.TheVariants.{ClockTooFast, ClockTooSlow, AddressOutOfRange}
use Rattle.regs.specs.declared.answers.Refusal.TheVariants.{InvalidReadBufferLength, InvalidWriteBufferLength, Abort}
use Rattle.regs.specs.declared.answers.Refusal.TheVariants.{TxLevelOutOfRange, InvalidResponseBufferLength, PartialWrite}
use Rattle.regs.specs.declared.answers.Refusal.TheVariants.{PartialGeneralCall, SlaveAddressZero, NoPlaceForPending, OverLimits, WrongPacketErrorCode}
use Rattle.regs.specs.declared.answers.Answer.{Answer}
use Rattle.regs.specs.declared.answers.Answer.TheVariants.{Accepted, Heard, Responded, Refused}
use Rattle.regs.specs.declared.answers.Reply.{Reply}
use Rattle.regs.specs.declared.answers.Reply.TheVariants.{Answered, LogFull, OutOfReadings}
use Rattle.regs.specs.Answers.{number}
use Rattle.regs.specs.Registers.{TAR, DATA_CMD, RXFLR}
use Rattle.regs.specs.Fields.{level}
use Rattle.regs.specs.Program.{Behaviour, ends, reads, writes, marks, stores, asks, keeps, cut, Outcome, outcome}
use Rattle.std.specs.Prelude.{if◌then◌else◌}
use Rattle.regs.specs.Log.{written_to}
use Rattle.master.specs.Demand3.{taken_by, issued_by}

-- what the master does, and what it leaves
abbrev pub Does : Type 0
Does = Behaviour (Unit {0}) Answer

abbrev pub after : Does → ℕ → List ℕ → List ℕ → Outcome (Unit {0}) Reply
after p room rs b = outcome Answered LogFull OutOfReadings p room rs b tt

-- a level read from RXFLR is possible: no more bytes than were asked for
abbrev pub Possible : ℕ → ℕ → ℕ → ℕ → Type 0
Possible r v issued taken = T (eqb r RXFLR) → level v + taken ≤ issued

-- and so is every level that a log reads
abbrev pub AllPossible : ℕ → ℕ → List Entry → Type 0
AllPossible issued taken [] = Unit {0}
AllPossible issued taken (Read r v ∷ log) = Possible r v issued taken × AllPossible issued (taken_by r taken) log
AllPossible issued taken (Write r w ∷ log) = AllPossible (issued_by r w issued) taken log
AllPossible issued taken (Marked x ∷ log) = AllPossible issued taken log

-- a word is the next of those that are due
abbrev pub Due : Bool → ℕ → List ℕ → (List ℕ → Type 0) → Type 0
Due false w words P = P words
Due true w [] P = ⊥
Due true w (x ∷ words) P = (x ≡ w) × P words

-- no word is due at the end of what is accepted
abbrev pub Ended : Answer → List ℕ → Type 0
Ended Accepted due = due ≡ []
Ended (Heard command) due = ⊥
Ended (Responded status) due = ⊥
Ended (Refused refusal) due = Unit {0}

-- on every accepted path the behaviour leaves TAR alone and writes the words
-- that are due, where so many read words were issued and bytes taken before
abbrev pub Emits : Does → ℕ → ℕ → List ℕ → Type 0
Emits (ends a) issued taken due = Ended a due
Emits (reads r f) issued taken due = (v : ℕ) → Possible r v issued taken → Emits (f v) issued (taken_by r taken) due
Emits (writes r w p) issued taken due = (eqb r TAR ≡ false) × Due (eqb r DATA_CMD) w due (λ rest. Emits p (issued_by r w issued) taken rest)
Emits (marks x p) issued taken due = Emits p issued taken due
Emits (stores i b p) issued taken due = Emits p issued taken due
Emits (asks f) issued taken due = Emits (f tt) issued taken due
Emits (keeps s p) issued taken due = Emits p issued taken due
Emits cut issued taken due = Unit {0}

-- what a log wrote: TAR not at all, and these words to DATA_CMD
abbrev pub Wrote : List Entry → List ℕ → Type 0
Wrote log due = (written_to TAR log ≡ []) × (written_to DATA_CMD log ≡ due)

due_written : (here : Bool) (w : ℕ) (due words targets : List ℕ) (P : List ℕ → Type 0) {tar : Bool} → tar ≡ false → Due here w due P
    → ((rest : List ℕ) → P rest → (targets ≡ []) × (words ≡ rest))
    → ((if tar then w ∷ targets else targets) ≡ []) × ((if here then w ∷ words else words) ≡ due)
due_written false w due words targets P q d e = rw q (e due d)
due_written true w [] words targets P q d e = absurd d
due_written true w (x ∷ due) words targets P q d e = rw q ((e due d.1).0, ap₂ ◌∷◌ (sym d.0) (e due d.1).1)

-- a refusal has a number
pub numbered : (refusal : Refusal) → number (Answered (Refused refusal)) ≡ 0 → ⊥
numbered FrequencyTooHigh e = omega arith
numbered FrequencyZero e = omega arith
numbered ClockOutOfRange e = omega arith
numbered ClockTooFast e = omega arith
numbered ClockTooSlow e = omega arith
numbered (AddressOutOfRange a) e = omega arith
numbered InvalidReadBufferLength e = omega arith
numbered InvalidWriteBufferLength e = omega arith
numbered (Abort NoAcknowledge) e = omega arith
numbered (Abort ArbitrationLoss) e = omega arith
numbered (Abort (TxNotEmpty n)) e = omega arith
numbered (Abort (Other w)) e = omega arith
numbered (Abort (DataNotAcknowledged w)) e = omega arith
numbered (TxLevelOutOfRange level) e = omega arith
numbered InvalidResponseBufferLength e = omega arith
numbered (PartialWrite n) e = omega arith
numbered (PartialGeneralCall n) e = omega arith
numbered SlaveAddressZero e = omega arith
numbered NoPlaceForPending e = omega arith
numbered OverLimits e = omega arith
numbered WrongPacketErrorCode e = omega arith

pub emits_sound : (p : Does) (room : ℕ) (rs b : List ℕ) (issued taken : ℕ) (due : List ℕ) → Emits p issued taken due
    → number (after p room rs b).answer ≡ 0 → AllPossible issued taken (after p room rs b).log → Wrote (after p room rs b).log due
unfolding outcome written_to
emits_sound (ends Accepted) room rs b i t due e good l = (refl, sym e)
emits_sound (ends (Heard command)) room rs b i t due e good l = absurd e
emits_sound (ends (Responded status)) room rs b i t due e good l = absurd e
emits_sound (ends (Refused refusal)) room rs b i t due e good l = absurd (numbered refusal good)
emits_sound (reads r f) zero rs b i t due e good l = absurd (omega arith)
emits_sound (reads r f) (suc n) [] b i t due e good l = absurd (omega arith)
emits_sound (reads r f) (suc n) (v ∷ rs) b i t due e good l = emits_sound (f v) n rs b i (taken_by r t) due (e v l.0) good l.1
emits_sound (writes r w p) zero rs b i t due e good l = absurd (omega arith)
emits_sound (writes r w p) (suc n) rs b i t due e good l =
    due_written (eqb r DATA_CMD) w due _ _ (λ rest. Emits p (issued_by r w i) t rest) e.0 e.1
    (λ rest h. emits_sound p n rs b (issued_by r w i) t rest h good l)
emits_sound (marks x p) zero rs b i t due e good l = absurd (omega arith)
emits_sound (marks x p) (suc n) rs b i t due e good l = emits_sound p n rs b i t due e good l
emits_sound (stores j x p) n rs b i t due e good l = emits_sound p n rs (set b j x) i t due e good l
emits_sound (asks f) n rs b i t due e good l = emits_sound (f tt) n rs b i t due e good l
emits_sound (keeps s p) n rs b i t due e good l = emits_sound p n rs b i t due e good l
emits_sound cut n rs b i t due e good l = absurd (omega arith)

-- what is due after a word
due_left : {Q : Type 0} (here : Bool) (w : ℕ) (due : List ℕ) (P : List ℕ → Type 0) → Due here w due P → ((rest : List ℕ) → P rest → Q) → Q
due_left false w due P d f = f due d
due_left true w [] P d f = absurd d
due_left true w (x ∷ due) P d f = f due d.1

-- and the answer with number 0 is Accepted
pub emits_accepted : (p : Does) (room : ℕ) (rs b : List ℕ) (issued taken : ℕ) (due : List ℕ) → Emits p issued taken due
    → number (after p room rs b).answer ≡ 0 → AllPossible issued taken (after p room rs b).log
    → (after p room rs b).answer ≡ Answered Accepted
unfolding outcome
emits_accepted (ends Accepted) room rs b i t due e good l = refl
emits_accepted (ends (Heard command)) room rs b i t due e good l = absurd e
emits_accepted (ends (Responded status)) room rs b i t due e good l = absurd e
emits_accepted (ends (Refused refusal)) room rs b i t due e good l = absurd (numbered refusal good)
emits_accepted (reads r f) zero rs b i t due e good l = absurd (omega arith)
emits_accepted (reads r f) (suc n) [] b i t due e good l = absurd (omega arith)
emits_accepted (reads r f) (suc n) (v ∷ rs) b i t due e good l =
    emits_accepted (f v) n rs b i (taken_by r t) due (e v l.0) good l.1
emits_accepted (writes r w p) zero rs b i t due e good l = absurd (omega arith)
emits_accepted (writes r w p) (suc n) rs b i t due e good l =
    due_left (eqb r DATA_CMD) w due (λ rest. Emits p (issued_by r w i) t rest) e.1
    (λ rest h. emits_accepted p n rs b (issued_by r w i) t rest h good l)
emits_accepted (marks x p) zero rs b i t due e good l = absurd (omega arith)
emits_accepted (marks x p) (suc n) rs b i t due e good l = emits_accepted p n rs b i t due e good l
emits_accepted (stores j x p) n rs b i t due e good l = emits_accepted p n rs (set b j x) i t due e good l
emits_accepted (asks f) n rs b i t due e good l = emits_accepted (f tt) n rs b i t due e good l
emits_accepted (keeps s p) n rs b i t due e good l = emits_accepted p n rs b i t due e good l
emits_accepted cut n rs b i t due e good l = absurd (omega arith)
