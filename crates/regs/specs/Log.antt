-- How entries stand in the log, and what a call is to leave.
use Rattle.std.specs.Prelude.{ℕ, suc, ◌+◌, ◌*◌, ◌/◌, ◌%◌, List, [], ◌∷◌, ◌++◌, Bool, ◌||◌, ◌≡◌, eqb, T, length, drop, if◌then◌else◌}
use Rattle.regs.specs.declared.access.Entry.{Entry}
use Rattle.regs.specs.declared.access.Entry.TheVariants.{Read, Write, Marked}
use Rattle.regs.specs.Program.{PENDING, BLOCK_RESET, Outcome, outcome, Program, behaviour}
use Rattle.regs.specs.Registers.{legal_read, legal_write}
use Rattle.regs.specs.declared.answers.Answer.{Answer}
use Rattle.regs.specs.declared.answers.Reply.{Reply}
use Rattle.regs.specs.declared.answers.Reply.TheVariants.{Answered, LogFull, OutOfReadings}
use Rattle.regs.specs.declared.access.Ran.{Ran}

-- two words an entry: the kind, 1 for a read, 2 for a write and 3 for a mark, times 256, and the register or the mark; then the value
abbrev pub encode : List Entry → List ℕ
encode [] = []
encode (Read r v ∷ es) = (0x100 + r) ∷ v ∷ encode es
encode (Write r v ∷ es) = (0x200 + r) ∷ v ∷ encode es
encode (Marked x ∷ es) = (0x300 + x) ∷ 0 ∷ encode es

-- the entry that two words stand for; a head of no kind is taken for a mark
abbrev pub entry : ℕ → ℕ → Entry
entry head value =
    if eqb (head / 256) 1 then Read (head % 256) value else (if eqb (head / 256) 2 then Write (head % 256) value else Marked (head % 256))

unfoldable pub decode : List ℕ → List Entry
decode [] = []
decode (head ∷ []) = []
decode (head ∷ value ∷ words) = entry head value ∷ decode words

-- how many of the entries took a reading
abbrev pub reads_in : List Entry → ℕ
reads_in [] = 0
reads_in (Read r v ∷ es) = suc (reads_in es)
reads_in (Write r v ∷ es) = reads_in es
reads_in (Marked x ∷ es) = reads_in es

-- the values that a log writes to a register, in order
unfoldable pub written_to : ℕ → List Entry → List ℕ
written_to r [] = []
written_to r (Read s v ∷ log) = written_to r log
written_to r (Write s v ∷ log) = if eqb s r then v ∷ written_to r log else written_to r log
written_to r (Marked x ∷ log) = written_to r log

-- one of the two marks
abbrev pub legal_mark : ℕ → Bool
legal_mark x = eqb x PENDING || eqb x BLOCK_RESET

-- an access that the table of registers allows, or one of the marks
abbrev pub Legal : Entry → Type 0
Legal (Read r v) = T (legal_read r)
Legal (Write r v) = T (legal_write r)
Legal (Marked x) = T (legal_mark x)

abbrev pub Each : {A : Type 0} → (A → Type 0) → List A → Type 0
Each P [] = Unit {0}
Each P (x ∷ xs) = P x × Each P xs

-- the outcome of a program, with the room that the lent log has
abbrev pub expected : {S : Type 0} → Program S Answer Answer → List ℕ → List ℕ → List ℕ → S → Outcome S Reply
expected p log readings buffer s = outcome Answered LogFull OutOfReadings (behaviour p (length log / 2)) (length log / 2) readings buffer s

-- r and the log after it are those of the outcome o: the entries from the log's front on, and the rest of the log as it was
pub record Leaves {S : Type 0} (o : Outcome S Reply) (before after : List ℕ) (r : Ran) : Type 0 where
  pub reply : r.reply ≡ o.answer
  pub entries : r.entries ≡ length o.log
  pub used : r.used ≡ reads_in o.log
  pub log : after ≡ encode o.log ++ drop (length o.log * 2) before

-- and so is the lent buffer
pub record LeavesBuffer {S : Type 0} (o : Outcome S Reply) (before after b : List ℕ) (r : Ran) : Type 0 where
  pub ran : Leaves o before after r
  pub buffer : b ≡ o.buffer

-- and the driver's state
pub record LeavesState {S : Type 0} (o : Outcome S Reply) (before after : List ℕ) (r : Ran) (s : S) : Type 0 where
  pub ran : Leaves o before after r
  pub state : s ≡ o.state

-- and both
pub record LeavesAll {S : Type 0} (o : Outcome S Reply) (before after b : List ℕ) (r : Ran) (s : S) : Type 0 where
  pub ran : Leaves o before after r
  pub buffer : b ≡ o.buffer
  pub state : s ≡ o.state
