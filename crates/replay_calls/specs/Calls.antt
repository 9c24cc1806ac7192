-- A call of the replay: what it leaves, by its driver's definition, and what is printed of it.
use Rattle.std.specs.Prelude.{ℕ, ◌+◌, Bool, true, false, not, ◌&&◌, ◌||◌, List, [], ◌∷◌, ◌++◌, eqb, length, replicate, if◌then◌else◌}
use Rattle.regs.specs.Program.{Program, Outcome, outcome, behaviour}
use Rattle.regs.specs.Answers.{number}
use Rattle.regs.specs.declared.answers.Answer.{Answer}
use Rattle.regs.specs.declared.answers.Reply.{Reply}
use Rattle.regs.specs.declared.answers.Reply.TheVariants.{Answered, LogFull, OutOfReadings}
use Rattle.clock_setting.specs.SetConfig.{set_config}
use Rattle.master.specs.Driver.{Driver, reason_of}
use Rattle.master.specs.Operations.{Operation, writes, reads, blocking, async, READ, WRITE, fits, lists}
use Rattle.master.specs.Operations.{Transfer, read, write, write_read, transaction}
use Rattle.master.specs.Operations as Master
use Rattle.master.specs.Transfer.{transfer, within}
use Rattle.master.specs.Coded.{coded}
use Rattle.slave.specs.I2cSlave.{reset_call, listen_call, respond_to_read_call, respond_till_stop_call, respond_and_fill_call}
use Rattle.slave.specs.declared.SlaveState.{SlaveState}
use Rattle.text_hex.specs.Print.{log_text, buffer_text, reply_text}
use Rattle.replay_calls.specs.declared.form.Kind.{Kind}
use Rattle.replay_calls.specs.declared.form.Kind.TheVariants.{Read, Write, WriteRead, Transaction}
use Rattle.replay_calls.specs.declared.form.Mode.{Mode}
use Rattle.replay_calls.specs.declared.form.Mode.TheVariants.{Blocking, Async}
use Rattle.replay_calls.specs.declared.form.Form.{Form}
use Rattle.replay_calls.specs.declared.Call.{Call}
use Rattle.replay_calls.specs.declared.Call.TheVariants.{Clock, Master, Reset, Listen, Respond, Fill, RespondAndFill}

-- a call has at most so many readings, and a log of so many entries
abbrev pub MOST_READINGS : ℕ
MOST_READINGS = 8192

abbrev pub LOG_ENTRIES : ℕ
LOG_ENTRIES = 8192

-- the outcome of a driver's program in the replay
unfoldable pub replayed : {S : Type 0} → Program S Answer Answer → List ℕ → List ℕ → S → Outcome S Reply
replayed p readings buffer s = outcome Answered LogFull OutOfReadings (behaviour p LOG_ENTRIES) LOG_ENTRIES readings buffer s

-- the operations of a call as the master's calls take them: kinds and lengths beside the bytes to
-- write and the number of bytes to read. The bytes of a slave's response are an operation too.
pub record Listed : Type 0 where
  pub kinds : List ℕ
  pub lengths : List ℕ
  pub bytes : List ℕ
  pub room : ℕ

abbrev pub listed : List ℕ → List ℕ → List ℕ → ℕ → Listed
listed ks ls bs n = record { kinds = ks; lengths = ls; bytes = bs; room = n }

unfoldable pub listing : List (Operation ℕ) → Listed
listing [] = listed [] [] [] 0
listing (writes bs ∷ os) =
    let rest = listing os in
    listed (WRITE ∷ rest.kinds) (length bs ∷ rest.lengths) (bs ++ rest.bytes) rest.room
listing (reads n ∷ os) = let rest = listing os in listed (READ ∷ rest.kinds) (n ∷ rest.lengths) rest.bytes (n + rest.room)

abbrev pub mode_of : Mode → Master.Mode
mode_of Blocking = blocking
mode_of Async = async

-- with a packet error code, or without. Number 20 is before all, by the data alone
abbrev pub within_form : Form → ℕ → Bool → Transfer ℕ → Driver Answer
within_form form address limits t =
    within limits (if form.coded then coded reason_of (mode_of form.mode) address t else
    transfer reason_of (mode_of form.mode) address t)

abbrev pub transfer_by : Kind → Form → ℕ → Listed → Driver Answer
transfer_by Read form address l = within_form form address (fits l.room) (read l.room)
transfer_by Write form address l = within_form form address (fits (length l.bytes)) (write l.bytes)
transfer_by WriteRead form address l =
    within_form form address (fits (length l.bytes) && fits l.room) (write_read l.bytes l.room)
transfer_by Transaction form address l =
    within_form form address (lists l.kinds l.lengths (length l.bytes) l.room)
    (transaction (Master.listed l.kinds l.lengths l.bytes))

abbrev pub transfer_of : Form → ℕ → Listed → Driver Answer
transfer_of form address l = transfer_by form.kind form address l

-- the read buffer starts with zeros; a write has none
abbrev pub buffer_by : Kind → Listed → List ℕ
buffer_by Read l = replicate l.room 0
buffer_by Write l = []
buffer_by WriteRead l = replicate l.room 0
buffer_by Transaction l = replicate l.room 0

abbrev pub buffer_of : Form → Listed → List ℕ
buffer_of form l = buffer_by form.kind l

-- the slave's state is kept by the calls of clock and master
abbrev pub keeping : SlaveState → Outcome (Unit {0}) Reply → Outcome SlaveState Reply
keeping s o = record { answer = o.answer; log = o.log; buffer = o.buffer; state = s }

-- what a call leaves: its driver tests the limits of number 20
abbrev pub outcome_of : Call → Listed → List ℕ → SlaveState → Outcome SlaveState Reply
outcome_of (Clock frequency clk) l readings s = keeping s (replayed (set_config frequency clk) readings [] tt)
outcome_of (Master form address) l readings s = keeping s (replayed (transfer_of form address l) readings (buffer_of form l) tt)
outcome_of (Reset address general_call) l readings s = replayed (reset_call address general_call) readings [] s
outcome_of (Listen n) l readings s = replayed (listen_call n) readings (replicate n 0) s
outcome_of Respond l readings s = replayed (respond_to_read_call l.bytes) readings [] s
outcome_of (Fill fill) l readings s = replayed (respond_till_stop_call fill) readings [] s
outcome_of (RespondAndFill fill) l readings s = replayed (respond_and_fill_call l.bytes fill) readings [] s

-- the call lists a read, or listens
abbrev pub lists_read : List ℕ → Bool
lists_read [] = false
lists_read (kind ∷ kinds) = eqb kind READ || lists_read kinds

abbrev pub has_buffer : Call → Listed → Bool
has_buffer (Clock frequency clk) l = false
has_buffer (Master form address) l = lists_read l.kinds
has_buffer (Reset address general_call) l = false
has_buffer (Listen n) l = true
has_buffer Respond l = false
has_buffer (Fill fill) l = false
has_buffer (RespondAndFill fill) l = false

-- the log, the buffer where there is one and the number is not 20, the reply
abbrev pub shown_by : Bool → ℕ → List ℕ → List ℕ
shown_by buffered n buffer = if buffered && not (eqb n 20) then buffer_text buffer else []

abbrev pub shown : Bool → Reply → List ℕ → List ℕ
shown buffered reply buffer = shown_by buffered (number reply) buffer

abbrev pub outcome_text : {S : Type 0} → Bool → Outcome S Reply → List ℕ
outcome_text buffered o = log_text o.log ++ (shown buffered o.answer o.buffer ++ reply_text o.answer)

-- what a call prints, and the slave's state after it
abbrev pub call_text : Call → Listed → List ℕ → SlaveState → List ℕ
call_text c l readings s = outcome_text (has_buffer c l) (outcome_of c l readings s)

abbrev pub slave_after : Call → Listed → List ℕ → SlaveState → SlaveState
slave_after c l readings s = (outcome_of c l readings s).state
