-- What the run of a call is lent, and what it leaves. Contracts of inner functions cite this.
use Rattle.std.specs.Prelude.{ℕ, Bool, true, Option, Some, None, List, [], ◌≡◌, length, replicate}
use Rattle.std.specs.Borrow.{Bor}
use Rattle.regs.specs.Program.{Outcome}
use Rattle.regs.specs.declared.answers.Reply.{Reply}
use Rattle.slave.specs.declared.SlaveState.{SlaveState}
use Rattle.text_hex.specs.Added.{Room, Added}
use Rattle.text_hex.specs.declared.text.Text.{Text}
use Rattle.replay_calls.specs.Calls.{Listed, listed, replayed, shown, transfer_of, buffer_of, lists_read, has_buffer, outcome_of, outcome_text}
use Rattle.slave.specs.I2cSlave.{listen_call}
use Rattle.replay_calls.specs.declared.form.Form.{Form}
use Rattle.replay_calls.specs.declared.Call.{Call}
use Rattle.replay_calls.specs.declared.Operations.{Operations}
use Rattle.replay_calls.specs.declared.Workspace.{Workspace}

-- the log's words, two for each entry
abbrev pub LOG_WORDS : ℕ
LOG_WORDS = 16384

-- no call prints more bytes: 13 for each entry, 3 and 2 for each byte of a buffer, and 13 for the reply
abbrev pub MOST_TEXT : ℕ
MOST_TEXT = 114704

-- the operations as the definitions take them
abbrev pub listed_of : Operations → Listed
listed_of o = listed o.kinds.now o.lengths.now o.bytes.now o.room

-- the slices that a run is lent have their lengths, and the text has room for the largest answer
pub record Roomy (w : Workspace) : Type 0 where
  pub buffer : length w.buffer.now ≡ 4096
  pub log : length w.log.now ≡ LOG_WORDS
  pub text : Room MOST_TEXT w.text

-- they are the same slices still
pub record SameSpace (before after : Workspace) : Type 0 where
  pub buffer : after.buffer.ghost_name ≡ before.buffer.ghost_name
  pub log : after.log.ghost_name ≡ before.log.ghost_name
  pub out : after.text.out.ghost_name ≡ before.text.out.ghost_name
  pub buffer_length : length after.buffer.now ≡ length before.buffer.now
  pub log_length : length after.log.now ≡ length before.log.now
  pub out_length : length after.text.out.now ≡ length before.text.out.now

-- the buffer that is shown, where there is one, and its length
abbrev pub shown_if : Option (Bor (List ℕ)) → Reply → List ℕ
shown_if None reply = []
shown_if (Some buffer) reply = shown true reply buffer.now

abbrev pub size_if : Option (Bor (List ℕ)) → ℕ
size_if None = 0
size_if (Some buffer) = length buffer.now

-- a call has left the outcome o: its text is added, and the slave's state is the one after it
pub record Runs (buffered : Bool) (o : Outcome SlaveState Reply) (before after : Text) (s : SlaveState) : Type 0 where
  pub text : Added before (outcome_text buffered o) MOST_TEXT after
  pub slave : s ≡ o.state

-- a transfer has left its outcome
abbrev pub Transferred : Form → ℕ → Listed → List ℕ → Text → Text → Type 0
Transferred form address l readings before after =
    Added before (outcome_text (lists_read l.kinds)
    (replayed (transfer_of form address l) readings (buffer_of form l) tt))
    MOST_TEXT after

-- what a listen of n bytes leaves
abbrev pub listened : ℕ → List ℕ → SlaveState → Outcome SlaveState Reply
listened n readings s = replayed (listen_call n) readings (replicate n 0) s

-- any call
abbrev pub RanInto : Call → Listed → List ℕ → SlaveState → Text → Text → SlaveState → Type 0
RanInto c l readings s before after r = Runs (has_buffer c l) (outcome_of c l readings s) before after r
