-- Frames in order: what the replay prints of an input. This is the statement.
use Rattle.std.specs.Prelude.{ℕ, ◌+◌, Bool, true, false, Option, Some, None, List, [], ◌∷◌, ◌++◌, ltb, length, if◌then◌else◌}
use Rattle.master.specs.Operations.{Operation, writes, reads}
use Rattle.slave.specs.declared.SlaveState.{SlaveState}
use Rattle.text_hex.specs.Text.{lines}
use Rattle.text_hex.specs.Print.{answer_text}
use Rattle.replay_calls.specs.Calls.{MOST_READINGS, listing, call_text, slave_after}
use Rattle.replay_calls.specs.declared.form.Kind.{Kind}
use Rattle.replay_calls.specs.declared.Call.{Call}
use Rattle.replay_calls.specs.declared.Call.TheVariants.{Clock, Master, Reset, Listen, Respond, Fill, RespondAndFill}
use Rattle.replay_frames.specs.Frame.{Frame, opens, write, read, reading, run, bad, frame_of}
use Rattle.replay_session.specs.declared.Wants.{Wants}
use Rattle.replay_session.specs.declared.Wants.TheVariants.{Nothing, Read, Write, Both, Any}

-- ---- which operations come when

-- a read takes one `11`, a write one `10`, a write-read a `10` then an `11`, a transaction any; no other call takes one
abbrev pub wants_by : Kind → Wants
wants_by Kind.Read = Read
wants_by Kind.Write = Write
wants_by Kind.WriteRead = Both
wants_by Kind.Transaction = Any

abbrev pub wants_of : Call → Wants
wants_of (Clock frequency clk) = Nothing
wants_of (Master form address) = wants_by form.kind
wants_of (Reset address general_call) = Nothing
wants_of (Listen n) = Nothing
wants_of Respond = Nothing
wants_of (Fill fill) = Nothing
wants_of (RespondAndFill fill) = Nothing

-- what is wanted after an operation, if it may come now
abbrev pub read_taken : Wants → Option Wants
read_taken Nothing = None
read_taken Read = Some Nothing
read_taken Write = None
read_taken Both = None
read_taken Any = Some Any

abbrev pub write_taken : Wants → Option Wants
write_taken Nothing = None
write_taken Read = None
write_taken Write = Some Nothing
write_taken Both = Some Read
write_taken Any = Some Any

-- no operation is missing
abbrev pub complete : Wants → Bool
complete Nothing = true
complete Read = false
complete Write = false
complete Both = false
complete Any = true

-- ---- frame by frame

-- what a frame leads to: the session after it and what is printed at it; or it is malformed where it stands
pub data Next (S : Type 0) : Type 0 where
  going : S → List ℕ → Next S
  malformed : Next S

-- between two frames: no call is open, or one with its operations and its readings so far; and the slave's state
pub data Session : Type 0 where
  idle : SlaveState → Session
  within : SlaveState → Call → Wants → List (Operation ℕ) → List ℕ → Session

abbrev pub operation : SlaveState → Call → List (Operation ℕ) → List ℕ → Option Wants → Next Session
operation s c os rs None = malformed
operation s c os rs (Some w) = going (within s c w os rs) []

abbrev pub next : Session → Frame → Next Session
next (idle s) (opens c os) = going (within s c (wants_of c) os []) []
next (idle s) (write bs) = malformed
next (idle s) (read n) = malformed
next (idle s) (reading v) = malformed
next (idle s) run = malformed
next (idle s) bad = malformed
next (within s c w os rs) (opens d ps) = malformed
next (within s c w os rs) (write bs) = operation s c (os ++ (writes bs ∷ [])) rs (write_taken w)
next (within s c w os rs) (read n) = operation s c (os ++ (reads n ∷ [])) rs (read_taken w)
next (within s c w os rs) (reading v) =
    if complete w then
    (if ltb (length rs) MOST_READINGS then going (within s c Nothing os (rs ++ (v ∷ []))) [] else malformed)
    else malformed
next (within s c w os rs) run =
    if complete w then going (idle (slave_after c (listing os) rs s)) (call_text c (listing os) rs s) else malformed
next (within s c w os rs) bad = malformed

abbrev pub is_open : Session → Bool
is_open (idle s) = false
is_open (within s c w os rs) = true

-- ---- line by line

-- number 21 with the number of the line
abbrev pub refusal : ℕ → List ℕ
refusal line = answer_text 21 line

-- lines are counted from 1, up to what the detail's 8 digits can say
abbrev pub line_after : ℕ → ℕ
line_after line = if ltb line 4294967295 then line + 1 else line

-- a malformed frame ends everything
abbrev pub onward : {S : Type 0} → ℕ → Next S → (S → List ℕ) → List ℕ
onward line malformed rest = refusal line
onward line (going s text) rest = text ++ rest s

-- what is printed from a line on, by a step from session to session; the end of the input inside a call is
-- malformed at the line after the last
unfoldable pub printed_from : {S : Type 0} → (S → Frame → Next S) → (S → Bool) → ℕ → S → List (List ℕ) → List ℕ
printed_from step inside line s [] = if inside s then refusal line else []
printed_from step inside line s (l ∷ ls) = onward line (step s (frame_of l)) (λ t. printed_from step inside (line_after line) t ls)

-- the slave starts with no kept byte; its settings are not looked at before a reset gives them
abbrev pub fresh : SlaveState
fresh = record { pending_byte = None; address = 0; general_call = false }

abbrev pub printed : List ℕ → List ℕ
printed input = printed_from next is_open 1 (idle fresh) (lines input)
