-- A request with the lent bytes and the lent buffer as a call of the slave, and what it leaves.
use Rattle.std.specs.Prelude.{ℕ, Bool, true, false, List, ◌≡◌}
use Rattle.regs.specs.Program.{Outcome}
use Rattle.regs.specs.Log.{expected}
use Rattle.regs.specs.declared.answers.Reply.{Reply}
use Rattle.slave.specs.Calls.{Call, resets, listens, responds, fills, responds_and_fills, program}
use Rattle.slave.specs.declared.SlaveState.{SlaveState}
use Rattle.slave_run.specs.declared.Request.{Request}
use Rattle.slave_run.specs.declared.Request.TheVariants.{Reset, Listen, RespondToRead, RespondTillStop, RespondAndFill}

-- the buffer is for `listen`, the bytes are for the two responses that send bytes
abbrev pub call_of : Request → (bytes buffer : List ℕ) → Call
call_of (Reset address general_call) bytes buffer = resets address general_call
call_of Listen bytes buffer = listens buffer
call_of RespondToRead bytes buffer = responds bytes
call_of (RespondTillStop fill) bytes buffer = fills fill
call_of (RespondAndFill fill) bytes buffer = responds_and_fills bytes fill

-- what a request leaves: the buffer is lent to every call
abbrev pub left_by : Request → (bytes buffer log readings : List ℕ) → SlaveState → Outcome SlaveState Reply
left_by q bytes buffer log readings me = expected (program (call_of q bytes buffer)) log readings buffer me

abbrev pub is_listen : Request → Bool
is_listen (Reset address general_call) = false
is_listen Listen = true
is_listen RespondToRead = false
is_listen (RespondTillStop fill) = false
is_listen (RespondAndFill fill) = false

-- every other call leaves the lent buffer as it was
abbrev pub BufferKept : Type 0
BufferKept = (q : Request) → is_listen q ≡ false → (bytes buffer log readings : List ℕ) (me : SlaveState)
    → (left_by q bytes buffer log readings me).buffer ≡ buffer
