-- The session in bounded space: operations beyond the limits of number 20 are not kept, and their call is not run but
-- refused. That it prints the same, since the call's driver refuses them too, is proved (proofs/Bound.antt); contracts cite it.
use Rattle.std.specs.Prelude.{ℕ, ◌+◌, Bool, true, false, ◌||◌, Option, Some, None, List, [], ◌∷◌, ◌++◌, ltb, length, if◌then◌else◌}
use Rattle.master.specs.Operations.{Operation, writes, reads, READ, WRITE, MOST_BYTES, MOST_OPERATIONS}
use Rattle.slave.specs.declared.SlaveState.{SlaveState}
use Rattle.text_hex.specs.Print.{answer_text}
use Rattle.replay_calls.specs.Calls.{MOST_READINGS, Listed, listed, listing, outcome_of, outcome_text, has_buffer}
use Rattle.replay_calls.specs.declared.Call.{Call}
use Rattle.replay_frames.specs.Frame.{Frame, opens, write, read, reading, run, bad}
use Rattle.replay_session.specs.Session.{Next, going, malformed, wants_of, read_taken, write_taken, complete}
use Rattle.replay_session.specs.declared.Wants.{Wants}
use Rattle.replay_session.specs.declared.Wants.TheVariants.{Nothing}

-- more than 64 operations, or more than 4,096 bytes of one direction
abbrev pub over : Listed → Bool
over l = ltb MOST_OPERATIONS (length l.kinds) || (ltb MOST_BYTES (length l.bytes) || ltb MOST_BYTES l.room)

-- the operations so far, or that they are beyond the limits
pub data Kept : Type 0 where
  kept : Listed → Kept
  large : Kept

abbrev pub bounded : Listed → Kept
bounded l = if over l then large else kept l

abbrev pub with_operation : Listed → Operation ℕ → Listed
with_operation l (writes bs) = listed (l.kinds ++ (WRITE ∷ [])) (l.lengths ++ (length bs ∷ [])) (l.bytes ++ bs) l.room
with_operation l (reads n) = listed (l.kinds ++ (READ ∷ [])) (l.lengths ++ (n ∷ [])) l.bytes (l.room + n)

abbrev pub add : Kept → Operation ℕ → Kept
add large o = large
add (kept l) o = bounded (with_operation l o)

pub data Held : Type 0 where
  idle : SlaveState → Held
  within : SlaveState → Call → Wants → Kept → List ℕ → Held

abbrev pub operation : SlaveState → Call → Kept → List ℕ → Option Wants → Next Held
operation s c k rs None = malformed
operation s c k rs (Some w) = going (within s c w k rs) []

abbrev pub kept_text : Call → Kept → List ℕ → SlaveState → List ℕ
kept_text c large rs s = answer_text 20 0
kept_text c (kept l) rs s = outcome_text (has_buffer c l) (outcome_of c l rs s)

abbrev pub kept_slave : Call → Kept → List ℕ → SlaveState → SlaveState
kept_slave c large rs s = s
kept_slave c (kept l) rs s = (outcome_of c l rs s).state

abbrev pub next_held : Held → Frame → Next Held
next_held (idle s) (opens c os) = going (within s c (wants_of c) (bounded (listing os)) []) []
next_held (idle s) (write bs) = malformed
next_held (idle s) (read n) = malformed
next_held (idle s) (reading v) = malformed
next_held (idle s) run = malformed
next_held (idle s) bad = malformed
next_held (within s c w k rs) (opens d ps) = malformed
next_held (within s c w k rs) (write bs) = operation s c (add k (writes bs)) rs (write_taken w)
next_held (within s c w k rs) (read n) = operation s c (add k (reads n)) rs (read_taken w)
next_held (within s c w k rs) (reading v) =
    if complete w then
    (if ltb (length rs) MOST_READINGS then going (within s c Nothing k (rs ++ (v ∷ []))) [] else malformed) else
    malformed
next_held (within s c w k rs) run = if complete w then going (idle (kept_slave c k rs s)) (kept_text c k rs s) else malformed
next_held (within s c w k rs) bad = malformed

abbrev pub holds_call : Held → Bool
holds_call (idle s) = false
holds_call (within s c w k rs) = true
