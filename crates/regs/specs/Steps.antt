-- Stepping by hand: what a caller's loop over a driver's steps leaves, and when that is what the whole call is to leave.
-- The steps are four functions of a point. What these functions are need not be believed: `SteppedAs` holds them to a program.
use Rattle.std.specs.Prelude.{ℕ, zero, suc, ◌/◌, List, [], ◌∷◌, ◌≡◌, length, set, None, Some}
use Rattle.regs.specs.Program.{Program, Outcome, just, logged}
use Rattle.regs.specs.Log.{expected}
use Rattle.regs.specs.declared.answers.Answer.{Answer}
use Rattle.regs.specs.declared.answers.Reply.{Reply}
use Rattle.regs.specs.declared.answers.Reply.TheVariants.{Answered, LogFull, OutOfReadings}
use Rattle.regs.specs.declared.access.Entry.TheVariants as E
use Rattle.regs.specs.declared.access.Next.{Next}
use Rattle.regs.specs.declared.access.Next.TheVariants.{Read, Write, Mark, Finished}
use Rattle.regs.specs.Store.{Store}

-- the points S, with the access that is next at each, where a reading leads, what is done to the lent buffer with
-- it, and the driver's own state K
pub record Machine : Type 1 where
  pub S : Type 0
  pub K : Type 0
  pub next : S → Next
  pub advance : S → ℕ → S
  pub store : S → ℕ → Store
  pub state : S → K

-- the lent buffer after an access
abbrev pub stored_in : List ℕ → Store → List ℕ
stored_in b None = b
stored_in b (Some (i, v)) = set b i v

-- the caller has no room for another access: the answer where the call is at its end, else 19
unfoldable pub without_room : {K : Type 0} → Next → List ℕ → K → Outcome K Reply
without_room (Read r) buffer me = just LogFull buffer me
without_room (Write r v) buffer me = just LogFull buffer me
without_room (Mark x) buffer me = just LogFull buffer me
without_room (Finished a) buffer me = just (Answered a) buffer me

-- the caller performs the access, logs it and goes on with what was read, 0 where nothing was: a
-- read takes the next reading, and is 18 where none is left; at its end the call has its answer
unfoldable pub with_room : {K : Type 0} → Next → (ℕ → List ℕ → Outcome K Reply) → List ℕ → List ℕ → K → Outcome K Reply
with_room (Read r) go_on [] buffer me = just OutOfReadings buffer me
with_room (Read r) go_on (v ∷ readings) buffer me = logged (E.Read r v) (go_on v readings)
with_room (Write r v) go_on readings buffer me = logged (E.Write r v) (go_on 0 readings)
with_room (Mark x) go_on readings buffer me = logged (E.Marked x) (go_on 0 readings)
with_room (Finished a) go_on readings buffer me = just (Answered a) buffer me

-- the loop, from a point, a list of readings and a buffer: ask for the access that is next, perform it, store
-- what it puts into the buffer, advance, and again, up to the end of the call or to `room` accesses
unfoldable pub stepped : (M : Machine) → ℕ → M.S → List ℕ → List ℕ → Outcome M.K Reply
stepped M zero s readings buffer = without_room (M.next s) buffer (M.state s)
stepped M (suc room) s readings buffer =
    with_room (M.next s) (λ v readings'. stepped M room (M.advance s v) readings' (stored_in buffer (M.store s v)))
    readings buffer (M.state s)

-- over any readings, with the room of any log, from any buffer and state, stepping from the start
-- makes the accesses of p and leaves its answer, its buffer and its state
abbrev pub SteppedAs : (M : Machine) → (M.K → M.S) → Program M.K Answer Answer → Type 0
SteppedAs M start p = (log readings buffer : List ℕ) (me : M.K)
    → stepped M (length log / 2) (start me) readings buffer ≡ expected p log readings buffer me
