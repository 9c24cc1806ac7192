-- The replay over its whole input: what the reads brought is fed to the reader in order, and the end of the input is
-- told to it only where a read answered 0. No contract can say what is written; `text` is what was handed to be written.
use Rattle.std.specs.Prelude.{ℕ, ◌-◌, ◌^◌, ◌≤◌, Bool, true, false, List, [], ◌++◌, ◌≡◌, length, take, if◌then◌else◌, Result, Ok, Err}
use Rattle.text_stdin.specs.Reads.{is_ended_at, Reads}
use Rattle.text_stdin.specs.declared.reads.End.{End}
use Rattle.text_stdin.specs.declared.reads.End.TheVariants.{Open, Ended, Failed, OutOfTurns}
use Rattle.replay_session.specs.Session.{printed}
use Rattle.replay_state.specs.Inner.Rest.{Whole, rest, Sound}
use Rattle.replay.specs.declared.input.Unwritten.{Unwritten}

-- `feed_all`: all of the bytes were fed, unless a write has failed; then some of them are left
abbrev pub AllFed : Bool → List ℕ → Type 0
AllFed true left = left ≡ []
AllFed false left = Unit {0}

pub record FedAll (v : Whole) (bytes : List ℕ) (w : Whole) (written : Bool) : Type 0 where
  pub text : List ℕ
  pub fed : List ℕ
  pub left : List ℕ
  pub parts : bytes ≡ fed ++ left
  pub same : (input : List ℕ) → rest v (bytes ++ input) ≡ text ++ rest w (left ++ input)
  pub sound : Sound w
  pub all : AllFed written left

-- so many times bytes may be fed
abbrev pub MOST_TURNS : ℕ
MOST_TURNS = 2 ^ 64 - 1

-- why no more is read: a write failed, or all that came was fed and the input has ended or a read has failed, or
-- bytes were fed as many times as are counted
abbrev pub Stops : Result End Unwritten → End → List ℕ → List ℕ → Type 0
Stops (Err e) last fed left = Unit {0}
Stops (Ok Open) last fed left = ⊥
Stops (Ok Ended) last fed left = (last ≡ Ended) × (left ≡ [])
Stops (Ok Failed) last fed left = (last ≡ Failed) × (left ≡ [])
Stops (Ok OutOfTurns) last fed left = MOST_TURNS ≤ length fed

-- `read_all`: whatever comes behind the bytes that came, what Session prints of all is the text handed to be written and
-- what the reader makes, from where it stands, of the bytes that are left and those behind them
pub record ReadAll (w : Whole) (r : Result End Unwritten) : Type 0 where
  pub count : ℕ
  pub came : List ℕ
  pub last : End
  pub reads : Reads Open count came last
  pub fed : List ℕ
  pub left : List ℕ
  pub parts : came ≡ fed ++ left
  pub text : List ℕ
  pub same : (more : List ℕ) → printed (came ++ more) ≡ text ++ rest w (left ++ more)
  pub sound : Sound w
  pub stops : Stops r last fed left

-- `at_end`: what is still printed at the end of the input, and nothing where it has not ended
pub record AtEnd (e : End) (w : Whole) (out : List ℕ) (made : ℕ) : Type 0 where
  pub text : take made out ≡ (if is_ended_at e then rest w [] else [])
  pub fits : made ≤ length out

-- where the input has ended and every write was made, what was handed to be written is what Session prints of the bytes
-- that came
abbrev pub PrintsSession : Type 0
PrintsSession = (w : Whole) (r : Result End Unwritten) (out : List ℕ) (made : ℕ)
    → (p : ReadAll w r)
    → r ≡ Ok Ended
    → AtEnd Ended w out made
    → p.text ++ take made out ≡ printed p.came

pub record Begins (text all : List ℕ) : Type 0 where
  pub behind : List ℕ
  pub whole : all ≡ text ++ behind

-- however else it stopped, nothing more is handed to be written, and what was is how the printed text begins of every
-- input that goes on behind the bytes that came: a call that is cut is not refused
abbrev pub PrintsBeginning : Type 0
PrintsBeginning = (w : Whole) (r : Result End Unwritten) (e : End) (out : List ℕ) (made : ℕ)
    → (p : ReadAll w r)
    → is_ended_at e ≡ false
    → AtEnd e w out made
    → (take made out ≡ []) × ((more : List ℕ) → Begins p.text (printed (p.came ++ more)))
