-- What is fed and finished. The contracts of `feed` and `finish` cite this; `every_split` is over them.
use Rattle.std.specs.Prelude.{ℕ, None, ◌≤◌, ◌<◌, List, [], ◌++◌, ◌≡◌, length, take, drop}
use Rattle.replay_session.specs.Session.{fresh}
use Rattle.replay_state.specs.Inner.Rest.{Whole, rest, Sound}
use Rattle.replay_state.specs.declared.Part.TheVariants.{Text}
use Rattle.replay_state.specs.declared.State.{State}

abbrev pub start_state : State
start_state = record { line = 1; part = Text 0; session = record { call = None; slave = fresh } }

-- `feed`: some of the chunk was read, and at least a byte if there was one
pub record FedAs (v : Whole) (chunk : List ℕ) (w : Whole) (out : List ℕ) (n end : ℕ) : Type 0 where
  pub same : (input : List ℕ) → rest v (chunk ++ input) ≡ take end out ++ rest w (drop n chunk ++ input)
  pub sound : Sound w
  pub made : end ≤ length out
  pub used : n ≤ length chunk
  pub moves : 0 < length chunk → 0 < n

-- `finish`: what was still to be printed has been
pub record Finished (v : Whole) (out : List ℕ) (end : ℕ) : Type 0 where
  pub same : take end out ≡ rest v []
  pub made : end ≤ length out
