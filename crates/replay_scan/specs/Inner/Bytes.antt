-- Bytes inside a line one after the other: what is still printed behind them. Contracts of inner functions cite this.
use Rattle.std.specs.Prelude.{ℕ, ◌+◌, ◌≤◌, List, ◌++◌, true, ◌≡◌, length, take, drop}
use Rattle.text_hex.specs.Text.{lines_after}
use Rattle.text_hex.specs.Pairs.{all_digits}
use Rattle.replay_session.specs.Inner.Bounded.{Held}
use Rattle.replay_session.specs.Inner.Enter.{longest_kept}
use Rattle.replay_state.specs.Inner.Rest.{rest_of, PartSound}
use Rattle.replay_state.specs.declared.Part.{Part}

-- the first k bytes are digits
pub record DigitsAhead (chunk : List ℕ) (k : ℕ) : Type 0 where
  pub digits : all_digits (take k chunk) ≡ true
  pub inside : k ≤ length chunk

-- the first k bytes stand in the room, and go on with any line
pub record KeptAhead (chunk room₀ room : List ℕ) (k : ℕ) : Type 0 where
  pub same : (begun input : List ℕ)
      → lines_after begun (chunk ++ input) ≡ lines_after (begun ++ take k room) (drop k chunk ++ input)
  pub fits : k ≤ length room
  pub size : length room ≡ length room₀
  pub inside : k ≤ length chunk
  pub none : k ≡ 0 → room ≡ room₀

-- behind a run of k bytes, whatever the call is and whatever follows, the rest prints what was to be printed
pub record MovedAs (p₀ : Part) (chunk text₀ : List ℕ) (p : Part) (text : List ℕ) (k : ℕ) : Type 0 where
  pub same : (line : ℕ) (h : Held) (input : List ℕ)
      → rest_of p₀ line h text₀ (chunk ++ input) ≡ rest_of p line h text (drop k chunk ++ input)
  pub sound : PartSound p text
  pub size : length text ≡ longest_kept
  pub inside : k ≤ length chunk
  pub none : k ≡ 0 → (p ≡ p₀) × (text ≡ text₀)
