-- Lines of readings one after the other: what is still printed behind them. Contracts of inner functions cite this.
use Rattle.std.specs.Prelude.{ℕ, ◌+◌, ◌*◌, ◌≤◌, ◌<◌, List, [], ◌++◌, Bool, true, false, ◌&&◌, ◌≡◌, ltb, eqb, min, length, take, drop, get_or, if◌then◌else◌, Option, Some, None}
use Rattle.slave.specs.declared.SlaveState.{SlaveState}
use Rattle.text_hex.specs.Text.{digit_of, number_at}
use Rattle.replay_calls.specs.Calls.{MOST_READINGS}
use Rattle.replay_calls.specs.declared.Call.{Call}
use Rattle.replay_session.specs.Session.{complete}
use Rattle.replay_session.specs.Inner.Bounded.{Kept, within}
use Rattle.replay_session.specs.Inner.Enter.{counts_of, opened}
use Rattle.replay_session.specs.declared.Wants.{Wants}
use Rattle.replay_session.specs.declared.Wants.TheVariants.{Nothing}
use Rattle.replay_session.specs.declared.Counts.{Counts}
use Rattle.replay_session.specs.declared.Open.{Open}
use Rattle.replay_state.specs.Inner.Rest.{Out, whole, from_line, Sound, Went}
use Rattle.replay_state.specs.declared.Part.{Part}
use Rattle.replay_state.specs.declared.Part.TheVariants.{Stopped, Text, Long}
use Rattle.replay_state.specs.declared.State.{State}
use Rattle.replay_scan_readings.specs.declared.Pair.{Pair}

-- of a digit its value, and 128 of every other byte; and a table of that
unfoldable pub marked : ℕ → ℕ
marked c = if ltb (digit_of c) 16 then digit_of c else 128

pub record DigitValues (table : List ℕ) : Type 0 where
  pub size : length table ≡ 256
  pub value : (c : ℕ) → c < 256 → get_or table c 0 ≡ marked c

-- two bytes by the table: their sum, and the number that they write
pub record PairAt (chunk : List ℕ) (at : ℕ) (r : Pair) : Type 0 where
  pub sum : r.sum ≡ marked (get_or chunk at 0) + marked (get_or chunk (at + 1) 0)
  pub value : r.value ≡ marked (get_or chunk at 0) * 16 + marked (get_or chunk (at + 1) 0)
  pub few : r.sum ≤ 256
  pub small : r.value ≤ 2176

-- a number that was found is that of the 8 digits at `at`
abbrev pub WordAt : List ℕ → ℕ → Option ℕ → Type 0
WordAt chunk at None = Unit {0}
WordAt chunk at (Some w) = number_at chunk at 8 ≡ Some w

-- a chunk begins with `20`, the 8 digits of w, and an LF
pub record Written (chunk : List ℕ) (w : ℕ) : Type 0 where
  pub two : get_or chunk 0 0 ≡ 50
  pub zero : get_or chunk 1 0 ≡ 48
  pub word : number_at chunk 2 8 ≡ Some w
  pub lf : get_or chunk 10 0 ≡ 10
  pub inside : 10 < length chunk

abbrev pub WrittenIf : List ℕ → Option ℕ → Type 0
WrittenIf chunk None = Unit {0}
WrittenIf chunk (Some w) = Written chunk w

-- the first reading ends what the call may still want
abbrev pub wants_after : ℕ → Wants → Wants
wants_after n w = if ltb 0 n then Nothing else w

-- the number of the line n lines further on: the count stops at its largest number
abbrev pub line_on : ℕ → ℕ → ℕ
line_on line n = min (line + n) 4294967295

-- the chunk begins with n lines of readings, whose words are put into `rs`: whatever the call is, whatever readings it
-- had before, and whatever follows, the rest prints what was to be printed
pub record Run (chunk rs₀ : List ℕ) (n : ℕ) (rs : List ℕ) : Type 0 where
  pub same : (line : ℕ) (s : SlaveState) (c : Call) (w : Wants) (k : Kept) (before : List ℕ)
      → line < 4294967296
      → complete w ≡ true
      → length before + length rs₀ ≤ MOST_READINGS
      → (input : List ℕ)
      → from_line line (within s c w k before) [] (chunk ++ input)
      ≡ from_line (line_on line n) (within s c (wants_after n w) k (before ++ take n rs)) [] (drop (n * 11) chunk ++ input)
  pub inside : n * 11 ≤ length chunk
  pub fits : n ≤ length rs₀
  pub size : length rs ≡ length rs₀
  pub none : n ≡ 0 → rs ≡ rs₀

-- ---- the reader before and behind a run

abbrev pub ready_by : Part → Option Open → Bool
ready_by Stopped o = false
ready_by (Text n) None = false
ready_by (Text n) (Some o) = eqb n 0 && complete o.wants
ready_by (Long odd) o = false

abbrev pub ready_of : State → Bool
ready_of s = ready_by s.part s.session.call

abbrev pub with_readings : Counts → ℕ → Counts
with_readings n count = record { filled = n.filled; readings = count }

-- the open call with so many readings, after which it takes no operations
abbrev pub reopened : Option Open → ℕ → Option Open
reopened None count = None
reopened (Some o) count = Some (opened o.call Nothing (with_readings o.counts count))

-- the reader behind n lines of readings, with which the call has `count`
abbrev pub state_after : State → ℕ → ℕ → State
state_after s n count = record {
  line = line_on s.line n;
  part = Text 0;
  session = record { call = reopened s.session.call count; slave = s.session.slave };
}

-- the chunk begins with n lines of readings, which are stored and behind which the reader is, in the state of `after_run`;
-- where there are none, it is where it was
pub record RanAs (s : State) (chunk rs₀ : List ℕ) (s' : State) (rs : List ℕ) (n : ℕ) : Type 0 where
  pub went : (t ks ls bs b l : List ℕ) (out : Out) → Sound (whole s t ks ls bs rs₀ b l)
      → Went (whole s t ks ls bs rs₀ b l) out chunk (whole s' t ks ls bs rs b l) out (drop (n * 11) chunk)
  pub after : 0 < n → s' ≡ state_after s n (min (counts_of s.session.call).readings (length rs₀) + n)
  pub inside : n * 11 ≤ length chunk
  pub none : n ≡ 0 → (s' ≡ s) × (rs ≡ rs₀)
