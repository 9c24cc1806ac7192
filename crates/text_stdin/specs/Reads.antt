-- Reads of standard input one after the other: what came, and how the input stands then.
use Rattle.std.specs.Prelude.{ℕ, zero, suc, ◌≤◌, ◌<◌, min, Bool, true, false, List, [], ◌++◌, ◌≡◌, Option, Some, None, length}
use Rattle.text_stdin.specs.declared.reads.End.{End}
use Rattle.text_stdin.specs.declared.reads.End.TheVariants.{Open, Ended, Failed, OutOfTurns}
use Rattle.text_stdin.specs.declared.reads.Got.{Got}

abbrev pub is_open_at : End → Bool
is_open_at Open = true
is_open_at Ended = false
is_open_at Failed = false
is_open_at OutOfTurns = false

abbrev pub is_ended_at : End → Bool
is_ended_at Open = false
is_ended_at Ended = true
is_ended_at Failed = false
is_ended_at OutOfTurns = false

abbrev pub nothing : End → Got
nothing e = record { count = 0; end = e }

-- what an answer says that was given to a chunk of so many bytes: 0 is the end of the input, none a failure
abbrev pub got_by : Option ℕ → ℕ → Got
got_by None room = nothing Failed
got_by (Some n) zero = nothing Failed
got_by (Some zero) (suc room) = nothing Ended
got_by (Some (suc k)) (suc room) = record { count = min (suc k) (suc room); end = Open }

-- the input is open where bytes came
abbrev pub Counted : End → ℕ → Type 0
Counted Open n = 0 < n
Counted Ended n = n ≡ 0
Counted Failed n = n ≡ 0
Counted OutOfTurns n = ⊥

pub record Brought (chunk : List ℕ) (r : Got) : Type 0 where
  pub inside : r.count ≤ length chunk
  pub counted : Counted r.end r.count

-- From where the input stands: so many reads, the bytes that they brought, and how it stands behind them. Each read but
-- the last brought bytes; one that answered 0 is the end of the input, one that failed is a failure, and none follows.
pub data Reads (from : End) : ℕ → List ℕ → End → Type 0 where
  none : Reads from 0 [] from
  bytes : {n : ℕ} {came : List ℕ} (more : List ℕ) → Reads from n came Open → 0 < length more → Reads from (suc n) (came ++ more) Open
  answered_0 : {n : ℕ} {came : List ℕ} → Reads from n came Open → Reads from (suc n) came Ended
  failed : {n : ℕ} {came : List ℕ} → Reads from n came Open → Reads from (suc n) came Failed
