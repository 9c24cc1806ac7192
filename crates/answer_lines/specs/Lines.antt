-- Lines of answers in order: their numbers, which of them are no answer frames, and the log that is kept of the open call.
use Rattle.std.specs.Prelude.{ℕ, ◌+◌, ◌-◌, ◌^◌, ◌≤◌, Bool, ◌||◌, List, ◌++◌, ◌≡◌, ltb, length, take, if◌then◌else◌, is_none}
use Rattle.text_tables.specs.Ascii.{ascii}
use Rattle.text_tables.specs.Decimal.{digits}
use Rattle.answer_frames.specs.Frames.{frame_of}
use Rattle.explain_bus.specs.Line.{kept}

-- the number of the line behind so many others: lines are counted from 1, up to what 64 bits can say
abbrev pub number_after : ℕ → ℕ
number_after lines = if ltb lines (2 ^ 64 - 1) then lines + 1 else lines

-- a line of more than 8,194 bytes, which are a buffer of 4,096, is no answer frame whatever its bytes are
abbrev pub no_frame : List ℕ → Bool
no_frame line = ltb 8194 (length line) || is_none (frame_of line)

-- what is printed of such a line; a number of 64 bits has at most 20 digits
unfoldable pub warning : ℕ → List ℕ
warning number = ascii "line " ++ (digits 20 number ++ ascii ": not an answer frame\n")

-- the log of the open call has at most 8,192 entries of two words
abbrev pub LOG_WORDS : ℕ
LOG_WORDS = 16384

-- the log with what a line adds to it; a log that is full stays as it is
abbrev pub kept_on : List ℕ → List ℕ → List ℕ
kept_on log line = log ++ kept line (length log) LOG_WORDS

-- that log as the first words of a buffer, up to its end
pub record KeptOn (log : List ℕ) (used : ℕ) (line after : List ℕ) (end : ℕ) : Type 0 where
  pub same : take end after ≡ kept_on (take used log) line
  pub room : end ≤ LOG_WORDS
