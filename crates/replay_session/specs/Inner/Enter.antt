-- How the code's values stand for frames and sessions, and what entering a frame does. Contracts of inner functions cite this.
use Rattle.std.specs.Prelude.{ℕ, ◌+◌, ◌≤◌, Bool, ◌||◌, Option, Some, None, Result, Ok, Err, List, [], ◌≡◌, ltb, length, take, set, if◌then◌else◌}
use Rattle.slave.specs.declared.SlaveState.{SlaveState}
use Rattle.text_hex.specs.Added.{Added}
use Rattle.text_hex.specs.declared.text.Text.{Text}
use Rattle.replay_calls.specs.Calls.{MOST_READINGS, listed}
use Rattle.replay_calls.specs.Inner.Runs.{MOST_TEXT}
use Rattle.replay_frames.specs.Frame.{bytes_frame}
use Rattle.text_hex.specs.Text.{bytes_of}
use Rattle.text_hex.specs.Pairs.{PutAt}
use Rattle.replay_calls.specs.declared.Call.{Call}
use Rattle.replay_calls.specs.declared.Call.TheVariants.{Respond, RespondAndFill}
use Rattle.replay_session.specs.Session.{Next, going, malformed, wants_of, read_taken, write_taken, complete}
use Rattle.replay_session.specs.Inner.Bounded.{Kept, kept, large, Held, idle, within, kept_text, kept_slave, next_held}
use Rattle.replay_session.specs.declared.Wants.{Wants}
use Rattle.replay_session.specs.declared.Wants.TheVariants.{Nothing}
use Rattle.replay_session.specs.declared.Counts.{Counts}
use Rattle.replay_session.specs.declared.Filled.{Filled}
use Rattle.replay_session.specs.declared.Open.{Open}
use Rattle.replay_session.specs.declared.Lists.{Lists}
use Rattle.replay_session.specs.declared.Session.{Session}
use Rattle.replay_session.specs.declared.Malformed.{Malformed}
use Rattle.replay_frames.specs.declared.Line.{Line}

-- ---- the session that the open call and the lent slices are

pub record Arrays : Type 0 where
  pub kinds : List ℕ
  pub lengths : List ℕ
  pub bytes : List ℕ
  pub readings : List ℕ

abbrev pub arrays : List ℕ → List ℕ → List ℕ → List ℕ → Arrays
arrays ks ls bs rs = record { kinds = ks; lengths = ls; bytes = bs; readings = rs }

abbrev pub arrays_of : Lists → Arrays
arrays_of l = arrays l.kinds.now l.lengths.now l.bytes.now l.readings.now

-- they are the same slices still, of the same lengths
pub record SameLists (before after : Lists) : Type 0 where
  pub kinds : after.kinds.ghost_name ≡ before.kinds.ghost_name
  pub lengths : after.lengths.ghost_name ≡ before.lengths.ghost_name
  pub bytes : after.bytes.ghost_name ≡ before.bytes.ghost_name
  pub readings : after.readings.ghost_name ≡ before.readings.ghost_name
  pub kinds_length : length after.kinds.now ≡ length before.kinds.now
  pub lengths_length : length after.lengths.now ≡ length before.lengths.now
  pub bytes_length : length after.bytes.now ≡ length before.bytes.now
  pub readings_length : length after.readings.now ≡ length before.readings.now

-- with an operation's kind and length stored, where the operations are within the limits
abbrev pub stored : Option Filled → Arrays → ℕ → ℕ → Arrays
stored None a kind len = a
stored (Some f) a kind len = arrays (set a.kinds f.ops kind) (set a.lengths f.ops len) a.bytes a.readings

-- with a reading stored
abbrev pub with_reading : ℕ → Arrays → ℕ → Arrays
with_reading n a word = arrays a.kinds a.lengths a.bytes (set a.readings n word)

abbrev pub kept_by : Option Filled → Arrays → Kept
kept_by None a = large
kept_by (Some f) a = kept (listed (take f.ops a.kinds) (take f.ops a.lengths) (take f.bytes a.bytes) f.reads)

abbrev pub kept_of : Counts → Arrays → Kept
kept_of n a = kept_by n.filled a

abbrev pub session_of : Option Open → SlaveState → Arrays → Held
session_of None s a = idle s
session_of (Some o) s a = within s o.call o.wants (kept_of o.counts a) (take o.counts.readings a.readings)

abbrev pub no_counts : Counts
no_counts = record { filled = Some (record { ops = 0; bytes = 0; reads = 0 }); readings = 0 }

-- with no call open nothing is kept
abbrev pub counts_of : Option Open → Counts
counts_of None = no_counts
counts_of (Some o) = o.counts

pub record Few (f : Filled) : Type 0 where
  pub ops : f.ops ≤ 64
  pub bytes : f.bytes ≤ 4096
  pub reads : f.reads ≤ 4096

abbrev pub FewIf : Option Filled → Type 0
FewIf None = Unit {0}
FewIf (Some f) = Few f

pub record Within (n : Counts) : Type 0 where
  pub filled : FewIf n.filled
  pub readings : n.readings ≤ MOST_READINGS

pub record Small (o : Option Open) : Type 0 where
  pub counts : Within (counts_of o)

-- the lent slices' lengths
pub record Lent (a : Arrays) : Type 0 where
  pub kinds : length a.kinds ≡ 64
  pub lengths : length a.lengths ≡ 64
  pub bytes : length a.bytes ≡ 4096
  pub readings : length a.readings ≡ MOST_READINGS

-- so many bytes of a line are kept: the longest line that is not beyond the limits has 6 and then 4,096 pairs of digits
abbrev pub longest_kept : ℕ
longest_kept = 8198

-- ---- a frame entered: the session after it, and what was printed

abbrev pub text_of : Next Held → List ℕ
text_of (going h t) = t
text_of malformed = []

abbrev pub next_of : Result Session Malformed → Arrays → List ℕ → Next Held
next_of (Ok e) a text = going (session_of e.call e.slave a) text
next_of (Err e) a text = malformed

-- a malformed frame prints nothing by itself
abbrev pub most_of : Result Session Malformed → ℕ
most_of (Ok e) = MOST_TEXT
most_of (Err e) = 0

abbrev pub SmallAfter : Result Session Malformed → Type 0
SmallAfter (Ok e) = Small e.call
SmallAfter (Err e) = Unit {0}

pub record EnteredAs (e : Result Session Malformed) (a : Arrays) (before after : Text) (to : Next Held) : Type 0 where
  pub same : next_of e a (text_of to) ≡ to
  pub text : Added before (text_of to) (most_of e) after
  pub small : SmallAfter e
  pub lent : Lent a

-- the open call was run, or refused with 20
pub record CalledAs (o : Open) (s : SlaveState) (a : Arrays) (before after : Text) (r : SlaveState) : Type 0 where
  pub text : Added before (kept_text o.call (kept_of o.counts a) (take o.counts.readings a.readings) s) MOST_TEXT after
  pub slave : r ≡ kept_slave o.call (kept_of o.counts a) (take o.counts.readings a.readings) s

-- ---- the code's small steps

abbrev pub opened : Call → Wants → Counts → Open
opened c w n = record { call = c; wants = w; counts = n }

abbrev pub entered : Option Open → SlaveState → Result Session Malformed
entered o s = Ok (record { call = o; slave = s })

abbrev pub not_entered : Result Session Malformed
not_entered = Err (record {})

abbrev pub over_of : Counts → Counts
over_of n = record { filled = None; readings = n.readings }

-- the counts with one more operation, of b bytes to write and m to read
abbrev pub too_many : Filled → ℕ → ℕ → Bool
too_many f b m = ltb 64 (f.ops + 1) || (ltb 4096 (f.bytes + b) || ltb 4096 (f.reads + m))

unfoldable pub more : Filled → ℕ → ℕ → Option Filled
more f b m =
    if too_many f b m then None else Some (record { ops = f.ops + 1; bytes = f.bytes + b; reads = f.reads + m })

abbrev pub more_if : Option Filled → ℕ → ℕ → Option Filled
more_if None b m = None
more_if (Some f) b m = more f b m

abbrev pub added_to : Counts → ℕ → ℕ → Counts
added_to n b m = record { filled = more_if n.filled b m; readings = n.readings }

abbrev pub call_entered : Call → Option Open → SlaveState → Result Session Malformed
call_entered c (Some o) s = not_entered
call_entered c None s = entered (Some (opened c (wants_of c) no_counts)) s

-- the open call after an operation that may come now, or not
abbrev pub taken_as : Call → Counts → Option Wants → Option Open
taken_as c n None = None
taken_as c n (Some w) = Some (opened c w n)

-- a frame that comes in order or not, with the open call after it
abbrev pub bytes_entered : Option Open → SlaveState → Result Session Malformed
bytes_entered None s = not_entered
bytes_entered (Some o) s = entered (Some o) s

abbrev pub read_entered : ℕ → Option Open → SlaveState → Result Session Malformed
read_entered m None s = not_entered
read_entered m (Some o) s = bytes_entered (taken_as o.call (added_to o.counts 0 m) (read_taken o.wants)) s

-- the open call after a line of bytes, with its counts then
abbrev pub taken_by : Line → Option Open → Counts → Option Open
taken_by Line.Write None n = None
taken_by Line.Write (Some o) n = taken_as o.call n (write_taken o.wants)
taken_by Line.Respond None n = Some (opened Respond Nothing n)
taken_by Line.Respond (Some o) n = None
taken_by (Line.RespondAndFill b) None n = Some (opened (RespondAndFill b) Nothing n)
taken_by (Line.RespondAndFill b) (Some o) n = None

abbrev pub one_reading : Counts → Counts
one_reading n = record { filled = n.filled; readings = n.readings + 1 }

abbrev pub reading_entered : Option Open → SlaveState → Result Session Malformed
reading_entered None s = not_entered
reading_entered (Some o) s =
    if complete o.wants then
    (if ltb o.counts.readings MOST_READINGS then entered (Some (opened o.call Nothing (one_reading o.counts))) s else not_entered)
    else not_entered

-- the bytes that the pairs of digits write stand behind those of the call, where they are within the limits
abbrev pub PutBehind : List ℕ → Option Filled → Arrays → Arrays → Type 0
PutBehind ds None a a' = a' ≡ a
PutBehind ds (Some f) a a' = (a'.kinds ≡ a.kinds) × (a'.lengths ≡ a.lengths) × (a'.readings ≡ a.readings)
    × PutAt ds f.bytes a.bytes a'.bytes

-- a line of the pairs of digits `ds` was entered, whatever was printed before
abbrev pub PairsAs : Line → List ℕ → Option Open → SlaveState → Arrays → Arrays → Result Session Malformed → Type 0
PairsAs l ds o s a a' r =
    (text : Text) → Lent a → EnteredAs r a' text text (next_held (session_of o s a) (bytes_frame l (bytes_of ds)))
