-- What is still printed from a state of the reader on. Contracts cite this; that from
-- the start it is what Session says, `every_split` shows (proofs/EverySplit.antt).
use Rattle.std.specs.Prelude.{ℕ, ◌+◌, ◌≤◌, ◌<◌, List, [], ◌∷◌, ◌++◌, Bool, true, false, ◌&&◌, ◌≡◌, Option, Some, None, Result, Ok, Err, ltb, length, take, drop, if◌then◌else◌}
use Rattle.text_hex.specs.Text.{lines_after, digit_of}
use Rattle.text_hex.specs.Pairs.{all_digits}
use Rattle.text_hex.specs.Added.{Room, Added}
use Rattle.text_hex.specs.declared.text.Text as output
use Rattle.replay_calls.specs.Inner.Runs.{LOG_WORDS, SameSpace}
use Rattle.replay_frames.specs.Frame.{head_of, width}
use Rattle.replay_frames.specs.declared.Line.{Line}
use Rattle.replay_session.specs.Session.{refusal, line_after, printed_from, fresh}
use Rattle.replay_session.specs.Inner.Bounded.{Held, next_held, holds_call}
use Rattle.replay_session.specs.Inner.Enter.{Arrays, arrays, arrays_of, session_of, Small, Lent, longest_kept, counts_of, over_of, not_entered, SameLists}
use Rattle.replay_session.specs.Inner.Enter.{taken_by, bytes_entered}
use Rattle.replay_session.specs.declared.Session.{Session}
use Rattle.replay_session.specs.declared.Open.{Open}
use Rattle.replay_session.specs.declared.Malformed.{Malformed}
use Rattle.replay_state.specs.declared.Part.{Part}
use Rattle.replay_state.specs.declared.Part.TheVariants.{Stopped, Text, Long}
use Rattle.replay_state.specs.declared.State.{State}
use Rattle.replay_state.specs.declared.Reader.{Reader}

-- a state of the reader with the lent slices whose contents matter or whose lengths are fixed
pub record Whole : Type 0 where
  pub state : State
  pub text : List ℕ
  pub lists : Arrays
  pub buffer : List ℕ
  pub log : List ℕ

abbrev pub whole : State → List ℕ → List ℕ → List ℕ → List ℕ → List ℕ → List ℕ → List ℕ → Whole
whole s t ks ls bs rs b l = record { state = s; text = t; lists = arrays ks ls bs rs; buffer = b; log = l }

-- the same of the lent struct
abbrev pub reader_of : Reader → Whole
reader_of r = record {
  state = r.state;
  text = r.text.now;
  lists = arrays_of r.lists;
  buffer = r.work.buffer.now;
  log = r.work.log.now;
}

-- what is lent stays the same
pub record SameReader (before after : Reader) : Type 0 where
  pub text : after.text.ghost_name ≡ before.text.ghost_name
  pub lists : SameLists before.lists after.lists
  pub work : SameSpace before.work after.work

-- of a line that is longer than what is kept, it matters only whether a digit waits: it stands as the bytes kept and
-- one digit more, or two
abbrev pub digits_more : Bool → List ℕ
digits_more true = 48 ∷ []
digits_more false = 48 ∷ 48 ∷ []

-- what is printed from a line on, of which `begun` has come already
abbrev pub from_line : ℕ → Held → List ℕ → List ℕ → List ℕ
from_line line h begun input = printed_from next_held holds_call line h (lines_after begun input)

abbrev pub rest_of : Part → ℕ → Held → List ℕ → List ℕ → List ℕ
rest_of Stopped line h text input = []
rest_of (Text n) line h text input = from_line line h (take n text) input
rest_of (Long odd) line h text input = from_line line h (text ++ digits_more odd) input

-- what is still printed, if the input goes on so
abbrev pub rest : Whole → List ℕ → List ℕ
rest w input = rest_of w.state.part w.state.line (session_of w.state.session.call w.state.session.slave w.lists) w.text input

-- the bytes kept begin a line that ends in bytes, and are digits from there on
abbrev pub long_by : Option Line → List ℕ → Bool
long_by None text = false
long_by (Some l) text = all_digits (drop (width l) text)

abbrev pub long_line : List ℕ → Bool
long_line text = long_by (head_of text) text

abbrev pub PartSound : Part → List ℕ → Type 0
PartSound Stopped text = Unit {0}
PartSound (Text n) text = n ≤ longest_kept
PartSound (Long odd) text = long_line text ≡ true

pub record Sound (w : Whole) : Type 0 where
  pub part : PartSound w.state.part w.text
  pub small : Small w.state.session.call
  pub lent : Lent w.lists
  pub text : length w.text ≡ longest_kept
  pub buffer : length w.buffer ≡ 4096
  pub log : length w.log ≡ LOG_WORDS

-- the text of the answers, and what stands in it so far
abbrev pub Out : Type 0
Out = output.Text

abbrev pub so_far : Out → List ℕ
so_far t = take t.at t.out.now

-- from v to w, with `before` of the input read up to `after`: what v prints from
-- `before` on is what was put into the text, and what w prints from `after` on
pub record Went (v : Whole) (out₀ : Out) (before : List ℕ) (w : Whole) (out : Out) (after : List ℕ) : Type 0 where
  pub same : (input : List ℕ) → so_far out₀ ++ rest v (before ++ input) ≡ so_far out ++ rest w (after ++ input)
  pub sound : Sound w

abbrev pub stopped_at : ℕ → State
stopped_at line = record { line = line; part = Stopped; session = record { call = None; slave = fresh } }

abbrev pub with_part : State → Part → State
with_part s p = record { line = s.line; part = p; session = s.session }

-- a malformed line stops the reader, and is refused
abbrev pub StoppedAs : ℕ → Out → Out → State → Type 0
StoppedAs line out₀ out r = (r ≡ stopped_at line) × Added out₀ (refusal line) 13 out

-- where a line is malformed there has to be room for its refusal
abbrev pub RefusalFits : Result Session Malformed → Out → Type 0
RefusalFits (Ok e) out = Unit {0}
RefusalFits (Err e) out = Room 13 out

-- a line ended
abbrev pub EndedAs : ℕ → Result Session Malformed → Out → Out → State → Type 0
EndedAs line (Ok e) out₀ out r = (r ≡ record { line = line_after line; part = Text 0; session = e }) × (out ≡ out₀)
EndedAs line (Err e) out₀ out r = StoppedAs line out₀ out r

-- the line goes on as p, or is malformed
abbrev pub TurnedTo : State → Part → Out → Out → State → Bool → Type 0
TurnedTo s p out₀ out r true = (r ≡ with_part s p) × (out ≡ out₀)
TurnedTo s p out₀ out r false = StoppedAs s.line out₀ out r

-- a byte x kept at n, or the first that is not kept
abbrev pub KeptBy : State → ℕ → ℕ → List ℕ → Out → Out → State → Bool → Type 0
KeptBy s n x text out₀ out r true = TurnedTo s (Text (n + 1)) out₀ out r true
KeptBy s n x text out₀ out r false = TurnedTo s (Long true) out₀ out r (long_line text && ltb (digit_of x) 16)

abbrev pub KeptAs : State → ℕ → ℕ → List ℕ → Out → Out → State → Type 0
KeptAs s n x text out₀ out r = KeptBy s n x text out₀ out r (ltb n longest_kept)

-- the end of a line that is longer than what is kept
abbrev pub long_entered : Option Line → Session → Result Session Malformed
long_entered None s = not_entered
long_entered (Some l) s = bytes_entered (taken_by l s.call (over_of (counts_of s.call))) s.slave

abbrev pub LongEndedAs : Bool → State → List ℕ → Out → Out → State → Type 0
LongEndedAs odd s text out₀ out r =
    EndedAs s.line (if odd then not_entered else long_entered (head_of text) s.session) out₀ out r

-- the first n bytes are a whole line with its LF behind it, where n is at most what is kept
pub record Ahead (chunk : List ℕ) (n : ℕ) : Type 0 where
  pub found : n ≤ longest_kept
      → (input : List ℕ)
      → lines_after [] (chunk ++ input) ≡ take n chunk ∷ lines_after [] (drop (n + 1) chunk ++ input)
  pub inside : n ≤ longest_kept → n < length chunk

-- such a line, if one was found
abbrev pub AheadIf : List ℕ → Option ℕ → Type 0
AheadIf chunk None = Unit {0}
AheadIf chunk (Some n) = Ahead chunk n × (n ≤ longest_kept)

-- and a line begins there
abbrev pub FreshLine : Part → List ℕ → Option ℕ → Type 0
FreshLine p chunk None = Unit {0}
FreshLine p chunk (Some n) = Ahead chunk n × (n ≤ longest_kept) × (p ≡ Text 0)

-- whether the input so far ends inside a line
abbrev pub begun_of : Part → Bool
begun_of Stopped = false
begun_of (Text n) = ltb 0 n
begun_of (Long odd) = true

abbrev pub stopped_of : Part → Bool
stopped_of Stopped = true
stopped_of (Text n) = false
stopped_of (Long odd) = false

-- what is printed at the end of the input, after whole lines
abbrev pub end_text : Bool → Option Open → ℕ → List ℕ
end_text true call line = []
end_text false None line = []
end_text false (Some o) line = refusal line
