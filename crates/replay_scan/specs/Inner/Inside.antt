-- Bytes inside a line, read. Contracts of inner functions cite it.
use Rattle.std.specs.Prelude.{ℕ, ◌+◌, ◌≤◌, List, [], ◌≡◌}
use Rattle.replay_calls.specs.Inner.Runs.{MOST_TEXT}
use Rattle.replay_session.specs.Inner.Enter.{Arrays, arrays_of}
use Rattle.replay_state.specs.Inner.Rest.{Whole, Sound, Went, reader_of}
use Rattle.replay_state.specs.declared.Reader.{Reader}

-- no LF
abbrev pub NoEnd : ℕ → Type 0
NoEnd x = x ≡ 10 → ⊥

-- a reader that was sound goes on over these bytes
abbrev pub WentInside : Reader → List ℕ → Reader → Type 0
WentInside before bytes after =
    Sound (reader_of before)
    → Went (reader_of before) before.work.text bytes (reader_of after) after.work.text []
    × (after.work.text.at ≤ before.work.text.at + MOST_TEXT)

-- a reader's state and kept bytes, with any slices of a call, buffer and log beside them
abbrev pub beside : Reader → Arrays → List ℕ → List ℕ → Whole
beside r lists buffer log = record { state = r.state; text = r.text.now; lists = lists; buffer = buffer; log = log }

-- no call is needed, so it goes on so whatever these hold
abbrev pub WentBeside : Reader → List ℕ → Reader → List ℕ → Type 0
WentBeside before bytes after behind =
    (lists : Arrays) (buffer log : List ℕ) → Sound (beside before lists buffer log)
    → Went (beside before lists buffer log) before.work.text bytes (beside after lists buffer log) after.work.text behind
    × (after.work.text.at ≤ before.work.text.at + MOST_TEXT)

-- no call is run: whatever the reader holds, the slices of the call, the buffer and the log are as they were
pub record NoCall (before after : Reader) : Type 0 where
  pub lists : arrays_of after.lists ≡ arrays_of before.lists
  pub buffer : after.work.buffer.now ≡ before.work.buffer.now
  pub log : after.work.log.now ≡ before.work.log.now
