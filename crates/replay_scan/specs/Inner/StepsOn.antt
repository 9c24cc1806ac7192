-- A step of the reader through a chunk. Contracts of inner functions cite it.
use Rattle.std.specs.Prelude.{ℕ, ◌+◌, ◌<◌, ◌≤◌, List, length, drop}
use Rattle.replay_calls.specs.Inner.Runs.{MOST_TEXT}
use Rattle.replay_state.specs.Inner.Rest.{Sound, Went, reader_of}
use Rattle.replay_state.specs.declared.Reader.{Reader}

-- the reader goes on by at least one byte of the chunk, and what it prints has its room
abbrev pub StepsOn : Reader → List ℕ → Reader → ℕ → Type 0
StepsOn before chunk after used =
    Went (reader_of before) before.work.text chunk (reader_of after) after.work.text (drop used chunk)
    × (after.work.text.at ≤ before.work.text.at + MOST_TEXT)
    × (0 < used)
    × (used ≤ length chunk)
