-- Rounds of an async read, of which a burst is made.
use Rattle.std.specs.Prelude.{ℕ, ◌+◌, ◌-◌, ◌<◌, ◌≤◌, min, List, ◌≡◌, length, get_or}
use Rattle.regs.specs.Fields.{level}
use Rattle.regs.specs.Inner.Recording.{Keeps, room_of}
use Rattle.regs.specs.declared.access.Recording.{Recording}
use Rattle.transfer.specs.declared.Transfer.{Transfer}
use Rattle.transfer.specs.declared.Point.TheVariants.{ReadAsync}
use Rattle.transfer.specs.declared.Round.{Round}
use Rattle.transfer.specs.declared.RoundPoint.TheVariants.{Capacity, Queue, Level, Fetch}
use Rattle.transfer_fast_blocking.specs.Inner.Bursts.{Bursts}

abbrev pub round : ℕ → ℕ → ℕ → Round
round remaining queue batch = record { remaining = remaining; queue = queue; batch = batch }

-- what a round looks at: place, length and both flags
pub record SameRounds (t t' : Transfer) : Type 0 where
  pub len : t'.operation.len ≡ t.operation.len
  pub at : t'.operation.at ≡ t.operation.at
  pub restart : t'.operation.restart ≡ t.operation.restart
  pub send_stop : t'.operation.send_stop ≡ t.operation.send_stop

-- so many words are queued
pub record Queued (t : Transfer) (queue words : ℕ) (before after : Recording) : Type 0 where
  pub bursts : (bytes b : List ℕ) (remaining batch : ℕ)
      → Bursts (SameRounds t) bytes before b (ReadAsync (Queue (round remaining queue batch) words)) after b
      (ReadAsync (Level (round remaining (queue - words) batch)))
  pub keeps : Keeps before after
  pub entries : after.entries ≡ before.entries + words
  pub used : after.used ≡ before.used

-- so many bytes are fetched, and more remain
pub record Fetched (t : Transfer) (remaining count : ℕ) (before : Recording) (b : List ℕ) (after : Recording) (b' : List ℕ) : Type 0 where
  pub bursts : (bytes : List ℕ) (queue batch : ℕ)
      → Bursts (SameRounds t) bytes before b (ReadAsync (Fetch (round remaining queue batch) count)) after b'
      (ReadAsync (Capacity (round remaining queue batch)))
  pub keeps : Keeps before after
  pub entries : after.entries ≡ before.entries + count
  pub used : after.used ≡ before.used + count

-- what a round does that leads straight on: so many words, for which TXFLR has room, and so
-- many bytes, of which RXFLR has as many as words; the readings and the log are long enough
pub record StraightRound (r : Recording) (x : Round) (words count : ℕ) : Type 0 where
  pub some : 0 < words
  pub words_are : words ≡ min x.queue (16 - level (get_or r.readings.now r.used 0))
  pub count_is : count ≡ min (level (get_or r.readings.now (r.used + 1) 0)) x.remaining
  pub filled : words ≤ level (get_or r.readings.now (r.used + 1) 0)
  pub quiet : get_or r.readings.now (r.used + 2) 0 ≡ 0
  pub more : count < x.remaining
  pub left : r.used + (count + 3) ≤ length r.readings.now
  pub fits : r.entries + (words + count + 3) ≤ room_of r

-- the round after it
abbrev pub after_round : Round → ℕ → ℕ → Round
after_round x words count = round (x.remaining - count) (x.queue - words) words
