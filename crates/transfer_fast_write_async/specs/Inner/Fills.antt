-- Rounds of an async write, of which a burst is made: each fills the free places of the FIFO.
use Rattle.std.specs.Prelude.{ℕ, ◌+◌, ◌-◌, ◌<◌, ◌≤◌, Bool, List, ◌≡◌, length, get_or}
use Rattle.regs.specs.Fields.{level}
use Rattle.regs.specs.Inner.Recording.{Keeps, room_of}
use Rattle.regs.specs.declared.access.Recording.{Recording}
use Rattle.transfer.specs.Inner.Machine.{machine, moved_to, filling, StepTaken}
use Rattle.transfer.specs.declared.Transfer.{Transfer}
use Rattle.regs_runs.specs.Inner.Reaches.{Reaches}

-- the wait for a place ends at its first poll: TX_ABRT_SOURCE is clear and TXFLR has room
pub record Polls (readings : List ℕ) (u : ℕ) : Type 0 where
  pub quiet : get_or readings u 0 ≡ 0
  pub again : level (get_or readings (u + 1) 0) < 16
  pub left : u + 2 ≤ length readings

-- what a round does that leads straight on: it has the places that TXFLR has free. It is the last one if the bytes end
-- before the places do: the log has room for their words. Otherwise it fills every place, and polls
pub record StraightFill (r : Recording) (i len space : ℕ) : Type 0 where
  pub some : 0 < space
  pub space_is : space ≡ 16 - level (get_or r.readings.now r.used 0)
  pub left : r.used + 1 ≤ length r.readings.now
  pub last : len < i + space → r.entries + 1 + (len - i) ≤ room_of r
  pub goes_on : i + space ≤ len → Polls r.readings.now (r.used + 1) × (r.entries + space + 3 ≤ room_of r)

-- what a round looks at: place, length and STOP
pub record SameFills (t t' : Transfer) : Type 0 where
  pub len : t'.operation.len ≡ t.operation.len
  pub at : t'.operation.at ≡ t.operation.at
  pub send_stop : t'.operation.send_stop ≡ t.operation.send_stop

-- accesses of each transfer that has what a round looks at of t lead from where one step goes to where another
-- does; the read buffer is not touched
pub record Leads (t : Transfer) (bytes : List ℕ) (before : Recording) (s : StepTaken) (after : Recording) (s' : StepTaken) : Type 0 where
  pub keeps : Keeps before after
  pub room : before.entries ≤ room_of before → after.entries ≤ room_of after
  pub reaches : (coded : Bool) (kinds lengths b : List ℕ) (t' : Transfer) → SameFills t t'
      → Reaches (machine coded kinds lengths bytes) before.readings.now (moved_to coded kinds lengths t' s) before.entries
      before.used before.log.now b (moved_to coded kinds lengths t' s') after.entries after.used after.log.now b

-- so many places are filled, of as many or more
pub record Filled (t : Transfer) (bytes : List ℕ) (from count : ℕ) (before after : Recording) : Type 0 where
  pub leads : (space : ℕ) → count ≤ space
      → Leads t bytes before (filling t.operation.len t.operation.send_stop from space) after (filling t.operation.len t.operation.send_stop (from + count) (space - count))
  pub keeps : Keeps before after
  pub entries : after.entries ≡ before.entries + count
  pub used : after.used ≡ before.used
