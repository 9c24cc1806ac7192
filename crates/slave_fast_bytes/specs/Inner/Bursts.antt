-- A burst: the slave's run comes from one point to another within `listen` or within a response.
use Rattle.std.specs.Prelude.{ℕ, ◌+◌, ◌-◌, ◌*◌, ◌<◌, ◌≤◌, Bool, false, not, ◌&&◌, List, ◌≡◌, eqb, length, get_or, None}
use Rattle.regs.specs.Fields.{rfne, first_data_byte, rd_req, stop_det, tx_abrt, level}
use Rattle.regs.specs.Inner.Recording.{Keeps, room_of}
use Rattle.regs.specs.declared.access.Recording.{Recording}
use Rattle.slave.specs.declared.SlaveState.{SlaveState}
use Rattle.slave_listen.specs.declared.ListenPoint.TheVariants.{Status}
use Rattle.slave_respond.specs.Inner.Machine.{response, count_of, byte_at, chunk_end}
use Rattle.slave_respond.specs.declared.Job.{Job}
use Rattle.slave_respond.specs.declared.RespondPoint.{RespondPoint}
use Rattle.slave_steps.specs.Inner.Machine.{machine, slave}
use Rattle.slave_steps.specs.declared.Point.TheVariants.{Listening, Responding}
use Rattle.slave_fast_bytes.specs.declared.listen.Message.{Message}
use Rattle.regs_runs.specs.Inner.Reaches.{Reaches}

-- a burst is the same whatever it does not look at
abbrev pub ForAny : {A : Type 0} → (A → Type 0) → Type 0
ForAny {A} f = (a : A) → f a

-- ---- `listen`, with a buffer of so many places and no byte pending

pub record Drains (from : Message) (before : Recording) (b : List ℕ) (to : Message) (after : Recording) (b' : List ℕ) : Type 0 where
  pub keeps : Keeps before after
  pub room : before.entries ≤ room_of before → after.entries ≤ room_of after
  pub up : before.entries ≤ after.entries
  pub places : to.places ≡ from.places
  pub reaches : (bytes : List ℕ) (me : SlaveState) → me.pending_byte ≡ None
      → Reaches (machine bytes) before.readings.now (slave me from.places (Listening (Status from.stat from.index)))
      before.entries before.used before.log.now b
      (slave me from.places (Listening (Status to.stat to.index))) after.entries after.used after.log.now b'

-- a byte that is there and belongs to this message
abbrev pub straight_byte : ℕ → ℕ → ℕ → Bool
straight_byte i status word = rfne status && not (not (eqb i 0) && first_data_byte word)

-- the FIFO is empty, the message goes on, and the next poll finds bytes again
abbrev pub straight_poll : ℕ → ℕ → ℕ → Bool
straight_poll stat status filled = not (rfne status) && (not (rd_req stat) && (not (stop_det stat) && not (eqb (level filled) 0)))

-- ---- a response, with so many bytes

pub record Responds (count : ℕ) (bytes : List ℕ) (p : RespondPoint) (before : Recording) (p' : RespondPoint)
    (after : Recording) : Type 0 where
  pub keeps : Keeps before after
  pub room : before.entries ≤ room_of before → after.entries ≤ room_of after
  pub reaches : (me : SlaveState) (job : Job) (b : List ℕ) → count_of job count ≡ count → ((i : ℕ) → byte_at job bytes i ≡ get_or bytes i 0)
      → Reaches (machine bytes) before.readings.now (slave me count (Responding (response job p)))
      before.entries before.used before.log.now b
      (slave me count (Responding (response job p'))) after.entries after.used after.log.now b

-- a chunk up to a byte that leads straight on: the poll finds no abort, and readings and log are long enough
pub record StraightChunk (r : Recording) (i count end : ℕ) : Type 0 where
  pub ends : end ≡ chunk_end i count
  pub before : i < count
  pub quiet : tx_abrt (get_or r.readings.now r.used 0) ≡ false
  pub left : r.used + (end - i + 1) ≤ length r.readings.now
  pub fits : r.entries + ((end - i) * 2 + 3) ≤ room_of r
