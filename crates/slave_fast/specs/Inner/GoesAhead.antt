-- The slave comes to another point of its run.
use Rattle.std.specs.Prelude.{ℕ, List, ◌≡◌, get_or}
use Rattle.regs.specs.Inner.Recording.{Keeps}
use Rattle.regs.specs.declared.access.Recording.{Recording}
use Rattle.slave_respond.specs.Inner.Machine.{count_of, byte_at}
use Rattle.slave_respond.specs.declared.Job.{Job}
use Rattle.slave_steps.specs.Inner.Machine.{machine, slave}
use Rattle.slave_steps.specs.declared.Slave.{Slave}
use Rattle.slave_steps.specs.declared.Point.{Point}
use Rattle.regs_runs.specs.Inner.Reaches.{Reaches}

pub record GoesAhead (bytes : List ℕ) (s : Slave) (before : Recording) (buffer : List ℕ) (point : Point)
    (after : Recording) (buffer' : List ℕ) : Type 0 where
  pub keeps : Keeps before after
  pub reaches : Reaches (machine bytes) before.readings.now s before.entries before.used before.log.now buffer
      (slave s.state s.length point) after.entries after.used after.log.now buffer'

-- the lent bytes are sent, all of them
pub record SendsBytes (job : Job) : Type 0 where
  pub counts : (count : ℕ) → count_of job count ≡ count
  pub sends : (bytes : List ℕ) (i : ℕ) → byte_at job bytes i ≡ get_or bytes i 0
