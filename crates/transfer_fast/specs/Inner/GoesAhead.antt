-- A transfer comes to another point of its run, or to its next operation, whatever its other operations are.
use Rattle.std.specs.Prelude.{ℕ, Bool, List, Option, Ok, ◌≤◌}
use Rattle.regs.specs.Inner.Recording.{Keeps, room_of}
use Rattle.regs.specs.declared.access.Recording.{Recording}
use Rattle.transfer.specs.Inner.Machine.{machine, moved_to}
use Rattle.transfer.specs.declared.Point.{Point}
use Rattle.transfer.specs.declared.Transfer.{Transfer}
use Rattle.regs_runs.specs.Inner.Reaches.{Reaches}

pub record GoesAhead (t : Transfer) (bytes : List ℕ) (before : Recording) (b : List ℕ) (after : Recording) (b' : List ℕ)
    (reached : Option Point) : Type 0 where
  pub keeps : Keeps before after
  pub room : before.entries ≤ room_of before → after.entries ≤ room_of after
  pub reaches : (coded : Bool) (kinds lengths : List ℕ)
      → Reaches (machine coded kinds lengths bytes) before.readings.now t before.entries before.used before.log.now b
      (moved_to coded kinds lengths t (Ok reached)) after.entries after.used after.log.now b'
