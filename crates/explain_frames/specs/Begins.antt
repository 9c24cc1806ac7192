-- The rows of what a line begins with, in the table `words`.
use Rattle.std.specs.Prelude.{ℕ}
use Rattle.explain_frames.specs.declared.Begin.{Begin}
use Rattle.explain_frames.specs.declared.Begin.TheVariants.{Read, Write, Pending, BlockReset, Buffer, Answer}

abbrev pub begin_row : Begin → ℕ
begin_row Read = 0
begin_row Write = 1
begin_row Pending = 2
begin_row BlockReset = 3
begin_row Buffer = 4
begin_row Answer = 5
