-- `take`: the loop's invariant `Taking` says that the bytes copied and those from i on make the same line as
-- all of them; `taken_byte`, `dropped_byte` (buffer full) and `taken_line` (LF) of proofs/Taking.antt carry
-- the three branches.
use Rattle.std.proofs.Math.Seq.{slice}
use Rattle.text_stdin.proofs.Taking.{Taking}
use Rattle.text_stdin.proofs.take.Given as goal

abbrev pub invariant-loop-i : goal.invariant-loop-i
invariant-loop-i l =
    Taking (slice l.at l.filled l.chunk) l.held l.initial.line l.chunk l.filled l.line l.i l.n
