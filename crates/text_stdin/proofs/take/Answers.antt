-- `take`: the loop's invariant `Taking` says that the bytes copied and those from i on make the same line as
-- all of them; `taken_byte`, `dropped_byte` (buffer full) and `taken_line` (LF) of proofs/Taking.antt carry
-- the three branches.
use Rattle.text_stdin.proofs.Taking.{taken_all, taken_line, taken_byte, dropped_byte}
use Rattle.text_stdin.proofs.take.Goals as goal

pub returns-then-c-eq10 : goal.returns-then-c-eq10
returns-then-c-eq10 c = taken_line c.loop-i.invariant c.loop-i-test.true c.if-c-eq10.true

pub loop-i-preserved-then-line-n : goal.loop-i-preserved-then-line-n
loop-i-preserved-then-line-n c = dropped_byte c.loop-i.invariant c.loop-i-test.true c.if-c-eq10.false c.if-line-n.true

pub loop-i-preserved : goal.loop-i-preserved
loop-i-preserved c = taken_byte c.loop-i.invariant c.loop-i-test.true c.if-c-eq10.false c.if-line-n.false

pub returns : goal.returns
returns c = taken_all c.loop-i.invariant c.loop-i-test.false
