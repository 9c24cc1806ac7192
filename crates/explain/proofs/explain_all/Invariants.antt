-- `explain_all`: safety and termination, and what `explain_line` requires. The invariant is `Within`, the part of the chunk
-- that is still to be read being inside it.
use Rattle.text_stdin.specs.Handed.{Within}
use Rattle.explain.proofs.explain_all.Given as goal

abbrev pub invariant-loop : goal.invariant-loop
invariant-loop l = Within l.source l.chunk
