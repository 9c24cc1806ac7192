-- `draw_all`: safety and termination, and what `draw_line` requires. The invariant is `Within`, the part of the chunk
-- that is still to be read being inside it.
use Rattle.text_stdin.specs.Handed.{Within}
use Rattle.bus_svg.proofs.draw_all.Given as goal

abbrev pub invariant-loop : goal.invariant-loop
invariant-loop l = Within l.source l.chunk
