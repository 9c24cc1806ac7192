-- `address_in`: the loop's invariant is that the first value written to TAR from entry k on is that of the
-- whole log. `first_here` ends it at a write, `first_later` passes an entry that writes none, `first_none`
-- gives 0 at the end (proofs/Sequence.antt).
use Rattle.bus.proofs.Sequence.{first}
use Rattle.regs.specs.Registers.{TAR}
use mathlib.Core.Path.{◌≡◌}
use Rattle.bus.proofs.address_in.Given as goal

abbrev pub invariant-loop-words : goal.invariant-loop-words
invariant-loop-words l = first TAR l.log l.words-index ≡ first TAR l.log 0
