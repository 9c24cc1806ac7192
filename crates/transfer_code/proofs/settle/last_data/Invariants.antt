-- `last_data`: the access that is looked for is among the first k entries.
use mathlib.Core.Path.{◌≡◌}
use Rattle.transfer_code.specs.Inner.Settling.{last_at}
use Rattle.transfer_code.proofs.settle.last_data.Given as goal

abbrev pub invariant-loop-k : goal.invariant-loop-k
invariant-loop-k l = last_at l.log l.k ≡ last_at l.log l.entries
