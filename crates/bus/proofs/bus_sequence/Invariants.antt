-- `bus_sequence`: the loop's invariant `Putting` (proofs/Sequence.antt): what is stored and what the entries
-- from k on still make are together the whole sequence. `put_on` and `passed` carry it over an entry, at most 4
-- places each, `all_put` closes it at the last.
use Rattle.bus.proofs.Sequence.{Putting}
use mathlib.Core.Path.{◌≡◌}
use Prim.Native.Nat.{◌<◌}
use Rattle.bus.proofs.bus_sequence.Given as goal

abbrev pub invariant-loop-words : goal.invariant-loop-words
invariant-loop-words l = (l.address < 1024)
    × (l.sequence.places.ghost_name ≡ l.initial.sequence.places.ghost_name)
    × Putting l.log l.initial.sequence.places.now l.address l.sequence.places.now l.bus l.sequence.at l.words-index
