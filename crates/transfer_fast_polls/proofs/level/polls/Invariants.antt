-- `polls`: the polls so far found no byte, and each took two readings and two entries.
use Prim.Native.Nat.{◌*◌}
use Rattle.transfer_fast_polls.proofs.AtLevel.{at_level}
use Rattle.transfer_fast_polls.proofs.Still.{Staying}
use Rattle.transfer_fast_polls.proofs.level.polls.Given as goal

abbrev pub invariant-loop : goal.invariant-loop
invariant-loop l = Staying at_level l.initial.recording (l.counter * 2) (l.counter * 2) l.recording
