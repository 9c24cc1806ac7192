-- `polls`: the polls so far found the flag not set, and each took a reading and an entry.
use Rattle.transfer_fast_polls.proofs.AtFlag.{awaiting}
use Rattle.transfer_fast_polls.proofs.Still.{Staying}
use Rattle.transfer_fast_polls.proofs.flag.polls.Given as goal

abbrev pub invariant-loop : goal.invariant-loop
invariant-loop l = Staying (awaiting l.flag) l.initial.recording l.counter l.counter l.recording
