-- `listen`: the polls so far found nothing, and each took two readings and four entries.
use Rattle.slave_fast_polls.proofs.Awaiting.{Awaiting}
use Rattle.slave_fast_polls.proofs.listen.Given as goal

abbrev pub invariant-loop : goal.invariant-loop
invariant-loop l = Awaiting l.initial.recording l.counter l.recording
