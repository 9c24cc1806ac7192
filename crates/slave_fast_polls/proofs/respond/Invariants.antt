-- `respond`: the polls so far found nothing, and each took a reading and three entries.
use Rattle.slave_fast_polls.proofs.Idling.{Idling}
use Rattle.slave_fast_polls.proofs.respond.Given as goal

abbrev pub invariant-loop : goal.invariant-loop
invariant-loop l = Idling l.initial.recording l.counter l.recording
