-- `bytes`: the bytes so far are a run of the machine, and each took a place, two readings and two entries.
use Rattle.slave_fast_bytes.proofs.Draining.{Draining}
use Rattle.slave_fast_bytes.proofs.listen.Message.bytes.Given as goal

abbrev pub invariant-loop : goal.invariant-loop
invariant-loop l = Draining l.initial.self l.initial.recording l.initial.buffer l.counter l.self l.recording l.buffer
