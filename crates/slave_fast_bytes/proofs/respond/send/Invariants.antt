-- `send`: the bytes so far are a run of the response to byte i of the chunk, each with its reading and its two entries.
use Rattle.slave_fast_bytes.proofs.Sending.{Sending}
use Rattle.slave_fast_bytes.proofs.respond.send.Given as goal

abbrev pub invariant-loop-i : goal.invariant-loop-i
invariant-loop-i l = Sending l.from l.end l.bytes l.initial.recording l.i l.recording
