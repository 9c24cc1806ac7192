-- `push_text`: the bytes so far are put, and the others are to come (`Adding` of proofs/Adding.antt).
use Rattle.std.specs.Prelude.{drop}
use Rattle.text_hex.proofs.Adding.{Adding}
use Rattle.text_hex.proofs.text.Text.push_text.Given as goal

abbrev pub invariant-loop-c : goal.invariant-loop-c
invariant-loop-c l = Adding l.initial.self l.bytes (drop l.c-index l.bytes) l.c-index l.self
