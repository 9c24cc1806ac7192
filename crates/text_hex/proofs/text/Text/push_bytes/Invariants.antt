-- `push_bytes`: the digits of the bytes so far are put, and those of the others are to come (`Adding` of
-- proofs/Adding.antt).
use Rattle.std.specs.Prelude.{◌*◌, drop}
use Rattle.text_hex.specs.Print.{bytes_text}
use Rattle.text_hex.proofs.Adding.{Adding}
use Rattle.text_hex.proofs.text.Text.push_bytes.Given as goal

abbrev pub invariant-loop-b : goal.invariant-loop-b
invariant-loop-b l = Adding l.initial.self (bytes_text l.bytes) (bytes_text (drop l.b-index l.bytes)) (2 * l.b-index) l.self
