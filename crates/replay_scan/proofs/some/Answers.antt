-- `some`: where no run is ahead, part and kept bytes are as they were, and the one byte read is the chunk's first.
use Rattle.std.proofs.Common.{arith}
use mathlib.Core.Path.{refl}
use Rattle.replay_scan.proofs.Moves.{byte_read}
use Rattle.replay_scan.proofs.some.Goals as goal

pub returns-clause-beside : goal.returns-clause-beside
returns-clause-beside c = λ lists buffer log g.
    let none = c.run-used.ensures.none (omega (arith, c.if-used-gt0.false)) in
    let w = (rw (none.0, none.1) at (c.one.ensures.beside lists buffer log)) g in
    (byte_read c.args.chunk.now c.requires.inside refl w.0, w.1)
