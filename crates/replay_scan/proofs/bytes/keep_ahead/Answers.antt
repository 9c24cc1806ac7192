-- `keep_ahead`: the invariant is the contract's `KeptAhead` for the k bytes kept; `kept_more` of
-- proofs/Kept.antt adds a byte that is no LF; `search` finds that test, whatever it is named. The range ends
-- where the chunk or the room does.
use native.Mathlib.Omega.{arith}
use mathlib.Core.Path.{refl}
use Rattle.replay_scan.proofs.Kept.{kept_more}
use Rattle.replay_scan.proofs.bytes.keep_ahead.Goals as goal

pub loop-k-preserved : goal.loop-k-preserved
loop-k-preserved c =
    kept_more c.loop-k.invariant (omega (arith, c.loop-k-test.true, c.min-most.ensures))
    (omega (arith, c.loop-k-test.true, c.min-most.ensures, c.loop-k.invariant.size)) refl search
