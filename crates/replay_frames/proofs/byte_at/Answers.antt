-- `replay_frames::byte_at` meets its contract: where the line ends before, `none_at` says that there is no number.
use native.Mathlib.Omega.{arith}
use Rattle.replay_frames.proofs.Lengths.{none_at}
use Rattle.replay_frames.proofs.byte_at.Goals.{then-n-at-via-then-n-at, then-n-at-via-else-n-at+then-n-at-lt2}
use Rattle.replay_frames.proofs.byte_at.Goals as goal

pub returns-then-n-at : goal.returns-then-n-at
returns-then-n-at c = elim c.then-n-at.branch [
  | then-n-at-via-then-n-at w ↦ record { same = none_at _ _ (omega (arith, w.if-n-at.true)); below = tt }
  | then-n-at-via-else-n-at+then-n-at-lt2 w ↦ record {
    same = none_at _ _ (omega (arith, w.if-n-at-lt2.true, w.if-n-at.false));
    below = tt;
  }
]
