-- `step`: where readings were run, `run_readings`'s contract is the step; where none were, it says that nothing
-- has changed, and by `still_sound` and `stored_none` of proofs/NoRun.antt `line_or_bytes`'s contract is the step.
use native.Mathlib.Omega.{arith}
use Rattle.replay_feed.proofs.step.Goals as goal

pub returns-then-n-gt0-clause-steps : goal.returns-then-n-gt0-clause-steps
returns-then-n-gt0-clause-steps c = (
  c.run_readings-n.ensures.went _ _ _ _ _ _ _ c.requires.sound,
  omega arith,
  omega (arith, c.if-n-gt0.true),
  c.run_readings-n.ensures.inside,
)
