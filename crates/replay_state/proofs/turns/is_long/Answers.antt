-- `is_long`: where `head_of` finds a line of bytes, `head_fits` says that its width is at most the text's
-- length, so `text[w..]` is in range; `behind` says that this slice is `drop w`, on which `all_digits`
-- decides.
use mathlib.Core.Path.{sym, ◌∙◌}
use native.Mathlib.Omega.{arith}
use Rattle.replay_frames.proofs.Lengths.{head_fits}
use Rattle.replay_state.proofs.turns.is_long.Goals as goal

pub slice_bounds-all_digits-count : goal.slice_bounds-all_digits-count
slice_bounds-all_digits-count c = omega (arith, head_fits _ _ (sym c.head_of.ensures ∙ c.in-Some.is), c.width-w.ensures)

pub slice_bounds-all_digits-start : goal.slice_bounds-all_digits-start
slice_bounds-all_digits-start c =
    omega (arith, head_fits _ _ (sym c.head_of.ensures ∙ c.in-Some.is), c.width-w.ensures)
