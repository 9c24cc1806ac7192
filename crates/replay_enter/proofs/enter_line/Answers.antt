-- `enter_line`: the result of `head_of` decides: a plain line is `enter` of what `plain` found; for a line of
-- bytes `head_fits` keeps `line[w..]` in range, `behind` says that this slice is `drop w`, and `enter_pairs`
-- does the rest for any readings and any text printed before.
use mathlib.Core.Path.{sym, ◌∙◌}
use native.Mathlib.Omega.{arith}
use Rattle.replay_frames.proofs.Lengths.{head_fits, behind}
use Rattle.replay_enter.proofs.enter_line.Goals as goal

pub slice_bounds-enter_pairs-count : goal.slice_bounds-enter_pairs-count
slice_bounds-enter_pairs-count c = omega (arith, head_fits _ _ (sym c.head_of.ensures ∙ c.in-Some.is), c.width-w.ensures)

pub returns-in-Some-clause-entered : goal.returns-in-Some-clause-entered
returns-in-Some-clause-entered c = let a = c.args in
    rw (sym c.head_of.ensures ∙ c.in-Some.is)
    (rw (behind a.line.now c.width-w.result, c.width-w.ensures)
    at (c.enter_pairs.ensures.entered a.work.now.text c.requires.lent))

pub slice_bounds-enter_pairs-start : goal.slice_bounds-enter_pairs-start
slice_bounds-enter_pairs-start c =
    omega (arith, head_fits _ _ (sym c.head_of.ensures ∙ c.in-Some.is), c.width-w.ensures)
