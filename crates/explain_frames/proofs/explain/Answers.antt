-- `explain`: a line that is too long, and a buffer that is too small, leave no text; else the text of the frame fits.
use Rattle.std.proofs.Common.{rules}
use Rattle.text_hex.proofs.Appends.{nothing, within}
use Rattle.explain_frames.specs.Texts.{explained}
use Rattle.explain_frames.proofs.explain.Goals as goal

pub returns-then-line-gt-LONGEST : goal.returns-then-line-gt-LONGEST
unfolding explained
returns-then-line-gt-LONGEST c = search (rules, nothing)

pub returns : goal.returns
unfolding explained
returns c = search (rules, within)
