-- `push_abort_of`: the flags of no rows are no text, and any other number adds nothing.
use Rattle.std.proofs.Common.{rules}
use Rattle.text_hex.proofs.Adding.{no_text}
use Rattle.text_tables.specs.Rows.{flags}
use Rattle.explain_frames.specs.Texts.{abort_text}
use Rattle.explain_frames.proofs.push_abort_of.Goals as goal

pub returns-then-n-eq11 : goal.returns-then-n-eq11
unfolding abort_text flags
returns-then-n-eq11 c = search (rules, no_text)

pub returns-else-n-eq23 : goal.returns-else-n-eq23
unfolding abort_text
returns-else-n-eq23 c = search (rules, no_text)
