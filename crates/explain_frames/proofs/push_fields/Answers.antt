-- `push_fields`: each offset selects its branch of `fields`; the literal tables are those of the definitions by unfolding.
use Rattle.std.proofs.Common.{rules}
use Rattle.text_hex.proofs.Adding.{at_most}
use Rattle.explain_frames.specs.Texts.{fields}
use Rattle.explain_frames.specs.Tables.{con_flags, command_flags}
use Rattle.explain_frames.proofs.push_fields.Goals as goal

pub returns-in-0 : goal.returns-in-0
unfolding fields con_flags
returns-in-0 c = search (rules, at_most)

pub returns-in-16 : goal.returns-in-16
unfolding fields command_flags
returns-in-16 c = search (rules, at_most)

pub returns-in-48 : goal.returns-in-48
unfolding fields
returns-in-48 c = search (rules, at_most)

pub returns-in_default : goal.returns-in_default
unfolding fields
returns-in_default c = search (rules, at_most)
