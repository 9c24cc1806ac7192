-- `push_states`: each offset selects its branch of `state_fields`; the literal table is `status_flags` by unfolding.
use Rattle.std.proofs.Common.{rules}
use Rattle.text_hex.proofs.Adding.{at_most, no_text}
use Rattle.explain_frames.specs.Texts.{state_fields}
use Rattle.explain_frames.specs.Tables.{status_flags}
use Rattle.explain_frames.proofs.push_states.Goals as goal

pub returns-in-112 : goal.returns-in-112
unfolding state_fields status_flags
returns-in-112 c = search (rules, at_most)

pub returns-in-128 : goal.returns-in-128
unfolding state_fields
returns-in-128 c = search (rules, at_most)

pub returns-in_default : goal.returns-in_default
unfolding state_fields
returns-in_default c = search (rules, no_text)
