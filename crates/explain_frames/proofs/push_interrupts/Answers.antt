-- `explain_frames::push_interrupts` meets its contract.
use native.Mathlib.Omega.{arith}
use Rattle.text_hex.proofs.Adding.{at_most}
use Rattle.explain_frames.specs.Tables.{interrupts_flags}
use Rattle.explain_frames.proofs.push_interrupts.Goals as goal

pub returns : goal.returns
unfolding interrupts_flags
returns c = at_most 425 (omega arith) c.push_flags.ensures
