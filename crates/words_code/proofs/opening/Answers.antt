-- `opening`: where the kinds are the same nothing is taken in (`opening_is`).
use native.Mathlib.Omega.{arith}
use Rattle.std.proofs.lemmas.Grind.{common_steps}
use Rattle.words_code.proofs.Bytes.{opening_is}
use Rattle.words_code.proofs.opening.Goals as goal

pub returns-then-last-kind : goal.returns-then-last-kind
returns-then-last-kind c = grind (arith, common_steps, opening_is)
