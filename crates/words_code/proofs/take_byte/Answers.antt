-- `take_byte`: `opening` ensures the register behind the address byte where there is one, `next` that behind the byte.
use native.Mathlib.Omega.{arith}
use Rattle.std.proofs.lemmas.Grind.{common_steps}
use Rattle.master.specs.Inner.Running.{with_byte}
use Rattle.words_code.specs.Inner.Code.{sum_in}
use Rattle.words_code.proofs.Bytes.{opening_is}
use Rattle.words_code.proofs.take_byte.Goals as goal

pub returns : goal.returns
unfolding sum_in with_byte
returns c = grind (arith, common_steps, opening_is)
