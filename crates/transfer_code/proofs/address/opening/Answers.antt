-- `opening`: where the direction is the same there is no address byte; else the register takes its lower 8 bits, and
-- by `low_byte` of crc8 that is as good as the whole byte of `opened`.
use mathlib.Core.Path.{sym, ap, ◌∙◌}
use Rattle.crc8.specs.Crc8.{after_byte}
use Rattle.transfer_code.proofs.Coding.{opened_same, opened_other}
use Rattle.transfer_code.proofs.address.opening.Goals as goal

pub returns-then-eq : goal.returns-then-eq
returns-then-eq c = opened_same _ _ _ _ (sym c.eq.ensures ∙ c.if-eq.true)

pub returns-else-eq : goal.returns-else-eq
returns-else-eq c =
    c.next.ensures ∙ ap (after_byte _) c.address_byte.ensures ∙ opened_other _ _ _ _ (sym c.eq.ensures ∙ c.if-eq.false)
