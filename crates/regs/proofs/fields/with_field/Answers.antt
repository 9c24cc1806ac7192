-- `with_field`: the old field is cut out by a mask and the new one put in its place (`field_replaced`).
use Rattle.std.proofs.Common.{rules}
use Rattle.regs.proofs.Bits.{field_replaced}
use Rattle.regs.proofs.fields.with_field.Goals as goal

-- src/fields.rt:19:1
pub returns : goal.returns
returns c =
    field_replaced c.args.n c.args.k c.args.w c.args.x (search rules) (search rules)
    (search rules) (search rules)
