-- `crc8::Table::new`: the table is computed to be the codes of all bytes.
use mathlib.Core.Bool.{xor}
use mathlib.Core.Path.{refl}
use Rattle.crc8.specs.Crc8.{after_bit, after_bits, after_byte}
use Rattle.crc8.proofs.Codes.{codes, all_codes}
use Rattle.crc8.proofs.Table.new.Goals as goal

pub invariant_of-result : goal.invariant_of-result
unfolding codes after_byte after_bits after_bit xor
invariant_of-result c = record { right = all_codes _ refl }
