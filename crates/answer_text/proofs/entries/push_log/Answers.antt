-- `push_log`: the table holds the digits of every byte, by one test over all of its entries.
use mathlib.Core.Path.{refl}
use Rattle.text_hex.specs.Text.{char_of}
use Rattle.text_hex.proofs.Tables.{every, digit_at, digit_pairs}
use Rattle.answer_text.proofs.entries.push_log.Goals as goal

pub invariant_of-pairs : goal.invariant_of-pairs
unfolding every digit_at char_of
invariant_of-pairs c = record { of_bytes = digit_pairs _ refl refl }
