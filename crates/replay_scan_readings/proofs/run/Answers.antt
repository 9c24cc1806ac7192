-- `run`: `digit_values` of proofs/Words.antt reads the rule off the whole table.
use mathlib.Core.Path.{refl}
use Rattle.text_hex.specs.Text.{digit_of}
use Rattle.text_hex.proofs.Tables.{every}
use Rattle.replay_scan_readings.specs.Inner.Run.{marked}
use Rattle.replay_scan_readings.proofs.Words.{digit_values}
use Rattle.replay_scan_readings.proofs.run.Goals as goal

pub invariant_of-digits : goal.invariant_of-digits
unfolding every marked digit_of
invariant_of-digits c = record { of_bytes = digit_values _ refl refl }
