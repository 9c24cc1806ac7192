-- `Digits::value`: the table's rule at the byte, and `marked_most`.
use borrow.Author.Rules.{rules}
use native.Mathlib.Omega.{arith}
use Rattle.replay_scan_readings.proofs.Words.{marked_most}
use Rattle.replay_scan_readings.proofs.Digits.value.Goals as goal

pub returns : goal.returns
returns c = let e = c.args.self.now.of_bytes.value c.args.c (search rules) in
    (e, omega (arith, marked_most c.args.c))
