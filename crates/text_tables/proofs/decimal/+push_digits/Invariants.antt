-- `push_digits`: k decreases with each call.
use Rattle.text_tables.proofs.decimal.+push_digits.Given as goal

abbrev pub decreases-push_digits : goal.decreases-push_digits
decreases-push_digits l = l.k
