-- `number`: the loop's invariant: the first i bytes write v, and v is below 2 ^ (4 * i), so that 8 digits fit
-- a u32 (`wider`, `below`). `one_more` adds a digit; at a byte that is none, `no_more` and `never`
-- (proofs/Numbers.antt) say that the rest cannot make it a number.
use Rattle.std.specs.Prelude.{Some, ◌≡◌, ◌<◌, ◌^◌, ◌*◌}
use Rattle.text_hex.specs.Text.{number_at}
use Rattle.text_hex.proofs.digits.number.Given as goal

abbrev pub invariant-loop-c : goal.invariant-loop-c
invariant-loop-c l = record { same : number_at l.line l.at l.c-index ≡ Some l.v; below : l.v < 2 ^ (4 * l.c-index) }
