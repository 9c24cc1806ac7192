-- `number`: the loop's invariant: the first i bytes write v, and v is below 2 ^ (4 * i), so that 8 digits fit
-- a u32 (`wider`, `below`). `one_more` adds a digit; at a byte that is none, `no_more` and `never`
-- (proofs/Numbers.antt) say that the rest cannot make it a number.
use Rattle.std.proofs.Common.{◌≡◌, ◌+◌, ◌∙◌, refl, sym, ap, lit<, None, arith, get_or}
use Rattle.text_hex.specs.Text.{digit_of, digit_in, number_at}
use Rattle.text_hex.proofs.Numbers.{is_digit, no_digit, one_more, no_more, never, wider, below, byte_in}
use Rattle.text_hex.proofs.digits.number.Goals as goal

pub loop-c-init : goal.loop-c-init
unfolding number_at
loop-c-init c = record { same = refl; below = lit< tt }

pub overflow_mul-v : goal.overflow_mul-v
overflow_mul-v c = omega (arith, below _ c.loop-c.invariant.below (omega arith))

pub overflow_add-v : goal.overflow_add-v
overflow_add-v c =
    let d = is_digit _ c.in_ok-d.d (sym c.digit.ensures ∙ c.in_ok-d.was) in
    omega (arith, below _ c.loop-c.invariant.below (omega arith), d.below, c.from.ensures)

pub returns-in_err-d : goal.returns-in_err-d
returns-in_err-d c =
    let a = c.args in
    let byte = byte_in a.line.now a.at a.n c.loop-c.c-index (omega arith) in
    let none : digit_in (get_or a.line.now (a.at + c.loop-c.c-index) 0) ≡ None =
    ap digit_in (sym byte) ∙ sym c.digit.ensures ∙ c.in_err-d.was in
    let end : number_at a.line.now a.at a.n ≡ None =
    never a.line.now a.at (c.loop-c.c-index + 1) a.n
    (no_more a.line.now a.at c.loop-c.c-index c.loop-c.v _ c.loop-c.invariant.same refl (no_digit _ none)) (omega arith) in
    rw c.from_residual.ensures (record { same = sym end; below = tt })

pub loop-c-preserved : goal.loop-c-preserved
loop-c-preserved c =
    let a = c.args in
    let d = is_digit _ c.in_ok-d.d (sym c.digit.ensures ∙ c.in_ok-d.was) in
    let byte = byte_in a.line.now a.at a.n c.loop-c.c-index (omega arith) in
    rw c.from.ensures (record {
      same = one_more a.line.now a.at c.loop-c.c-index c.loop-c.v c.in_ok-d.d c.loop-c.invariant.same (d.same ∙ ap digit_of byte) d.below;
      below = wider c.loop-c.c-index c.loop-c.invariant.below d.below;
    })
