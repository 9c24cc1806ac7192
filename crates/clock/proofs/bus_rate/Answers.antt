-- `bus_rate`: by what `Wanted::new` and `Wanted::setting` say, the rate is one of three (`rated_outside`,
-- `rated_illegal`, `rated_legal`); the counts of a legal setting have a sum that fits and is not 0 (`legal_counts`).
use Rattle.clock.proofs.Rated.{legal_counts, rated_outside, rated_illegal, rated_legal}
use borrow.Author.Rules.{rules}
use native.Mathlib.Omega.{arith}
use mathlib.Core.Path.{sym, ◌∙◌}
use Rattle.clock.proofs.bus_rate.Goals as goal

pub returns-in_err-wanted : goal.returns-in_err-wanted
returns-in_err-wanted c =
    let h = rated_outside c.args.frequency c.args.clk _ c.in_err-wanted.ensures.refused in search rules

pub returns-in_err-n : goal.returns-in_err-n
returns-in_err-n c =
    let w = c.in_ok-wanted.ensures in
    let h = rated_illegal _ _ _ w.in_range (sym c.setting.ensures ∙ c.in_err-n.was) in
    rw (← w.same.0, ← w.same.1) (search rules)

pub overflow_add-periods : goal.overflow_add-periods
overflow_add-periods c = let n = legal_counts _ _ c.in_ok-n.n (sym c.setting.ensures ∙ c.in_ok-n.was) in
    record { fits = omega arith }

pub returns : goal.returns
returns c =
    let w = c.in_ok-wanted.ensures in
    rw (← w.same.0, ← w.same.1) (sym (rated_legal _ _ c.in_ok-n.n w.in_range (sym c.setting.ensures ∙ c.in_ok-n.was)))

pub nonzero_div-result : goal.nonzero_div-result
nonzero_div-result c = let n = legal_counts _ _ c.in_ok-n.n (sym c.setting.ensures ∙ c.in_ok-n.was) in omega arith

pub nonzero_rem-result : goal.nonzero_rem-result
nonzero_rem-result c = let n = legal_counts _ _ c.in_ok-n.n (sym c.setting.ensures ∙ c.in_ok-n.was) in omega arith
