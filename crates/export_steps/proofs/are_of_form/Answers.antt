-- `are_of_form`: kinds that are more or fewer than those of the form (proofs/KindsOfForm.antt).
use native.Mathlib.Omega.{arith}
use Rattle.export_steps.proofs.KindsOfForm.{not_read, not_write, not_write_read}
use Rattle.export_steps.proofs.are_of_form.Goals as goal

pub returns-in_default-matches-5 : goal.returns-in_default-matches-5
returns-in_default-matches-5 c =
    let long = c.in_default-matches.len_at_least in not_read _ _ c.in-0.is (λ one. omega (arith, long, one))

pub returns-in_default-matches-2-3 : goal.returns-in_default-matches-2-3
returns-in_default-matches-2-3 c =
    let long = c.in_default-matches-2.len_at_least in not_write _ _ c.in-1.is (λ one. omega (arith, long, one))

pub returns-in_default-matches-3 : goal.returns-in_default-matches-3
returns-in_default-matches-3 c =
    let short = c.in_default-matches-3.len_below in not_write_read _ _ c.in-2.is (λ two. omega (arith, short, two))

pub returns-in_default-matches-3-4 : goal.returns-in_default-matches-3-4
returns-in_default-matches-3-4 c =
    let long = c.in_default-matches-3.len_at_least in not_write_read _ _ c.in-2.is (λ two. omega (arith, long, two))
