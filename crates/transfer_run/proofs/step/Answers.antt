-- `step`: `ahead_from` says how far the run came, `moved` is the transfer there, and the laws of
-- regs_runs/proofs/Reach.antt say what one access more makes of it: it stops the run (`recording_halts`, `ends`) or
-- leads on (`recording_goes`).
use Rattle.std.proofs.Common.{arith, rules, sym, ap, ◌∙◌, ◌≡◌, Err}
use Rattle.regs_runs.proofs.Reach.{ends, keeps_on, recording_halts, recording_goes, taken_by}
use Rattle.regs.specs.Store.{Performed}
use Rattle.regs.specs.Inner.Recording.{performed_in, entries_after}
use Rattle.transfer_run.proofs.step.Goals as goal

pub returns-in_err-v : goal.returns-in_err-v
returns-in_err-v c =
    let plan = c.args.plan.now in
    let a = c.ahead_from-reached.ensures in
    let g = rw (← c.moved-s.ensures, ← a.keeps.readings) at (a.reaches plan.coded plan.operations.kinds.now plan.operations.lengths.now) in
    let h = rw a.keeps.readings at (ends g (recording_halts g c.next_access.ensures c.perform.ensures c.in_err-v.was)) in
    let is : c.from_residual.result ≡ Err c.in_err-v.field-0.0 = search rules in
    rw is (keeps_on a.keeps c.perform.ensures.keeps, h)

pub returns : goal.returns
returns c =
    let plan = c.args.plan.now in
    let a = c.ahead_from-reached.ensures in
    let p = c.perform.ensures in
    let g = rw (← c.moved-s.ensures, ← a.keeps.readings) at (a.reaches plan.coded plan.operations.kinds.now plan.operations.lengths.now) in
    let h = rw (p.keeps.readings, a.keeps.readings) at (recording_goes g c.next_access.ensures p c.in_ok-v.was
    c.store.ensures c.keep.ensures c.advance.ensures) in
    let mid = c.ahead_from-reached.new.recording in
    let did = taken_by (performed_in mid c.next_access.result) mid.used (sym p.done ∙ c.in_ok-v.was) in
    let more = p.entries ∙ ap (λ (x : Performed). entries_after x mid.entries) did in
    (keeps_on a.keeps p.keeps, h, omega (arith, g.up, more))
