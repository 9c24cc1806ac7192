-- Every call is bounded by its readings and its log alone: a law of any machine that agrees with a program, at the five calls.
use Prim.Native.Nat.{ℕ, ◌≤◌}
use mathlib.Core.List.{List, []}
use lib.ListN.{length}
use Rattle.regs.specs.Program.{ends}
use Rattle.regs.specs.declared.answers.Answer.{Answer}
use Rattle.regs.proofs.Refine.{Agree}
use Rattle.regs.specs.Bounds.{Bounded}
use Rattle.regs.proofs.Bounded.{bounded_by}
use Rattle.slave.specs.I2cSlave.{Driver}
use Rattle.slave.specs.Calls.{Call, resets, listens, responds, fills, responds_and_fills, program}
use Rattle.slave.specs.declared.SlaveState.{SlaveState}
use Rattle.slave_steps.specs.Inner.Machine.{slave, machine}
use Rattle.slave_steps.specs.declared.Point.{Point}
use Rattle.slave_steps.proofs.Resets.{reset_agrees}
use Rattle.slave_steps.proofs.Agrees.{listen_agrees, respond_agrees, respond_till_stop_agrees, respond_and_fill_agrees}

by_machine : (bytes : List ℕ) (p : Driver Answer) (size : ℕ) (point : SlaveState → Point)
    → ((me : SlaveState) (b : List ℕ) (m n : ℕ) → m ≤ n → Agree (machine bytes) m (slave me size (point me)) b b me (p n ends)) → Bounded p
by_machine bytes p size point agrees = bounded_by (machine bytes) p (λ me. slave me size (point me)) agrees

pub bounded : (c : Call) → Bounded (program c)
bounded (resets address general_call) = by_machine [] _ _ _ (reset_agrees [] address general_call)
bounded (listens buffer) = by_machine [] _ _ _ (listen_agrees [] (length buffer))
bounded (responds bytes) = by_machine bytes _ _ _ (respond_agrees bytes)
bounded (fills fill) = by_machine [] _ _ _ (respond_till_stop_agrees [] fill)
bounded (responds_and_fills bytes fill) = by_machine bytes _ _ _ (respond_and_fill_agrees bytes fill)
