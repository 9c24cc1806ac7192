-- A call whose machine agrees with its definition is stepped as that definition says. It rests on `stepped_is`.
use Prim.Native.Nat.{ℕ, suc, ◌/◌, ◌≤◌}
use native.Mathlib.Nat.{le_refl}
use mathlib.Core.List.{List}
use lib.ListN.{length}
use Rattle.regs.specs.Program.{Program, ends}
use Rattle.regs.specs.Steps.{SteppedAs}
use Rattle.regs.specs.Steps.{Machine}
use Rattle.regs.specs.declared.answers.Answer.{Answer}
use Rattle.regs.proofs.Refine.{Agree}
use Rattle.regs.proofs.Enough.{stepped_is}

-- from the point that the driver's own state starts the machine at
pub stepped_as : (M : Machine) (p : Program M.K Answer Answer) (start : M.K → M.S)
    → ((z : M.K) (b : List ℕ) (m n : ℕ) → m ≤ n → Agree M m (start z) b b z (p n ends)) → SteppedAs M start p
stepped_as M p start agrees log readings buffer z =
    stepped_is M (length log / 2) (start z) (p (suc (length log / 2)) ends) buffer buffer z
    (agrees z buffer (suc (length log / 2)) (suc (length log / 2)) (le_refl (suc (length log / 2)))).steps readings
