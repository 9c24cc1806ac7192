-- A call whose machine agrees with its definition is bounded by its readings and its log alone.
use Prim.Native.Nat.{ℕ, suc, ◌/◌, ◌≤◌}
use native.Mathlib.Nat.{le_refl}
use mathlib.Core.List.{List}
use lib.ListN.{length}
use Rattle.regs.specs.Program.{Program, ends}
use Rattle.regs.specs.Bounds.{Bounded}
use Rattle.regs.specs.Steps.{Machine}
use Rattle.regs.specs.declared.answers.Answer.{Answer}
use Rattle.regs.proofs.Refine.{Agree}
use Rattle.regs.proofs.Enough.{enough_from}
use Rattle.regs.proofs.Spent.{full_only, dry_only}

-- from the point that the driver's own state starts the machine at
pub bounded_by : (M : Machine) (p : Program M.K Answer Answer) (start : M.K → M.S)
    → ((z : M.K) (b : List ℕ) (m n : ℕ) → m ≤ n → Agree M m (start z) b b z (p n ends)) → Bounded p
bounded_by M p start agrees =
    record {
      turns = λ room n h rs b z. enough_from M (start z) p b z (agrees z b) room n h rs;
      full = λ log rs b z. full_only M (length log / 2) (start z) (p (suc (length log / 2)) ends) b b z
          (agrees z b (suc (length log / 2)) (suc (length log / 2)) (le_refl (suc (length log / 2)))).steps rs;
      dry = λ log rs b z. dry_only M (length log / 2) (start z) (p (suc (length log / 2)) ends) b b z
          (agrees z b (suc (length log / 2)) (suc (length log / 2)) (le_refl (suc (length log / 2)))).steps rs;
    }
