-- What both async transfers end with: `wait_stop_det`, then `?`.
use Prim.Native.Nat.{ℕ, ◌≤◌}
use mathlib.Core.Bool.{Bool}
use mathlib.Core.List.{List}
use Rattle.regs.specs.Program.{Behaviour}
use Rattle.regs.specs.declared.answers.Answer.{Answer}
use Rattle.master.specs.Driver.{Tried, try, reason_of}
use Rattle.master.specs.Async.{wait_stop_det}
use Rattle.transfer.specs.Inner.Points.{with_point}
use Rattle.transfer.specs.Inner.Machine.{wait_stop, moved_to, begun}
use Rattle.transfer.specs.declared.Transfer.{Transfer}
use Rattle.transfer.specs.Inner.Points as T
use Rattle.transfer.specs.declared.Point.{Point}
use Rattle.i2c.proofs.Basics.{Agrees, as_tried, fails, stops_agree}

-- what follows the loop of a transfer, over what follows the operation
abbrev pub ending : Transfer → (Unit {0} → Behaviour (Unit {0}) Answer) → ℕ → Tried (Unit {0}) → Behaviour (Unit {0}) Answer
ending t k n r = wait_stop_det reason_of r t.operation.send_stop n (λ r. try r n k)

module _ (coded : Bool) (kinds lengths bytes : List ℕ) where
  -- the next operation, or the transfer's end, does what k does
  abbrev pub Good : Transfer → (Unit {0} → Behaviour (Unit {0}) Answer) → ℕ → Type 0
  Good t k top = (m : ℕ) → m ≤ top → (p : Point) (b : List ℕ) → Agrees coded kinds lengths bytes m (begun coded kinds lengths (with_point t p)) b (k tt)

  pub ending_agrees : (t : Transfer) (k : Unit {0} → Behaviour (Unit {0}) Answer) (top n : ℕ)
      → Good t k top
      → (had : T.Tried) (m : ℕ)
      → m ≤ top
      → m ≤ n
      → (p : Point) (b : List ℕ)
      → Agrees coded kinds lengths bytes m (moved_to coded kinds lengths (with_point t p) (wait_stop t.operation.send_stop had)) b
      (ending t k n (as_tried had))
  ending_agrees t k top n good =
      stops_agree coded kinds lengths bytes t (λ r. try r n k) top n good (λ m h b r. fails coded kinds lengths bytes t m b r)
