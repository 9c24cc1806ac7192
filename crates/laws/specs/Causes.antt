-- The table of refusals (docs/MANUAL.md, "The numbers"), its column "No.", for the rows that say "no access": why a call
-- is turned down before its first access, in the order in which these causes count.
use Rattle.std.specs.Prelude.{ℕ, zero, suc, Bool, true, false, not, ◌&&◌, List, [], ◌∷◌, ◌≡◌, eqb, ltb, length, if◌then◌else◌, is_some}
use Rattle.regs.specs.Answers.{number}
use Rattle.regs.specs.Left.{no_access}
use Rattle.regs.specs.declared.answers.Reply.{Reply}
use Rattle.master.specs.Operations.{Operation, Mode, blocking, async}
use Rattle.master.specs.Calls.{Lent, within_limits, operations_in}
use Rattle.slave.specs.Calls as Slave
use Rattle.slave.specs.Calls.{resets, listens, responds, fills, responds_and_fills}
use Rattle.slave.specs.declared.SlaveState.{SlaveState}
use Rattle.laws.specs.Calls.{Call, clock, master, slave, State, left_by}

-- a row of the table: whether its cause applies, and its number
pub record Row : Type 0 where
  pub applies : Bool
  pub no : ℕ

infixl 10 ◌numbered◌
abbrev pub ◌numbered◌ : Bool → ℕ → Row
◌numbered◌ b n = record { applies = b; no = n }

-- an async transaction of no operations, which makes no access whatever its address
abbrev pub idle : Mode → List (Operation ℕ) → Bool
idle blocking os = false
idle async [] = true
idle async (o ∷ os) = false

-- the same with a packet error code as without: the limits are those of the data
abbrev pub master_rows : Mode → ℕ → Lent → List Row
master_rows mode address lent =
    (not (within_limits lent) numbered 20) ∷ (not (idle mode (operations_in lent)) && not (ltb address 0x80) numbered 6) ∷ []

abbrev pub slave_rows : Slave.Call → SlaveState → List Row
slave_rows (resets address general_call) me = (eqb address 0 numbered 16) ∷ []
slave_rows (listens buffer) me =
    (ltb 4096 (length buffer) numbered 20) ∷ (is_some me.pending_byte && eqb (length buffer) 0 numbered 17) ∷ []
slave_rows (responds bytes) me = (ltb 4096 (length bytes) numbered 20) ∷ (eqb (length bytes) 0 numbered 13) ∷ []
slave_rows (fills fill) me = []
slave_rows (responds_and_fills bytes fill) me = (ltb 4096 (length bytes) numbered 20) ∷ (eqb (length bytes) 0 numbered 13) ∷ []

abbrev pub rows : (c : Call) → State c → List Row
rows (clock frequency clk) me = (ltb 1000000 frequency numbered 1) ∷ (eqb frequency 0 numbered 2) ∷ (ltb 1431655765 clk numbered 3) ∷ []
rows (master c) me = master_rows c.mode c.address c.lent
rows (slave c) me = slave_rows c me

-- the number of the first row that applies, 0 where none does
abbrev pub first : List Row → ℕ
first [] = 0
first (r ∷ rs) = if r.applies then r.no else first rs

-- a reply has that number; where it is 0, the reply has none of the numbers of no access
abbrev pub NumberedBy : ℕ → Reply → Type 0
NumberedBy zero r = no_access r ≡ false
NumberedBy (suc n) r = number r ≡ suc n

-- a call is turned down before its first access exactly if a row applies, with the number of the first that does
abbrev pub FirstCause : Type 0
FirstCause = (c : Call) (log readings : List ℕ) (me : State c) → NumberedBy (first (rows c me)) (left_by c log readings me).answer
