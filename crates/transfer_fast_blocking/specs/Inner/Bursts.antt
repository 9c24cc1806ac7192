-- A burst: the run of a transfer comes from one point to another within one operation, whatever the
-- transfer's other operations are. It is promised of every transfer that has what the burst looks at,
-- and not of the one handed in alone.
use Rattle.std.specs.Prelude.{ℕ, Bool, not, ◌&&◌, List, ◌≡◌, ◌≤◌, eqb, ltb, length}
use Rattle.regs.specs.Fields.{level, tx_empty}
use Rattle.regs.specs.Inner.Recording.{Keeps, room_of}
use Rattle.regs.specs.declared.access.Recording.{Recording}
use Rattle.transfer.specs.Inner.Points.{with_point}
use Rattle.transfer.specs.Inner.Machine.{machine}
use Rattle.transfer.specs.declared.Transfer.{Transfer}
use Rattle.transfer.specs.declared.Point.{Point}
use Rattle.regs_runs.specs.Inner.Reaches.{Reaches}

-- what a blocking write looks at: place and length
pub record SameWrite (t t' : Transfer) : Type 0 where
  pub len : t'.operation.len ≡ t.operation.len
  pub at : t'.operation.at ≡ t.operation.at

-- what a blocking read looks at: RESTART too, which goes with its first byte
pub record SameRead (t t' : Transfer) : Type 0 where
  pub len : t'.operation.len ≡ t.operation.len
  pub at : t'.operation.at ≡ t.operation.at
  pub restart : t'.operation.restart ≡ t.operation.restart

-- of each transfer that is `alike`: at a point, with what is recorded and the buffer; and at the point, the
-- recording and the buffer that it comes to
pub record Bursts (alike : Transfer → Type 0) (bytes : List ℕ) (before : Recording) (b : List ℕ) (p : Point)
    (after : Recording) (b' : List ℕ) (p' : Point) : Type 0 where
  pub keeps : Keeps before after
  pub room : before.entries ≤ room_of before → after.entries ≤ room_of after
  pub size : length b' ≡ length b
  pub reaches : (coded : Bool) (kinds lengths : List ℕ) (t : Transfer) → alike t
      → Reaches (machine coded kinds lengths bytes) before.readings.now (with_point t p) before.entries before.used
      before.log.now b (with_point t p') after.entries after.used after.log.now b'

-- a burst is the same whatever it does not look at
abbrev pub ForAny : {A : Type 0} → (A → Type 0) → Type 0
ForAny {A} f = (a : A) → f a

-- ---- the readings that lead straight on

-- a blocking read: TXFLR has room for the word, and RXFLR has the byte
abbrev pub straight_read : ℕ → ℕ → Bool
straight_read room filled = ltb (level room) 16 && not (eqb (level filled) 0)

-- a blocking write: the FIFO has sent the word, and nothing was aborted
abbrev pub straight_write : ℕ → ℕ → Bool
straight_write stat source = tx_empty stat && eqb source 0
