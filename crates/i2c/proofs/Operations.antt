-- The operations of a transfer, one after the other, for both modes together.
use Prim.Native.Nat.{ℕ, ◌+◌, ◌≤◌}
use native.Mathlib.Omega.{arith}
use mathlib.Core.Bool.{Bool, true, false, ◌&&◌}
use mathlib.Core.List.{List, [], ◌∷◌}
use mathlib.Core.Path.{◌≡◌, refl}
use lib.Dec.{eqb}
use borrow.Author.Tests.{eq-eqb, ne_eqb, eqb-false}
use Rattle.regs.proofs.Tests.{by_test}
use Rattle.regs.specs.Program.{Behaviour}
use Rattle.regs.specs.declared.answers.Answer.{Answer}
use Rattle.regs.proofs.Refine.{ends_agree}
use Rattle.master.specs.Driver.{reason_of}
use Rattle.master.specs.Blocking.{read_blocking_internal, write_blocking_internal}
use Rattle.master.specs.Async.{read_async_internal}
use Rattle.master.specs.Transfer.{read_internal, write_internal}
use Rattle.transfer.specs.Inner.Points.{with_point, mode_of}
use Rattle.transfer.specs.Inner.Machine.{next_at, write_point, read_point, some_read}
use Rattle.transfer.specs.declared.Transfer.{Transfer}
use Rattle.transfer.specs.declared.Mode.{Mode}
use Rattle.transfer.specs.declared.Mode.TheVariants.{Blocking, Async}
use Rattle.i2c.proofs.Basics.{MOST, M, Agrees}
use Rattle.i2c.proofs.Bytes.{Held}
use Rattle.i2c.proofs.EndAsync.{Good}
use Rattle.i2c.proofs.ReadsBlocking.{read_blocking_agrees}
use Rattle.i2c.proofs.WritesBlocking.{write_blocking_agrees}
use Rattle.i2c.proofs.ReadsAsync.{read_async_agrees}
use Rattle.i2c.proofs.WritesAsync.{write_async_agrees}

module _ (coded : Bool) (kinds lengths bytes : List ℕ) where
  module _ (t : Transfer) (k : Unit {0} → Behaviour (Unit {0}) Answer) (top n m : ℕ) (h : m ≤ top) (l : m ≤ n)
      (good : Good coded kinds lengths bytes t k top) (b : List ℕ) where
    -- a read operation that is empty, or not
    empty_read : (mode : Mode) → eqb t.operation.len 0 ≡ true
        → Agrees coded kinds lengths bytes m (with_point t (read_point mode t.operation.len)) b
        (read_internal reason_of (mode_of mode) t.operation.at t.operation.len t.operation.restart t.operation.send_stop n k)
    unfolding read_point read_blocking_internal read_async_internal next_at
    empty_read Blocking q = rw q (ends_agree (M coded kinds lengths bytes) m refl)
    empty_read Async q = rw q (ends_agree (M coded kinds lengths bytes) m refl)

    full_read : (mode : Mode) → t.operation.at + t.operation.len ≤ MOST → eqb t.operation.len 0 ≡ false
        → Agrees coded kinds lengths bytes m (with_point t (read_point mode t.operation.len)) b
        (read_internal reason_of (mode_of mode) t.operation.at t.operation.len t.operation.restart t.operation.send_stop n k)
    unfolding read_point some_read
    full_read Blocking small q = rw q
        (read_blocking_agrees coded kinds lengths bytes t small k top n good m h l (omega (arith, eqb-false t.operation.len 0 q))
        b)
    full_read Async small q = rw q
        (read_async_agrees coded kinds lengths bytes t k top n m h l (omega (arith, eqb-false t.operation.len 0 q)) small good b)

    pub read_agrees : (mode : Mode) (restart : Bool) → t.operation.restart ≡ restart → t.operation.at + t.operation.len ≤ MOST
        → Agrees coded kinds lengths bytes m (with_point t (read_point mode t.operation.len)) b
        (read_internal reason_of (mode_of mode) t.operation.at t.operation.len restart t.operation.send_stop n k)
    read_agrees mode restart e small = rw (← e) (by_test (eqb t.operation.len 0) (λ q. empty_read mode q) (λ q. full_read mode small q))

    empty_write : eqb t.operation.len 0 ≡ true
        → Agrees coded kinds lengths bytes m (with_point t (write_point coded Blocking t.operation.len)) b
        (write_blocking_internal reason_of [] t.operation.send_stop n k)
    unfolding write_point write_blocking_internal next_at
    empty_write q = rw q (ends_agree (M coded kinds lengths bytes) m refl)

    -- an empty write is refused before this, where a packet error code goes with the transfer
    pub write_agrees : (mode : Mode) (ws : List ℕ) → Held bytes t ws 0 → (coded && eqb t.operation.len 0) ≡ false
        → Agrees coded kinds lengths bytes m (with_point t (write_point coded mode t.operation.len)) b
        (write_internal reason_of (mode_of mode) ws t.operation.send_stop n k)
    unfolding write_point
    write_agrees Blocking [] held some = empty_write (eq-eqb t.operation.len 0 (omega (arith, held.sum)))
    write_agrees Blocking (byte ∷ ws) held some = rw (ne_eqb t.operation.len 0 (λ z. omega (arith, held.sum)))
        (write_blocking_agrees coded kinds lengths bytes t k top n good (byte ∷ ws) m h l b held
        (omega (arith, held.sum)))
    write_agrees Async ws held some = rw some (write_async_agrees coded kinds lengths bytes t k top n m h l ws held good b)
