-- `with_operation`: `Room` puts the part of the buffer in range, and the part from the cursor to its end has n bytes.
use Prim.Native.Nat.{◌+◌, ◌-◌}
use native.Mathlib.Omega.{arith}
use mathlib.Core.Path.{◌≡◌}
use Rattle.transfer_code.specs.Inner.Coding.{with_operation}
use Rattle.transfer_code.proofs.code.Coding.with_operation.Goals as goal

pub returns-in-Write : goal.returns-in-Write
unfolding with_operation
returns-in-Write c =
    let e : c.args.self.sent + c.args.n - c.args.self.sent ≡ c.args.n = omega arith in
    simp (c.in-Write.is, c.crc8_from.ensures, c.opening-crc.ensures, e)

pub returns-in-Read : goal.returns-in-Read
unfolding with_operation
returns-in-Read c =
    let e : c.args.self.came + c.args.n - c.args.self.came ≡ c.args.n = omega arith in
    simp (c.in-Read.is, c.crc8_from-in-Read.ensures, c.opening-crc.ensures, e)
