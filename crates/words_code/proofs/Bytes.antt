-- The register behind an address byte.
use Prim.Native.Nat.{ℕ, ◌+◌, ◌*◌}
use mathlib.Core.Path.{◌≡◌}
use lib.Dec.{eqb}
use Rattle.crc8.specs.Crc8.{after_byte, crc8_from}
use Rattle.std.specs.Prelude.{if◌then◌else◌}
use Rattle.regs.proofs.Tests.{by_test}
use Rattle.master.specs.Operations.{WRITE}
use Rattle.master.specs.Inner.Message.{opened}

pub opening_is : (crc address last kind : ℕ)
    → crc8_from crc (opened address last kind)
    ≡ (if eqb last kind then crc else after_byte crc (address * 2 + (if eqb kind WRITE then 0 else 1)))
unfolding crc8_from
opening_is crc address last kind = by_test (eqb last kind) (λ q. rw q) (λ q. rw q)
