-- `crc8::Table::code_of_lanes` meets its contract: the first j bytes of each quarter are taken (proofs/Quarters.antt).
use Prim.Native.Nat.{◌+◌}
use native.Mathlib.Omega.{arith}
use mathlib.Core.Path.{◌≡◌, refl}
use Rattle.crc8.specs.Crc8.{crc8_from}
use Rattle.crc8.proofs.Quarters.{a_byte_on, joined}
use Rattle.crc8.proofs.Table.code_of_lanes.Goals as goal

pub loop-j-init : goal.loop-j-init
unfolding crc8_from
loop-j-init c = (refl, refl, refl, refl)

pub loop-j-preserved : goal.loop-j-preserved
loop-j-preserved c =
    let j = c.loop-j.j in
    let lanes = c.args.lanes.now in
    let before = c.loop-j.invariant in
    let inside = c.loop-j-test.true in
    let size = c.told-lanes in (
      a_byte_on 0 j j lanes _ _ (omega arith) (omega (arith, size, inside)) before.0 c.looked_up-a.ensures,
      a_byte_on 16 (j + 16) j lanes _ _ (omega arith) (omega (arith, size, inside)) before.1 c.looked_up-b.ensures,
      a_byte_on 32 (j + 32) j lanes _ _ (omega arith) (omega (arith, size, inside)) before.2 c.looked_up-c.ensures,
      a_byte_on 48 (j + 48) j lanes _ _ (omega arith) (omega (arith, size, inside)) before.3 c.looked_up-d.ensures,
    )

pub returns : goal.returns
returns c =
    let end : c.loop-j.j ≡ 16 = omega (arith, c.loop-j-test.false, c.loop-j.auto.j-end) in
    let whole = c.loop-j.invariant in
    joined c.args.lanes.now _ _ _ _ _ _ _ _ c.told-lanes end whole.0 whole.1 whole.2 whole.3 c.after_zero.ensures
    c.after_zero-2.ensures c.after_zero-3.ensures
