-- `crc8::Table::code_of_lanes` meets its contract: the first j bytes of each quarter are taken (proofs/Quarters.antt).
use mathlib.Core.Path.{◌≡◌}
use Rattle.crc8.proofs.Quarters.{code_so_far}
use Rattle.crc8.proofs.Table.code_of_lanes.Given as goal

abbrev pub invariant-loop-j : goal.invariant-loop-j
invariant-loop-j l =
    (l.a ≡ code_so_far 0 l.lanes l.j) × (l.b ≡ code_so_far 16 l.lanes l.j) × (l.c ≡ code_so_far 32 l.lanes l.j)
    × (l.d ≡ code_so_far 48 l.lanes l.j)
