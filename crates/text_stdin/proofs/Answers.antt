-- What a read brought, by its answer.
use Prim.Native.Nat.{ℕ, zero, suc, ◌≤◌}
use native.Mathlib.Omega.{arith}
use mathlib.Core.List.{List}
use mathlib.Core.Path.{◌≡◌, refl}
use lib.ListN.{length}
use Rattle.std.specs.Prelude.{Option, Some, None}
use Rattle.text_stdin.specs.Reads.{got_by, Counted, Brought}
use Rattle.text_stdin.specs.declared.reads.Got.{Got}

-- what an answer says that was given to a chunk
within : (a : Option ℕ) (room : ℕ) → ((got_by a room).count ≤ room) × Counted (got_by a room).end (got_by a room).count
within None room = (omega arith, refl)
within (Some n) zero = (omega arith, refl)
within (Some zero) (suc room) = (omega arith, refl)
within (Some (suc k)) (suc room) = (omega arith, omega arith)

pub brought_by : (a : Option ℕ) (chunk : List ℕ) {r : Got} → r ≡ got_by a (length chunk) → Brought chunk r
brought_by a chunk e = rw e (let w = within a (length chunk) in record { inside = w.0; counted = w.1 })
