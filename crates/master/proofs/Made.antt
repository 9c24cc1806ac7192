-- A plain call as demand 3 has it (`Made`), from what the call's contract says and from the type of the lent bytes.
use Prim.Native.Nat.{ℕ, ◌<◌}
use mathlib.Core.Bool.{false}
use mathlib.Core.List.{List, []}
use lib.ListN.{length}
use Rattle.regs.specs.Log.{Each, expected, Leaves, LeavesBuffer}
use Rattle.regs.specs.declared.access.Ran.{Ran}
use Rattle.master.specs.Operations.{Mode}
use Rattle.master.specs.Transfer.{read_call, write_call, write_read_call, transaction_call}
use Rattle.master.specs.Calls.{Lent, reads_into, writes_from, writes_then_reads, transacts, Call, bytes_in, left_by_call}
use Rattle.master.specs.Demand3.{Made}

module _ (mode : Mode) (address : ℕ) (readings before after : List ℕ) (r : Ran) where
  abbrev call_of : Lent → Call
  call_of lent = record { mode = mode; address = address; lent = lent; pec = false }

  abbrev made : (lent : Lent)
      → Each (λ b. b < 256) (bytes_in lent)
      → Leaves (left_by_call (call_of lent) before readings) before after r
      → Made
  made lent small left = record {
    call = call_of lent;
    readings = readings;
    before = before;
    after = after;
    ran = r;
    left = left;
    small = small;
  }

  abbrev pub read_made : (buffer b : List ℕ)
      → LeavesBuffer (expected (read_call mode address (length buffer)) before readings buffer tt) before after b r → Made
  read_made buffer b l = made (reads_into buffer) tt l.ran

  abbrev pub write_made : (bytes : List ℕ)
      → Each (λ b. b < 256) bytes
      → Leaves (expected (write_call mode address bytes) before readings [] tt) before after r
      → Made
  write_made bytes small l = made (writes_from bytes) small l

  abbrev pub write_read_made : (bytes buffer b : List ℕ)
      → Each (λ b. b < 256) bytes
      → LeavesBuffer (expected (write_read_call mode address bytes (length buffer)) before readings buffer tt) before after b r
      → Made
  write_read_made bytes buffer b small l = made (writes_then_reads bytes buffer) small l.ran

  abbrev pub transaction_made : (kinds lengths bytes buffer b : List ℕ)
      → Each (λ b. b < 256) bytes
      → LeavesBuffer
      (expected (transaction_call mode address kinds lengths bytes (length buffer)) before readings buffer tt)
      before after b r
      → Made
  transaction_made kinds lengths bytes buffer b small l = made (transacts kinds lengths bytes buffer) small l.ran
