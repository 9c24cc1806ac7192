-- The four forms of a transfer, plain and with a packet error code: the machine's run, or that run with its code
-- settled, leaves the outcome of the call. By `read_leaves` and its kin (Called.antt) and `form_leaves` (WithCode.antt).
use Prim.Native.Nat.{ℕ, ◌/◌}
use mathlib.Core.Bool.{Bool, true, false, ◌&&◌}
use mathlib.Core.List.{List, [], ◌∷◌}
use mathlib.Core.Path.{◌≡◌, refl}
use lib.ListN.{length}
use Rattle.regs.specs.Log.{expected, Leaves, LeavesBuffer}
use Rattle.regs.specs.Watched.{watched}
use Rattle.regs.specs.Inner.Machine.{final, ran}
use Rattle.regs.specs.declared.access.Ran.{Ran}
use Rattle.master.specs.Driver.{reason_of}
use Rattle.master.specs.Calls.{Lent, reads_into, writes_from, writes_then_reads, transacts, program_by, within_limits, arguments}
use Rattle.master.specs.Coded.{coded, coder, longer_transfer, with_code}
use Rattle.master.specs.Operations.{listed, lists, fits}
use Rattle.master.specs.Transfer.{transfer}
use Rattle.transfer.specs.Inner.Points.{mode_of}
use Rattle.transfer.specs.Inner.Machine.{machine, started}
use Rattle.transfer.specs.declared.Mode.{Mode}
use Rattle.i2c.specs.Inner.Limits.{refused_over}
use Rattle.i2c.proofs.Called.{refused_buffer, read_leaves, write_leaves, write_read_leaves, transaction_leaves}
use Rattle.i2c.proofs.WithCode.{form_leaves, read_listed, write_listed, both_listed}

-- over the limits nothing is done
pub over_limits : (pec : Bool) (mode : Mode) (address : ℕ) (lent : Lent) (readings before b₀ : List ℕ) {r : Ran}
    → within_limits lent ≡ false
    → r ≡ refused_over
    → LeavesBuffer (expected (program_by pec (mode_of mode) address lent) before readings b₀ tt) before before b₀ r
over_limits true mode address lent readings before b₀ q e =
    refused_buffer (within_limits lent) (coded reason_of (mode_of mode) address (arguments lent)) readings before b₀ q e
over_limits false mode address (reads_into buffer) readings before b₀ q e =
    refused_buffer (fits (length buffer)) (transfer reason_of (mode_of mode) address (arguments (reads_into buffer))) readings before b₀ q e
over_limits false mode address (writes_from bytes) readings before b₀ q e =
    refused_buffer (fits (length bytes)) (transfer reason_of (mode_of mode) address (arguments (writes_from bytes))) readings before b₀ q e
over_limits false mode address (writes_then_reads bytes buffer) readings before b₀ q e =
    refused_buffer (fits (length bytes) && fits (length buffer))
    (transfer reason_of (mode_of mode) address (arguments (writes_then_reads bytes buffer))) readings before b₀ q e
over_limits false mode address (transacts kinds lengths bytes buffer) readings before b₀ q e =
    refused_buffer (lists kinds lengths (length bytes) (length buffer))
    (transfer reason_of (mode_of mode) address (arguments (transacts kinds lengths bytes buffer))) readings before b₀ q e

-- what `run` leaves of a plain transfer, and of one with its code
abbrev pub Plainly : Mode → Bool → ℕ → List ℕ → List ℕ → List ℕ → List ℕ → List ℕ → List ℕ → List ℕ → List ℕ → Ran → Type 0
Plainly mode restart address kinds lengths bytes readings before b₀ after b r =
    final r.reply r.entries r.used after b tt
    ≡ ran (machine false kinds lengths bytes) readings (length before / 2) (started mode restart address kinds) 0 0 before b₀

abbrev pub Coded : Mode → Bool → ℕ → List ℕ → List ℕ → List ℕ → List ℕ → List ℕ → List ℕ → List ℕ → List ℕ → Ran → Type 0
Coded mode restart address kinds lengths bytes readings before b₀ after b r =
    LeavesBuffer
    (expected (watched (coder address (listed kinds lengths bytes))
    (longer_transfer reason_of (mode_of mode) restart address (with_code 0 (listed kinds lengths bytes))))
    before readings b₀ tt)
    before after b r

pub read_done : (pec : Bool) (mode : Mode) (address : ℕ) (readings before b₀ after b : List ℕ) {r : Ran}
    → fits (length b₀) ≡ true
    → (pec ≡ false → Plainly mode true address (0 ∷ []) (length b₀ ∷ []) [] readings before b₀ after b r)
    → (pec ≡ true → Coded mode true address (0 ∷ []) (length b₀ ∷ []) [] readings before b₀ after b r)
    → LeavesBuffer (expected (program_by pec (mode_of mode) address (reads_into b₀)) before readings b₀ tt) before after b r
read_done true mode address readings before b₀ after b q plain code =
    form_leaves mode true address readings before b₀ (fits (length b₀)) q (read_listed (length b₀)) (code refl)
read_done false mode address readings before b₀ after b q plain code =
    read_leaves mode address readings before after b₀ b q refl (plain refl)

pub write_done : (pec : Bool) (mode : Mode) (address : ℕ) (readings before bytes after b : List ℕ) {r : Ran}
    → fits (length bytes) ≡ true
    → (pec ≡ false → Plainly mode true address (1 ∷ []) (length bytes ∷ []) bytes readings before [] after b r)
    → (pec ≡ true → Coded mode true address (1 ∷ []) (length bytes ∷ []) bytes readings before [] after b r)
    → Leaves (expected (program_by pec (mode_of mode) address (writes_from bytes)) before readings [] tt) before after r
write_done true mode address readings before bytes after b q plain code =
    (form_leaves mode true address readings before [] (fits (length bytes)) q (write_listed bytes) (code refl)).ran
write_done false mode address readings before bytes after b q plain code =
    write_leaves mode address readings before after bytes b q refl (plain refl)

pub write_read_done : (pec : Bool) (mode : Mode) (address : ℕ) (readings before bytes b₀ after b : List ℕ) {r : Ran}
    → (fits (length bytes) && fits (length b₀)) ≡ true
    → (pec ≡ false → Plainly mode true address (1 ∷ 0 ∷ []) (length bytes ∷ length b₀ ∷ []) bytes readings before b₀ after b r)
    → (pec ≡ true → Coded mode true address (1 ∷ 0 ∷ []) (length bytes ∷ length b₀ ∷ []) bytes readings before b₀ after b r)
    → LeavesBuffer (expected (program_by pec (mode_of mode) address (writes_then_reads bytes b₀)) before readings b₀ tt) before after b r
write_read_done true mode address readings before bytes b₀ after b q plain code =
    form_leaves mode true address readings before b₀ (fits (length bytes) && fits (length b₀)) q
    (both_listed bytes (length b₀)) (code refl)
write_read_done false mode address readings before bytes b₀ after b q plain code =
    write_read_leaves mode address readings before after bytes b₀ b q refl (plain refl)

pub transaction_done : (pec : Bool) (mode : Mode) (address : ℕ) (kinds lengths readings before bytes b₀ after b : List ℕ) {r : Ran}
    → lists kinds lengths (length bytes) (length b₀) ≡ true
    → (pec ≡ false → Plainly mode false address kinds lengths bytes readings before b₀ after b r)
    → (pec ≡ true → Coded mode false address kinds lengths bytes readings before b₀ after b r)
    → LeavesBuffer (expected (program_by pec (mode_of mode) address (transacts kinds lengths bytes b₀)) before readings b₀ tt) before
    after b r
transaction_done true mode address kinds lengths readings before bytes b₀ after b q plain code =
    form_leaves mode false address readings before b₀ (lists kinds lengths (length bytes) (length b₀)) q refl (code refl)
transaction_done false mode address kinds lengths readings before bytes b₀ after b q plain code =
    transaction_leaves mode address readings before after kinds lengths bytes b₀ b q refl (plain refl)
