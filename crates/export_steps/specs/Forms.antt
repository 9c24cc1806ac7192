-- The eight forms of a transfer that `celadonsaw_start` and `celadonsaw_start_pec` are given by number, and the program of
-- each, `pec` where it has a packet error code.
use Rattle.std.specs.Prelude.{ℕ, ◌%◌, Bool, true, false, ◌&&◌, List, [], ◌∷◌, eqb, ltb, length, if◌then◌else◌}
use Rattle.regs.specs.declared.answers.Answer.{Answer}
use Rattle.master.specs.Calls.{Lent, reads_into, writes_from, writes_then_reads, transacts, Call, program}
use Rattle.master.specs.Driver.{Driver}
use Rattle.master.specs.Operations.{lists, READ, WRITE, Mode, blocking, async}
use Rattle.master.specs.Transfer.{within}

-- forms 0 to 3 are blocking, 4 to 7 async; of four, a read, a write, a write-read and a transaction
pub data Shape : Type 0 where
  read write write_read transaction : Shape

unfoldable pub shape_of : ℕ → Shape
shape_of form =
    if eqb (form % 4) 0 then read
    else (if eqb (form % 4) 1 then write else (if eqb (form % 4) 2 then write_read else transaction))

unfoldable pub mode_of_form : ℕ → Mode
mode_of_form form = if ltb 3 form then async else blocking

-- a read is lent the read buffer, a write the write buffer, a write-read both, a transaction kinds and lengths beside both
abbrev pub lent_by : Shape → List ℕ → List ℕ → List ℕ → List ℕ → Lent
lent_by read kinds lengths bytes buffer = reads_into buffer
lent_by write kinds lengths bytes buffer = writes_from bytes
lent_by write_read kinds lengths bytes buffer = writes_then_reads bytes buffer
lent_by transaction kinds lengths bytes buffer = transacts kinds lengths bytes buffer

abbrev pub call_of : Bool → ℕ → ℕ → List ℕ → List ℕ → List ℕ → List ℕ → Call
call_of pec form address kinds lengths bytes buffer =
    record { mode = mode_of_form form; address = address; lent = lent_by (shape_of form) kinds lengths bytes buffer; pec = pec }

unfoldable pub same : List ℕ → List ℕ → Bool
same [] [] = true
same [] (y ∷ ys) = false
same (x ∷ xs) [] = false
same (x ∷ xs) (y ∷ ys) = eqb x y && same xs ys

-- the kinds of a read, of a write and of a write-read; a transaction has any
abbrev pub kinds_fit : Shape → List ℕ → Bool
kinds_fit read kinds = same kinds (READ ∷ [])
kinds_fit write kinds = same kinds (WRITE ∷ [])
kinds_fit write_read kinds = same kinds (WRITE ∷ READ ∷ [])
kinds_fit transaction kinds = true

unfoldable pub fits_form : ℕ → List ℕ → Bool
fits_form form kinds = ltb form 8 && kinds_fit (shape_of form) kinds

-- number 20 is where this is false: the kinds are not those of a form, or kinds and lengths are over
-- the limits or do not add up to the lengths of the write and the read buffer
unfoldable pub accepts : ℕ → List ℕ → List ℕ → ℕ → ℕ → Bool
accepts form kinds lengths written room = fits_form form kinds && lists kinds lengths written room

-- the program of a form: that of its call, or number 20
abbrev pub program_by : Bool → ℕ → ℕ → List ℕ → List ℕ → List ℕ → List ℕ → Driver Answer
program_by pec form address kinds lengths bytes buffer =
    within (accepts form kinds lengths (length bytes) (length buffer)) (program (call_of pec form address kinds lengths bytes buffer))
