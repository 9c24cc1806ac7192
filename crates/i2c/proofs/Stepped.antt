-- Each transfer by steps is its call. It rests on the agreement of the machine with each (`Transfers`, `CodedTransfers`) and,
-- with a packet error code, on `runs` of master: its running code is its code.
use Prim.Native.Nat.{ℕ, ◌/◌, ◌<◌}
use mathlib.Core.Bool.{Bool, true, false}
use mathlib.Core.List.{List, [], ◌∷◌}
use mathlib.Core.Path.{◌≡◌, refl, ap, ◌∙◌}
use lib.ListN.{length}
use Rattle.regs.specs.Program.{Outcome, outcome, just}
use Rattle.std.specs.Prelude.{if◌then◌else◌}
use Rattle.regs.specs.Log.{Each, expected}
use Rattle.regs.specs.Steps.{stepped, SteppedAs}
use Rattle.regs.specs.Inner.Summed.{summed_machine}
use Rattle.regs.specs.declared.answers.Answer.TheVariants.{Refused}
use Rattle.regs.specs.declared.answers.Refusal.TheVariants.{OverLimits}
use Rattle.regs.specs.declared.answers.Reply.{Reply}
use Rattle.regs.specs.declared.answers.Reply.TheVariants.{Answered}
use Rattle.regs.proofs.Stepped.{stepped_as}
use Rattle.regs.proofs.Tests.{by_test}
use Rattle.master.specs.Driver.{reason_of}
use Rattle.master.specs.Calls.{Lent, reads_into, writes_from, writes_then_reads, transacts, program_of, within_limits}
use Rattle.master.specs.Calls.{program_by, arguments, buffer_in, bytes_in}
use Rattle.master.specs.Coded.{with_code, longer_transfer, restarts, coded}
use Rattle.master.specs.Inner.Running.{fresh, running}
use Rattle.master.specs.Operations.{operations_of, fits, blocking, async}
use Rattle.master.specs.Operations as Spec
use Rattle.master.specs.Transfer.{read_call, write_call, write_read_call, transaction_call}
use Rattle.master.proofs.Lent.{small_operations}
use Rattle.master.proofs.Longer.{room_lent}
use Rattle.master.proofs.Running.{running_stepped, runs}
use Rattle.transfer.specs.Inner.Points.{mode_of}
use Rattle.transfer.specs.Inner.Machine.{machine, started}
use Rattle.transfer.specs.declared.Mode.{Mode}
use Rattle.transfer.specs.declared.Mode.TheVariants.{Blocking, Async}
use Rattle.i2c.specs.Steps.{mode_for, kinds_in, lengths_in, restart_in, from_start, SteppedTransfers}
use Rattle.i2c.proofs.Basics.{second}
use Rattle.i2c.proofs.Called.{fits_is, all_left}
use Rattle.i2c.proofs.CodedTransfers.{coded_lent}
use Rattle.i2c.proofs.Transfers.{read_transfer, write_transfer, write_read_transfer, transaction_transfer}

-- within the limits, from any buffer
abbrev Stepped : Mode → ℕ → Lent → Type 0
Stepped mode address l =
    SteppedAs (machine false (kinds_in l) (lengths_in l) (bytes_in l)) (λ me. started mode (restart_in l) address (kinds_in l))
    (program_of (mode_of mode) address l)

pub stepped_within : (mode : Mode) (address : ℕ) (l : Lent) → within_limits l ≡ true → Stepped mode address l
stepped_within mode address (reads_into buffer) q =
    stepped_as (machine false (0 ∷ []) (length buffer ∷ []) []) (read_call (mode_of mode) address (length buffer))
    (λ me. started mode true address (0 ∷ []))
    (λ me b m n h. rw q (read_transfer mode address (length buffer) (fits_is (length buffer) q) [] m n h b))
stepped_within mode address (writes_from bytes) q =
    stepped_as (machine false (1 ∷ []) (length bytes ∷ []) bytes) (write_call (mode_of mode) address bytes)
    (λ me. started mode true address (1 ∷ []))
    (λ me b m n h. rw q (write_transfer mode address bytes m n h b))
stepped_within mode address (writes_then_reads bytes buffer) q =
    let fit = fits_is (length buffer) (second (fits (length bytes)) (fits (length buffer)) q) in
    stepped_as (machine false (1 ∷ 0 ∷ []) (length bytes ∷ length buffer ∷ []) bytes)
    (write_read_call (mode_of mode) address bytes (length buffer)) (λ me. started mode true address (1 ∷ 0 ∷ []))
    (λ me b m n h. rw q (write_read_transfer mode address bytes (length buffer) fit m n h b))
stepped_within mode address (transacts kinds lengths bytes buffer) q =
    stepped_as (machine false kinds lengths bytes) (transaction_call (mode_of mode) address kinds lengths bytes (length buffer))
    (λ me. started mode false address kinds)
    (λ me b m n h. rw q (transaction_transfer mode address kinds lengths bytes
    (λ p. all_left mode false address kinds lengths bytes (length buffer) q p) m n h b))

-- by the mode of a call
of_call : (mode : Spec.Mode) (address : ℕ) (l : Lent) → within_limits l ≡ true
    → SteppedAs (machine false (kinds_in l) (lengths_in l) (bytes_in l))
    (λ me. started (mode_for mode) (restart_in l) address (kinds_in l)) (program_of mode address l)
of_call blocking address l q = stepped_within Blocking address l q
of_call async address l q = stepped_within Async address l q

-- with a packet error code, from the lent buffer
pub coded_within : (mode : Mode) (address : ℕ) (l : Lent) → within_limits l ≡ true → Each (λ b. b < 256) (bytes_in l)
    → (log readings : List ℕ)
    → stepped (summed_machine (running address) (machine true (kinds_in l) (lengths_in l) (bytes_in l))) (length log / 2)
    (fresh, started mode (restart_in l) address (kinds_in l)) readings (buffer_in l)
    ≡ expected (coded reason_of (mode_of mode) address (arguments l)) log readings (buffer_in l) tt
coded_within mode address l q small log readings =
    running_stepped address (machine true (kinds_in l) (lengths_in l) (bytes_in l))
    (longer_transfer reason_of (mode_of mode) (restarts (arguments l)) address (with_code 0 (operations_of (arguments l))))
    (λ me. started mode (restart_in l) address (kinds_in l)) (λ me b m n h. coded_lent mode address l q m n h b)
    log readings (buffer_in l) tt
    ∙ runs (mode_of mode) address (arguments l) log readings (buffer_in l)
    (small_operations l small) (room_lent l q)

coded_call : (mode : Spec.Mode) (address : ℕ) (l : Lent) → within_limits l ≡ true → Each (λ b. b < 256) (bytes_in l)
    → (log readings : List ℕ)
    → from_start true mode address l (length log / 2) readings
    ≡ expected (coded reason_of mode address (arguments l)) log readings (buffer_in l) tt
coded_call blocking address l q small log readings = coded_within Blocking address l q small log readings
coded_call async address l q small log readings = coded_within Async address l q small log readings

within_call : (pec : Bool) (mode : Spec.Mode) (address : ℕ) (l : Lent) → within_limits l ≡ true
    → (pec ≡ true → Each (λ b. b < 256) (bytes_in l))
    → (log readings : List ℕ)
    → from_start pec mode address l (length log / 2) readings
    ≡ expected (program_by pec mode address l) log readings (buffer_in l) tt
within_call false mode address l q small log readings = of_call mode address l q log readings (buffer_in l) tt
within_call true mode address l q small log readings = rw q (coded_call mode address l q (small refl) log readings)

-- over the limits a call is 20
over_limits : (pec : Bool) (mode : Spec.Mode) (address : ℕ) (l : Lent) → within_limits l ≡ false → (log readings buffer : List ℕ)
    → just (Answered (Refused OverLimits)) buffer tt ≡ expected (program_by pec mode address l) log readings buffer tt
unfolding outcome
over_limits false mode address (reads_into _) q log readings buffer = rw q
over_limits false mode address (writes_from _) q log readings buffer = rw q
over_limits false mode address (writes_then_reads _ _) q log readings buffer = rw q
over_limits false mode address (transacts _ _ _ _) q log readings buffer = rw q
over_limits true mode address l q log readings buffer = rw q

pub stepped_transfers : SteppedTransfers
stepped_transfers c log readings small =
    by_test (within_limits c.lent)
    (λ q. ap by_limits q ∙ within_call c.pec c.mode c.address c.lent q small log readings)
    (λ q. ap by_limits q ∙ over_limits c.pec c.mode c.address c.lent q log readings (buffer_in c.lent))
  where
    by_limits : Bool → Outcome (Unit {0}) Reply
    by_limits limits =
        if limits
        then from_start c.pec c.mode c.address c.lent (length log / 2) readings
        else just (Answered (Refused OverLimits)) (buffer_in c.lent) tt
