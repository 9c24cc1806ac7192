-- Every call is bounded by its readings and its log alone: within the limits because the machine agrees with its
-- transfer, over them because it ends at once.
use Prim.Native.Nat.{ℕ}
use mathlib.Core.Bool.{Bool, true, false, ◌&&◌}
use mathlib.Core.List.{[], ◌∷◌}
use mathlib.Core.Path.{◌≡◌, refl}
use lib.ListN.{length}
use Rattle.regs.specs.Program.{outcome}
use Rattle.regs.specs.Bounds.{Bounded}
use Rattle.regs.specs.Inner.Watched.{watched_machine}
use Rattle.regs.specs.declared.answers.Answer.{Answer}
use Rattle.regs.proofs.Bounded.{bounded_by}
use Rattle.master.specs.Driver.{Driver, reason_of}
use Rattle.master.specs.Operations as Spec
use Rattle.master.specs.Operations.{operations_of, fits, lists}
use Rattle.master.specs.Transfer.{within}
use Rattle.master.specs.Calls.{Lent, reads_into, writes_from, writes_then_reads, transacts, Call, program_of, program_by, program}
use Rattle.master.specs.Calls.{within_limits, arguments, bytes_in}
use Rattle.master.specs.Coded.{coder, coded}
use Rattle.transfer.specs.Inner.Points.{mode_of}
use Rattle.transfer.specs.Inner.Machine.{machine, started}
use Rattle.transfer.specs.declared.Mode.{Mode}
use Rattle.transfer.specs.declared.Mode.TheVariants.{Blocking, Async}
use Rattle.i2c.specs.Steps.{kinds_in, lengths_in, restart_in}
use Rattle.i2c.proofs.Basics.{second}
use Rattle.i2c.proofs.Called.{fits_is, all_left}
use Rattle.i2c.proofs.CodedTransfers.{coded_lent}
use Rattle.i2c.proofs.Watching.{watched_anywhere}
use Rattle.i2c.proofs.Transfers.{read_transfer, write_transfer, write_read_transfer, transaction_transfer}

bounded_within : (limits : Bool) (p : Driver Answer) → (limits ≡ true → Bounded p) → Bounded (within limits p)
unfolding outcome
bounded_within true p h = h refl
bounded_within false p h = record {
  turns = λ room n l readings buffer me. refl;
  full = λ log readings buffer me e. cc;
  dry = λ log readings buffer me e. cc;
}

by_machine : (mode : Mode) (address : ℕ) (lent : Lent) → Bounded (program_of (mode_of mode) address lent)
by_machine mode address (reads_into buffer) =
    bounded_within (fits (length buffer)) _
    (λ q. bounded_by (machine false (0 ∷ []) (length buffer ∷ []) []) _ (λ z. started mode true address (0 ∷ []))
    (λ z b m n h. read_transfer mode address (length buffer) (fits_is (length buffer) q) [] m n h b))
by_machine mode address (writes_from bytes) =
    bounded_within (fits (length bytes)) _
    (λ q. bounded_by (machine false (1 ∷ []) (length bytes ∷ []) bytes) _ (λ z. started mode true address (1 ∷ []))
    (λ z b m n h. write_transfer mode address bytes m n h b))
by_machine mode address (writes_then_reads bytes buffer) =
    bounded_within (fits (length bytes) && fits (length buffer)) _
    (λ q. bounded_by (machine false (1 ∷ 0 ∷ []) (length bytes ∷ length buffer ∷ []) bytes) _ (λ z. started mode true address (1 ∷ 0 ∷ []))
    (λ z b m n h. write_read_transfer mode address bytes (length buffer)
    (fits_is (length buffer) (second (fits (length bytes)) (fits (length buffer)) q)) m n h b))
by_machine mode address (transacts kinds lengths bytes buffer) =
    bounded_within (lists kinds lengths (length bytes) (length buffer)) _
    (λ q. bounded_by (machine false kinds lengths bytes) _ (λ z. started mode false address kinds)
    (λ z b m n h. transaction_transfer mode address kinds lengths bytes
    (λ p. all_left mode false address kinds lengths bytes (length buffer) q p) m n h b))

-- with a packet error code the machine is watched, as its transfer is
coded_machine : (mode : Mode) (address : ℕ) (lent : Lent)
    → Bounded (within (within_limits lent) (coded reason_of (mode_of mode) address (arguments lent)))
coded_machine mode address lent =
    bounded_within (within_limits lent) _
    (λ q.
    let O = coder address (operations_of (arguments lent)) in
    let M = machine true (kinds_in lent) (lengths_in lent) (bytes_in lent) in
    let s = started mode (restart_in lent) address (kinds_in lent) in
    bounded_by (watched_machine O M) _ (λ z. ([], s))
    (λ z b m n h. watched_anywhere O M m [] s b tt _ (coded_lent mode address lent q m n h b)))

in_mode : (mode : Spec.Mode) (address : ℕ) (lent : Lent) → Bounded (program_of mode address lent)
in_mode Spec.blocking address lent = by_machine Blocking address lent
in_mode Spec.async address lent = by_machine Async address lent

coded_in_mode : (mode : Spec.Mode) (address : ℕ) (lent : Lent)
    → Bounded (within (within_limits lent) (coded reason_of mode address (arguments lent)))
coded_in_mode Spec.blocking address lent = coded_machine Blocking address lent
coded_in_mode Spec.async address lent = coded_machine Async address lent

by_code : (pec : Bool) (mode : Spec.Mode) (address : ℕ) (lent : Lent) → Bounded (program_by pec mode address lent)
by_code false mode address lent = in_mode mode address lent
by_code true mode address lent = coded_in_mode mode address lent

pub bounded : (c : Call) → Bounded (program c)
bounded c = by_code c.pec c.mode c.address c.lent
