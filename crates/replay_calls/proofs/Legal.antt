-- A transfer by its form is one of the master's calls, whose accesses are legal (`every_access_legal` of the master).
use Prim.Native.Nat.{ℕ}
use lib.ListN.{length}
use mathlib.Core.Bool.{Bool, true, false}
use mathlib.Core.List.{List}
use mathlib.Core.Path.{◌≡◌, refl}
use Rattle.regs.specs.Legality.{LegalCall}
use Rattle.master.specs.Calls.{Lent, reads_into, writes_from, writes_then_reads, transacts, program_by}
use Rattle.master.proofs.Accesses.{every_access_legal}
use Rattle.replay_calls.specs.Calls.{listed, mode_of, transfer_by, transfer_of}
use Rattle.replay_calls.specs.declared.form.Kind.{Kind}
use Rattle.replay_calls.specs.declared.form.Kind.TheVariants.{Read, Write, WriteRead, Transaction}
use Rattle.replay_calls.specs.declared.form.Form.{Form}

module _ (form : Form) (address : ℕ) where
  lent_legal : (pec : Bool) (lent : Lent) → LegalCall (program_by pec (mode_of form.mode) address lent)
  lent_legal pec lent = every_access_legal (record { mode = mode_of form.mode; address = address; lent = lent; pec = pec })

  pub transfer_of_legal : (kinds lengths bytes room : List ℕ)
      → LegalCall (transfer_of form address (listed kinds lengths bytes (length room)))
  transfer_of_legal kinds lengths bytes room = by form.kind form.coded refl
    where
      by : (kind : Kind) (pec : Bool)
          → form.coded ≡ pec
          → LegalCall (transfer_by kind form address (listed kinds lengths bytes (length room)))
      by Read true e = rw e (lent_legal true (reads_into room))
      by Read false e = rw e (lent_legal false (reads_into room))
      by Write true e = rw e (lent_legal true (writes_from bytes))
      by Write false e = rw e (lent_legal false (writes_from bytes))
      by WriteRead true e = rw e (lent_legal true (writes_then_reads bytes room))
      by WriteRead false e = rw e (lent_legal false (writes_then_reads bytes room))
      by Transaction true e = rw e (lent_legal true (transacts kinds lengths bytes room))
      by Transaction false e = rw e (lent_legal false (transacts kinds lengths bytes room))
