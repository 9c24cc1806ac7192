-- What a call leaves, reported: from `Leaves` and its kin by the equations of `told` and `both`. The state that is
-- reported is the one that the next call takes.
use mathlib.Core.List.{List}
use mathlib.Core.Path.{◌≡◌, refl, ap}
use Prim.Native.Nat.{ℕ}
use Rattle.std.specs.Prelude.{Option, Some, None, is_some}
use Rattle.regs.specs.Program.{Outcome}
use Rattle.regs.specs.Log.{Leaves, LeavesBuffer, LeavesState, LeavesAll}
use Rattle.regs.specs.declared.access.Ran.{Ran}
use Rattle.regs.specs.declared.answers.Reply.{Reply}
use Rattle.slave.specs.I2cSlave.{with_pending}
use Rattle.slave.specs.declared.SlaveState.{SlaveState}
use Rattle.slave_run.specs.declared.Left.{Left}
use Rattle.export_reports.specs.Report.{report_of, pending_of, byte_of, numbers_of, HandedOn}
use Rattle.export_reports.specs.Report.{Reports, ReportsBuffer, ReportsState, ReportsAll}
use Rattle.export_reports.specs.declared.Report.{Report}
use Rattle.export_reports.specs.declared.SlaveReport.{SlaveReport}

module _ {S : Type 0} {o : Outcome S Reply} {before after : List ℕ} {ran : Ran} {r : Report} (e : r ≡ report_of ran) where
  pub reports : Leaves o before after ran → Reports o before after r
  reports l =
      record {
        number = rw (e, l.reply);
        detail = rw (e, l.reply);
        entries = rw (e, l.entries);
        used = rw (e, l.used);
        log = l.log;
      }

  pub reports_buffer : {b : List ℕ} → LeavesBuffer o before after b ran → ReportsBuffer o before after b r
  reports_buffer l = record { report = reports l.ran; buffer = l.buffer }

module _ {o : Outcome SlaveState Reply} {before after : List ℕ} {l : Left} {r : SlaveReport}
    (e : (r.state ≡ numbers_of l.state) × (r.report ≡ report_of l.ran)) where
  pub reports_state : LeavesState o before after l.ran l.state → ReportsState o before after r
  reports_state left = record { report = reports e.1 left.ran; state = rw (e.0, left.state) }

  pub reports_all : {b : List ℕ} → LeavesAll o before after b l.ran l.state → ReportsAll o before after b r
  reports_all left =
      record { report = reports e.1 left.ran; buffer = left.buffer; state = rw (e.0, left.state) }

pub handed_on : HandedOn
handed_on s = ap (λ p. with_pending p s) (same s.pending_byte)
  where
    same : (p : Option ℕ) → pending_of (is_some p) (byte_of p) ≡ p
    same None = refl
    same (Some b) = refl
