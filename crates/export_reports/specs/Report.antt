-- What an exported call returns and leaves, in terms of the outcome of the call that it forwards to.
use Rattle.std.specs.Prelude.{◌≡◌, ℕ, ◌*◌, Bool, true, false, List, ◌++◌, length, drop, Option, Some, None, is_some, unwrap_or, Result}
use Rattle.regs.specs.Program.{Outcome}
use Rattle.regs.specs.Log.{encode, reads_in}
use Rattle.regs.specs.Answers.{number, detail}
use Rattle.regs.specs.declared.access.Ran.{Ran}
use Rattle.regs.specs.declared.answers.Reply.{Reply}
use Rattle.regs_causes.specs.declared.Counted.{Counted}
use Rattle.clock_setting.specs.BusRate.{rate_number, rate_hz, rate_remainder}
use Rattle.clock_setting.specs.declared.Rate.{Rate}
use Rattle.regs.specs.declared.answers.Refusal.{Refusal}
use Rattle.slave.specs.declared.SlaveState.{SlaveState}
use Rattle.export_reports.specs.declared.AbortCauses.{AbortCauses}
use Rattle.export_reports.specs.declared.BusRate.{BusRate}
use Rattle.export_reports.specs.declared.Report.{Report}
use Rattle.export_reports.specs.declared.Slave.{Slave}
use Rattle.export_reports.specs.declared.SlaveReport.{SlaveReport}

-- the reply as its number and detail (docs/MANUAL.md), beside the counts
abbrev pub report_of : Ran → Report
report_of ran = record { number = number ran.reply; detail = detail ran.reply; entries = ran.entries; used = ran.used }

-- a rate, or a refusal, as its number and its two values
abbrev pub rate_of : Result Rate Refusal → BusRate
rate_of r = record { number = rate_number r; hz = rate_hz r; remainder = rate_remainder r }

-- the causes of an abort as their count and the lowest; no cause has 0 for both
abbrev pub cause_count : Option Counted → ℕ
cause_count None = 0
cause_count (Some counted) = counted.count

abbrev pub cause_lowest : Option Counted → ℕ
cause_lowest None = 0
cause_lowest (Some counted) = counted.lowest

abbrev pub cause_numbers : Option Counted → AbortCauses
cause_numbers t = record { count = cause_count t; lowest = cause_lowest t }

-- r and the log after it are those of the outcome o: the entries from the log's front on, and the rest of the log as it was
pub record Reports {S : Type 0} (o : Outcome S Reply) (before after : List ℕ) (r : Report) : Type 0 where
  pub number : r.number ≡ number o.answer
  pub detail : r.detail ≡ detail o.answer
  pub entries : r.entries ≡ length o.log
  pub used : r.used ≡ reads_in o.log
  pub log : after ≡ encode o.log ++ drop (length o.log * 2) before

-- and so is the lent buffer
pub record ReportsBuffer {S : Type 0} (o : Outcome S Reply) (before after b : List ℕ) (r : Report) : Type 0 where
  pub report : Reports o before after r
  pub buffer : b ≡ o.buffer

-- ---- the slave's state without an enum

-- coming in, the byte counts only where one is kept
abbrev pub pending_of : Bool → ℕ → Option ℕ
pending_of false b = None
pending_of true b = Some b

abbrev pub state_of : Slave → SlaveState
state_of s = record {
  pending_byte = pending_of s.has_pending s.pending_byte;
  address = s.address;
  general_call = s.general_call;
}

-- going out, the place of a byte that is not kept is 0
abbrev pub byte_of : Option ℕ → ℕ
byte_of p = unwrap_or p 0

abbrev pub numbers_of : SlaveState → Slave
numbers_of s = record {
  has_pending = is_some s.pending_byte;
  pending_byte = byte_of s.pending_byte;
  address = s.address;
  general_call = s.general_call;
}

-- the numbers that a call hands out are, handed in to the next call, the state that the first one left
abbrev pub HandedOn : Type 0
HandedOn = (s : SlaveState) → state_of (numbers_of s) ≡ s

-- the report and the log, and the state as numbers
pub record ReportsState (o : Outcome SlaveState Reply) (before after : List ℕ) (r : SlaveReport) : Type 0 where
  pub report : Reports o before after r.report
  pub state : r.state ≡ numbers_of o.state

-- and the lent buffer
pub record ReportsAll (o : Outcome SlaveState Reply) (before after b : List ℕ) (r : SlaveReport) : Type 0 where
  pub report : Reports o before after r.report
  pub buffer : b ≡ o.buffer
  pub state : r.state ≡ numbers_of o.state
