-- What becomes of a run, on the words of its log: by the last access to DATA_CMD the code is put there or tested.
-- That this is what `settled` of master says of the outcome is `settle_leaves` (proofs/Settling.antt).
use Rattle.std.specs.Prelude.{ℕ, zero, suc, ◌+◌, ◌*◌, ◌<◌, Bool, true, false, not, ◌&&◌, List, ◌≡◌, eqb, get_or, set, if◌then◌else◌}
use Rattle.std.specs.Prelude.{Option, None, Some}
use Rattle.regs.specs.declared.access.Ran.{Ran}
use Rattle.regs.specs.declared.answers.Answer.TheVariants.{Accepted, Heard, Responded, Refused}
use Rattle.regs.specs.declared.answers.Refusal.TheVariants.{WrongPacketErrorCode}
use Rattle.regs.specs.declared.answers.Reply.{Reply}
use Rattle.regs.specs.declared.answers.Reply.TheVariants.{Answered, OutOfReadings, LogFull}
use Rattle.regs.specs.Fields.{command_word, cmd, stop, dat}
use Rattle.master.specs.CodedLaws.{tested_reply}
use Rattle.transfer_code.specs.declared.settle.DataAt.{DataAt}
use Rattle.transfer_code.specs.declared.settle.DataAt.TheVariants.{Got, Put}

-- the last access to DATA_CMD among the first entries of a log; the head of a read of it is 0x110, of a write 0x210
unfoldable pub last_at : List ℕ → ℕ → Option DataAt
last_at log zero = None
last_at log (suc k) =
    if eqb (get_or log (k * 2) 0) 0x110 then Some (Got k)
    else (if eqb (get_or log (k * 2) 0) 0x210 then Some (Put k) else last_at log k)

-- the entry is one of so many
abbrev pub IsWithin : ℕ → Option DataAt → Type 0
IsWithin entries None = Unit {0}
IsWithin entries (Some (Got k)) = k < entries
IsWithin entries (Some (Put k)) = k < entries

abbrev pub is_accepted : Reply → Bool
is_accepted (Answered Accepted) = true
is_accepted (Answered (Heard c)) = false
is_accepted (Answered (Responded s)) = false
is_accepted (Answered (Refused why)) = false
is_accepted OutOfReadings = false
is_accepted LogFull = false

-- with another reply
abbrev pub replied : Reply → Ran → Ran
replied r ran = record { reply = r; entries = ran.entries; used = ran.used }

abbrev pub wrong : Ran → Ran
wrong ran = replied (Answered (Refused WrongPacketErrorCode)) ran

abbrev pub tested_ran : Bool → Ran → Ran
tested_ran right ran = replied (tested_reply right ran.reply) ran

-- the code in entry k, where that writes the last word of a write
abbrev pub with_code_at : ℕ → List ℕ → ℕ → List ℕ
with_code_at c log k =
    if stop (get_or log (k * 2 + 1) 0) && not (cmd (get_or log (k * 2 + 1) 0))
    then set log (k * 2 + 1) (command_word c false true false) else log

-- by the last access
abbrev pub ran_by : ℕ → List ℕ → Ran → Option DataAt → Ran
ran_by c log ran None = ran
ran_by c log ran (Some (Got k)) = tested_ran (eqb (dat (get_or log (k * 2 + 1) 0)) c) ran
ran_by c log ran (Some (Put k)) = ran

abbrev pub log_by : ℕ → List ℕ → Option DataAt → List ℕ
log_by c log None = log
log_by c log (Some (Got k)) = log
log_by c log (Some (Put k)) = with_code_at c log k

-- a run and its log with the code c, from the run with 0
pub record Settled (c : ℕ) (from : Ran) (before : List ℕ) (to : Ran) (after : List ℕ) : Type 0 where
  pub ran : to ≡ ran_by c before from (last_at before from.entries)
  pub log : after ≡ log_by c before (last_at before from.entries)
