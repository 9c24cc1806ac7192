-- What no reader needs to take on trust of a call's definition: how often a loop may
-- turn does not show, and the run's own refusals are met only where they must be.
use Rattle.std.specs.Prelude.{ℕ, suc, ◌/◌, ◌<◌, List, ◌≡◌, length}
use Rattle.regs.specs.Program.{Program, ends, outcome}
use Rattle.regs.specs.Log.{expected, reads_in}
use Rattle.regs.specs.declared.answers.Answer.{Answer}
use Rattle.regs.specs.declared.answers.Reply.TheVariants.{Answered, LogFull, OutOfReadings}

pub record Bounded {S : Type 0} (p : Program S Answer Answer) : Type 0 where
  -- any bound of loops above the room gives the same outcome
  pub turns : (room n : ℕ) → room < n → (readings buffer : List ℕ) (me : S)
      → outcome Answered LogFull OutOfReadings (p n ends) room readings buffer me
      ≡ outcome Answered LogFull OutOfReadings (p (suc room) ends) room readings buffer me
  -- 19 only where the log is full
  pub full : (log readings buffer : List ℕ) (me : S)
      → (expected p log readings buffer me).answer ≡ LogFull
      → length (expected p log readings buffer me).log ≡ length log / 2
  -- 18 only where the readings are used up
  pub dry : (log readings buffer : List ℕ) (me : S)
      → (expected p log readings buffer me).answer ≡ OutOfReadings
      → reads_in (expected p log readings buffer me).log ≡ length readings
