-- What a step of a run makes of a recording. Only contracts of inner functions cite this.
use Rattle.std.specs.Prelude.{ℕ, ◌+◌, ◌/◌, ◌≡◌, Result, Ok, Err, length}
use Rattle.regs.specs.Store.{Performed}
use Rattle.regs.specs.Inner.Machine.{performed, log_after, entered}
use Rattle.regs.specs.declared.answers.Reply.{Reply}
use Rattle.regs.specs.declared.access.Next.{Next}
use Rattle.regs.specs.declared.access.Recording.{Recording}

-- the room of a log in entries
abbrev pub room_of : Recording → ℕ
room_of r = length r.log.now / 2

-- the readings and the lent log are the same ones
pub record Keeps (before after : Recording) : Type 0 where
  pub readings : after.readings.now ≡ before.readings.now
  pub loan : after.log.ghost_name ≡ before.log.ghost_name
  pub size : length after.log.now ≡ length before.log.now

-- an entry was put behind those that there are
pub record Enters (before : Recording) (head value : ℕ) (after : Recording) : Type 0 where
  pub keeps : Keeps before after
  pub log : after.log.now ≡ entered before.log.now before.entries head value
  pub entries : after.entries ≡ before.entries + 1
  pub used : after.used ≡ before.used

-- of what an access comes to: the reading, or the reply; the readings used then; and the entries then
abbrev pub read_of : Performed → Result ℕ Reply
read_of (Ok (v, used)) = Ok v
read_of (Err reply) = Err reply

abbrev pub used_after : Performed → ℕ → ℕ
used_after (Ok (v, used)) before = used
used_after (Err reply) before = before

abbrev pub entries_after : Performed → ℕ → ℕ
entries_after (Ok (v, used)) entries = entries + 1
entries_after (Err reply) entries = entries

-- what the access that is next comes to
abbrev pub performed_in : Recording → Next → Performed
performed_in r n = performed r.readings.now r.used r.entries (room_of r) n

-- an access was performed, or the run stops and all stays as it was
pub record Performs (before : Recording) (n : Next) (outcome : Result ℕ Reply) (after : Recording) : Type 0 where
  pub keeps : Keeps before after
  pub done : outcome ≡ read_of (performed_in before n)
  pub used : after.used ≡ used_after (performed_in before n) before.used
  pub entries : after.entries ≡ entries_after (performed_in before n) before.entries
  pub log : after.log.now ≡ log_after (performed_in before n) before.log.now before.entries n
