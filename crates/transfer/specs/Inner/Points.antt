-- A transfer's parts.
use Rattle.std.specs.Prelude.{ℕ, Bool, true, false, Result, Ok, Err}
use Rattle.regs.specs.declared.answers.AbortReason.{AbortReason}
use Rattle.master.specs.Operations.{blocking, async}
use Rattle.master.specs.Operations as Spec
use Rattle.transfer.specs.declared.Mode.{Mode}
use Rattle.transfer.specs.declared.Mode.TheVariants.{Blocking, Async}
use Rattle.transfer.specs.declared.Point.{Point}
use Rattle.transfer.specs.declared.Transfer.{Transfer}

-- a transfer by its fields and those of its operation
abbrev pub transfer_at : Point → Mode → Bool → Bool → ℕ → ℕ → ℕ → ℕ → ℕ → ℕ → Transfer
transfer_at p mode restart send_stop address len at begun reads writes =
    record {
      point = p;
      mode = mode;
      address = address;
      operation = record { at = at; len = len; restart = restart; send_stop = send_stop };
      begun = begun;
      reads = reads;
      writes = writes;
    }

abbrev pub with_point : Transfer → Point → Transfer
with_point t p =
    transfer_at p t.mode t.operation.restart t.operation.send_stop t.address t.operation.len t.operation.at t.begun t.reads t.writes

-- `Result<(), Error>`, where the Rust looks at it
abbrev pub Tried : Type 0
Tried = Result (Unit {0}) AbortReason

abbrev pub is_failed : Tried → Bool
is_failed (Ok u) = false
is_failed (Err r) = true

-- the machine's mode, as the definitions have it
abbrev pub mode_of : Mode → Spec.Mode
mode_of Blocking = blocking
mode_of Async = async
