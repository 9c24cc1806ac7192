-- A listen buffer over the limit.
use Prim.Native.Nat.{ℕ, ◌<◌}
use native.Mathlib.Omega.{arith}
use mathlib.Core.Bool.{true}
use mathlib.Core.List.{List}
use borrow.Author.Tests.{lt-ltb}
use Rattle.slave.specs.I2cSlave.{listen_call}
use Rattle.slave.specs.declared.SlaveState.{SlaveState}
use Rattle.regs.specs.Program.{outcome}
use Rattle.text_hex.specs.Print.{answer_text, log_text}
use Rattle.text_hex.specs.Added.{Added}
use Rattle.text_hex.specs.declared.text.Text.{Text}
use Rattle.text_hex.proofs.Appends.{within}
use Rattle.replay_calls.specs.Calls.{replayed}
use Rattle.replay_calls.specs.Inner.Runs.{MOST_TEXT, Runs, listened}

-- number 20 is the answer to a listen of more than 4,096 bytes, whatever is read
pub listen_over : (n : ℕ) (readings : List ℕ) (s : SlaveState)
    → 4096 < n
    → (before after : Text)
    → Added before (answer_text 20 0) 13 after
    → Runs true (listened n readings s) before after s
unfolding replayed outcome listen_call log_text
listen_over n readings s h before after a =
    record {
      text = rw (lt-ltb 4096 n h)
          (record { same_reference = a.same_reference; size = a.size; appended = within MOST_TEXT (omega arith) a.appended });
      slave = rw (lt-ltb 4096 n h);
    }
