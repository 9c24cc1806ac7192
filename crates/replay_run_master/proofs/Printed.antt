-- A transfer that reads into zeros, printed.
use Prim.Native.Nat.{ℕ, ◌≤◌}
use native.Mathlib.Omega.{arith}
use mathlib.Core.Bool.{Bool}
use mathlib.Core.List.{List}
use mathlib.Core.Path.{◌≡◌, ap, ◌∙◌}
use lib.ListN.{length, replicate, length-replicate}
use Rattle.std.specs.Prelude.{Option}
use Rattle.std.specs.Bool.{then_some}
use Rattle.std.specs.Borrow.{Bor}
use Rattle.regs.specs.Log.{LeavesBuffer, expected}
use Rattle.regs.specs.declared.access.Ran.{Ran}
use Rattle.text_hex.specs.Added.{Added}
use Rattle.text_hex.specs.declared.text.Text.{Text}
use Rattle.replay_calls.specs.Calls.{replayed, transfer_of, outcome_text, listed}
use Rattle.replay_calls.specs.Inner.Runs.{LOG_WORDS, MOST_TEXT}
use Rattle.replay_calls.specs.declared.form.Form.{Form}
use Rattle.replay_calls.proofs.Legal.{transfer_of_legal}
use Rattle.replay_calls.proofs.Prints.{Printed, prints}

module _ (form : Form) (address : ℕ) (kinds lengths bytes : List ℕ) (n : ℕ) (few : n ≤ 4096)
    (log readings : List ℕ) (size : length log ≡ LOG_WORDS) (room after : List ℕ) (r : Ran) where
  pub printed_zeros : room ≡ replicate n 0
      → {o : Option (Bor (List ℕ))} (buffered : Bool) (b : Bor (List ℕ))
      → o ≡ then_some buffered b
      → LeavesBuffer (expected (transfer_of form address (listed kinds lengths bytes (length room))) log readings room tt) log after b.now r
      → length after ≡ length log
      → length b.now ≡ length room
      → {x y : Text} → Printed after r o x y
      → Added x (outcome_text buffered (replayed (transfer_of form address (listed kinds lengths bytes n)) readings (replicate n 0) tt))
      MOST_TEXT y
  printed_zeros z buffered b is l kept same a =
      let size_room : length room ≡ n = ap length z ∙ length-replicate n 0 in
      rw (z, length-replicate)
      at (prints (transfer_of form address (listed kinds lengths bytes (length room)))
      (transfer_of_legal form address kinds lengths bytes room) log readings room tt size l.ran kept buffered b is
      l.buffer (omega (arith, same, size_room, few)) a)
