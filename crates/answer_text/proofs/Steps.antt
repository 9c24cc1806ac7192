-- The entries of a log, printed one after the other.
use Prim.Native.Nat.{ℕ, ◌+◌, ◌*◌, ◌<◌, ◌≤◌}
use native.Mathlib.Omega.{arith}
use mathlib.Core.List.{List, [], ◌++◌}
use mathlib.Core.Path.{◌≡◌}
use lib.ListN.{length, take, drop, get_or}
use lib.Seq.{length-take-le, get_or-take}
use Rattle.regs.specs.Log.{entry, decode}
use Rattle.regs.proofs.RoundTrip.{decode_next, decode_end}
use Rattle.text_hex.specs.Print.{entry_text, log_text}

-- the text of the entries from i on
abbrev pub to_come : List ℕ → ℕ → List ℕ
to_come words i = log_text (decode (drop (i * 2) words))

module _ (log : List ℕ) (n i : ℕ) (fits : n * 2 ≤ length log) where
  long : length (take (n * 2) log) ≡ n * 2
  long = length-take-le (n * 2) log fits

  pub entry_next : i < n
      → to_come (take (n * 2) log) i
      ≡ entry_text (entry (get_or log (i * 2) 0) (get_or log (i * 2 + 1) 0)) ++ to_come (take (n * 2) log) (i + 1)
  unfolding log_text
  entry_next h =
      rw (
        decode_next (take (n * 2) log) i (omega (arith, long)),
        get_or-take (n * 2) log (i * 2) 0 (omega arith),
        get_or-take (n * 2) log (i * 2 + 1) 0 (omega arith),
      )

  pub entries_end : n ≤ i → to_come (take (n * 2) log) i ≡ []
  unfolding log_text
  entries_end h = rw (decode_end (take (n * 2) log) i (omega (arith, long)))
