-- The words that operations write to DATA_CMD.
use Prim.Native.Nat.{ℕ, zero, suc}
use mathlib.Core.Bool.{Bool, true, false, ◌&&◌}
use mathlib.Core.List.{List, [], ◌∷◌, ◌++◌}
use lib.Dec.{eqb}
use Rattle.regs.specs.Fields.{command_word}
use Rattle.master.specs.Async.{is_empty}
use Rattle.master.specs.Operations.{Operation, writes, reads}

-- a read of n bytes: RESTART, if wanted, rides on the first word, STOP on the last
unfoldable pub read_words : Bool → Bool → ℕ → List ℕ
read_words restart stop zero = []
read_words restart stop (suc n) = command_word 0 true (stop && eqb n 0) restart ∷ read_words false stop n

unfoldable pub write_words : Bool → List ℕ → List ℕ
write_words stop [] = []
write_words stop (b ∷ bs) = command_word b false (stop && is_empty bs) false ∷ write_words stop bs

abbrev pub words_of : Bool → Bool → Operation ℕ → List ℕ
words_of restart stop (writes bytes) = write_words stop bytes
words_of restart stop (reads len) = read_words restart stop len

-- STOP rides on the last word of the last operation
unfoldable pub all_words : Bool → List (Operation ℕ) → List ℕ
all_words restart [] = []
all_words restart (o ∷ os) = words_of restart (is_empty os) o ++ all_words restart os
