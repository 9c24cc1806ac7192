-- The words of an entry that a line adds to a log. Only contracts of inner functions cite this.
use Rattle.std.specs.Prelude.{ℕ, List, [], Option, Some, None}

-- the words of an entry, or of none
abbrev pub entry_words : Option (List ℕ) → List ℕ
entry_words None = []
entry_words (Some words) = words
