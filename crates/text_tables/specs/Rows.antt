-- The text of a row of a table, of flags by their names, and of digits by pairs.
use Rattle.std.specs.Prelude.{ℕ, zero, suc, ◌+◌, ◌*◌, ◌/◌, ◌%◌, Bool, List, [], ◌∷◌, ◌++◌, eqb, take, drop, if◌then◌else◌}

-- what stands before the first dot (46)
unfoldable pub until_dot : List ℕ → List ℕ
until_dot [] = []
until_dot (c ∷ cs) = if eqb c 46 then [] else c ∷ until_dot cs

-- the text of a row
unfoldable pub cell : List ℕ → ℕ → ℕ → List ℕ
cell table width row = until_dot (take width (drop (row * width) table))

abbrev pub flag : List ℕ → ℕ → Bool → List ℕ
flag table row set = if set then 32 ∷ cell table 24 row else []

-- the names of the flags that are set, of n flags from a row on: bit 0 of w belongs to the first, and a space stands before each
unfoldable pub flags : List ℕ → ℕ → ℕ → ℕ → List ℕ
flags table zero row w = []
flags table (suc n) row w = flag table row (eqb (w % 2) 1) ++ flags table n (row + 1) (w / 2)

-- digits by pairs, a space before each
unfoldable pub spaced : List ℕ → List ℕ
spaced [] = []
spaced (c ∷ []) = []
spaced (c ∷ d ∷ cs) = 32 ∷ c ∷ d ∷ spaced cs
