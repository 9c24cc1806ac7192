-- Rows, flags and pairs, one step at a time: what is to come of a text is its next piece and the rest.
use Prim.Native.Nat.{ℕ, zero, suc, ◌+◌, ◌*◌, ◌-◌, ◌/◌, ◌%◌, ◌<◌, ◌≤◌}
use native.Mathlib.Omega.{arith}
use native.Mathlib.Numerals.{add-one}
use mathlib.Core.List.{List, [], ◌∷◌, ◌++◌}
use mathlib.Core.Path.{◌≡◌, refl}
use lib.Dec.{eqb}
use lib.ListN.{length, drop, get_or, length-drop, drop_of_length-le}
use lib.Seq.{drop-cons}
use borrow.Author.Tests.{eq-eqb, ne_eqb}
use Rattle.text_tables.specs.Rows.{until_dot, cell, flag, flags, spaced}

-- ---- a row

pub letter_next : (s : List ℕ) (i : ℕ)
    → i < length s
    → (get_or s i 0 ≡ 46 → ⊥)
    → until_dot (drop i s) ≡ (get_or s i 0 ∷ []) ++ until_dot (drop (i + 1) s)
unfolding until_dot
letter_next s i h ne = rw (drop-cons s i 0 h, add-one, ne_eqb _ _ ne)

pub letter_dot : (s : List ℕ) (i : ℕ) → i < length s → get_or s i 0 ≡ 46 → until_dot (drop i s) ≡ []
unfolding until_dot
letter_dot s i h e = rw (drop-cons s i 0 h, eq-eqb _ _ e)

pub letters_end : (s : List ℕ) (i : ℕ) → length s ≤ i → until_dot (drop i s) ≡ []
unfolding until_dot
letters_end s i h = rw (drop_of_length-le s h)

-- past the table there is no text
pub no_row : (table : List ℕ) (width row : ℕ) → length table ≤ row * width → cell table width row ≡ []
unfolding cell until_dot
no_row table zero row h = refl
no_row table (suc width) row h = rw (drop_of_length-le table h)

-- ---- flags

pub flags_next : (table : List ℕ) (n i rest : ℕ)
    → i < n
    → flags table (n - i) i rest ≡ flag table i (eqb (rest % 2) 1) ++ flags table (n - (i + 1)) (i + 1) (rest / 2)
unfolding flags
flags_next table n i rest h = let m : n - i ≡ suc (n - (i + 1)) = omega arith in rw m

pub flags_end : (table : List ℕ) (n i rest : ℕ) → n ≤ i → flags table (n - i) i rest ≡ []
unfolding flags
flags_end table n i rest h = let z : n - i ≡ 0 = omega arith in rw z

-- ---- pairs

short : (l : List ℕ) → length l ≤ 1 → spaced l ≡ []
unfolding spaced
short [] h = refl
short (c ∷ []) h = refl
short (c ∷ d ∷ cs) h = absurd (omega arith)

pub pair_next : (line : List ℕ) (i : ℕ)
    → 2 * i + 1 < length line
    → spaced (drop (2 * i) line) ≡ (32 ∷ get_or line (2 * i) 0 ∷ get_or line (2 * i + 1) 0 ∷ []) ++ spaced (drop (2 * (i + 1)) line)
unfolding spaced
pair_next line i h =
    let z : 2 * (i + 1) ≡ suc (2 * i + 1) = omega arith in
    rw (drop-cons line (2 * i) 0 (omega arith), ← add-one (2 * i), drop-cons line (2 * i + 1) 0 h, z)

pub pairs_end : (line : List ℕ) (i : ℕ) → length line / 2 ≤ i → spaced (drop (2 * i) line) ≡ []
pairs_end line i h = short (drop (2 * i) line) (rw length-drop (omega arith))
