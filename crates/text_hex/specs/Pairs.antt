-- Bytes as pairs of digits, and where they were put.
use Rattle.std.specs.Prelude.{ℕ, ◌+◌, ◌*◌, ◌/◌, ◌%◌, ◌<◌, ◌≤◌, Bool, true, ◌&&◌, List, [], ◌∷◌, ◌++◌, ◌≡◌, eqb, ltb, length, take, get_or}
use Rattle.text_hex.specs.Text.{digit_of, char_of}

unfoldable pub all_digits : List ℕ → Bool
all_digits [] = true
all_digits (c ∷ cs) = ltb (digit_of c) 16 && all_digits cs

abbrev pub whole_pairs : List ℕ → Bool
whole_pairs ds = eqb (length ds % 2) 0 && all_digits ds

-- the bytes that pairs of digits write
unfoldable pub values : List ℕ → List ℕ
values [] = []
values (c ∷ []) = []
values (c ∷ d ∷ cs) = (digit_of c * 16 + digit_of d) ∷ values cs

-- the bytes of `ds` stand at `at`, where there is room, and nothing before `at` has changed
pub record PutAt (ds : List ℕ) (at : ℕ) (before after : List ℕ) : Type 0 where
  pub stored : at + length ds / 2 ≤ length before → take (at + length ds / 2) after ≡ take at before ++ values ds
  pub below : take at after ≡ take at before
  pub size : length after ≡ length before

-- a table of the two digits of every byte
pub record DigitPairs (table : List ℕ) : Type 0 where
  pub size : length table ≡ 512
  pub high : (b : ℕ) → b < 256 → get_or table (b * 2) 0 ≡ char_of (b / 16 % 16)
  pub low : (b : ℕ) → b < 256 → get_or table (b * 2 + 1) 0 ≡ char_of (b % 16)
