-- Numbers that fit their digits, and text put into a lent buffer behind what stands there.
use Rattle.std.specs.Prelude.{ℕ, ◌+◌, ◌*◌, ◌^◌, ◌≤◌, ◌<◌, List, ◌++◌, ◌≡◌, take, Option, Some, None}
use Rattle.text_hex.specs.Text.{number_at}

-- what n digits write is below 16 to the n
abbrev pub Below : ℕ → Option ℕ → Type 0
Below n (Some v) = v < 2 ^ (4 * n)
Below n None = Unit {0}

pub record NumberAs (line : List ℕ) (at n : ℕ) (r : Option ℕ) : Type 0 where
  pub same : r ≡ number_at line at n
  pub below : Below n r

-- the first `at` bytes of `before`, then the text, are the first `end` bytes of `after`; the text has at most `most` bytes
pub record Appended (before : List ℕ) (at : ℕ) (text : List ℕ) (most : ℕ) (after : List ℕ) (end : ℕ) : Type 0 where
  pub same : take end after ≡ take at before ++ text
  pub room : end ≤ at + most
