-- A table of the codes of all bytes.
use Rattle.std.specs.Prelude.{ℕ, ◌<◌, List, ◌≡◌, get_or}
use Rattle.crc8.specs.Crc8.{after_byte}

-- entry k is the code of the byte k alone, from the register 0
pub record Codes (table : List ℕ) : Type 0 where
  pub code : (k : ℕ) → k < 256 → get_or table k 0 ≡ after_byte 0 k
