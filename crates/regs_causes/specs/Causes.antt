-- The causes of an abort, bit by bit. TX_ABRT_SOURCE has a cause in each of its bits 0 to 16 (RP2040 datasheet, I2C
-- chapter); bits 17 to 22 are reserved, and bits 23 to 31 count the words that were flushed.
use Rattle.std.specs.Prelude.{ℕ, zero, suc, ◌+◌, eqb, if◌then◌else◌, Option, Some, None}
use Rattle.regs.specs.Fields.{b2n, bit}
use Rattle.regs_causes.specs.declared.Counted.{Counted}

-- how many of the n bits of w from bit k on are set
unfoldable pub set_from : ℕ → ℕ → ℕ → ℕ
set_from k zero w = 0
set_from k (suc n) w = b2n (bit k w) + set_from (suc k) n w

-- the lowest of them that is set; k + n where none is
unfoldable pub lowest_from : ℕ → ℕ → ℕ → ℕ
lowest_from k zero w = k
lowest_from k (suc n) w = if bit k w then k else lowest_from (suc k) n w

abbrev pub CAUSES : ℕ
CAUSES = 17

-- the count of set causes and the lowest of them, or none
unfoldable pub causes_of : ℕ → Option Counted
causes_of w =
    if eqb (set_from 0 CAUSES w) 0 then None
    else Some (record { count = set_from 0 CAUSES w; lowest = lowest_from 0 CAUSES w })
