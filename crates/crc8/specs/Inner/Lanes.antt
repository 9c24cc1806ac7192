-- Sixty-four lanes, into which a long message is folded. 16 bytes are 128 bits, one more than the
-- period of the polynomial: 16 further bytes 0 are as one further bit 0, and 64 as four.
use Rattle.std.specs.Prelude.{ℕ, false, List, [], ◌∷◌, map}
use Rattle.std.specs.Int.Bits.{bit_xor}
use Rattle.crc8.specs.Crc8.{after_bit}

abbrev pub LANES : ℕ
LANES = 64

-- a quarter of them
abbrev pub PART : ℕ
PART = 16

-- the register after a bit 0
abbrev pub after_zero : ℕ → ℕ
after_zero r = after_bit r false

-- and after four
abbrev pub after_four : ℕ → ℕ
after_four r = after_zero (after_zero (after_zero (after_zero r)))

-- two messages xor'ed byte by byte
unfoldable pub xored : List ℕ → List ℕ → List ℕ
xored [] b = []
xored (x ∷ a) [] = []
xored (x ∷ a) (y ∷ b) = bit_xor x y ∷ xored a b

-- the lanes after a further block of as many bytes
abbrev pub taken_in : List ℕ → List ℕ → List ℕ
taken_in lanes block = xored (map after_four lanes) block
