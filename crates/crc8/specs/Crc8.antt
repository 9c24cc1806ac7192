-- The packet error code of SMBus: CRC-8 with the polynomial x^8 + x^2 + x + 1, from the start value 0, bit by bit.
use Rattle.std.specs.Prelude.{ℕ, ◌*◌, ◌%◌, Bool, List, [], ◌∷◌, if◌then◌else◌}
use Rattle.std.specs.Bool.{xor}
use Rattle.std.specs.Int.Bits.{bit_xor}
use Rattle.regs.specs.Fields.{bit}

-- the polynomial without its highest term, which falls out
abbrev pub POLYNOMIAL : ℕ
POLYNOMIAL = 0x07

-- the register of 8 bits after a bit of the message: it is shifted left by one, and where
-- the bit shifted out xor the message's bit is 1, the polynomial is xor'ed into it
unfoldable pub after_bit : ℕ → Bool → ℕ
after_bit register b = if xor (bit 7 register) b then bit_xor (register * 2 % 256) POLYNOMIAL else register * 2 % 256

unfoldable pub after_bits : ℕ → List Bool → ℕ
after_bits register [] = register
after_bits register (b ∷ bs) = after_bits (after_bit register b) bs

-- after a byte of the message: the most significant bit comes first
unfoldable pub after_byte : ℕ → ℕ → ℕ
after_byte register x =
    after_bits register (bit 7 x ∷ bit 6 x ∷ bit 5 x ∷ bit 4 x ∷ bit 3 x ∷ bit 2 x ∷ bit 1 x ∷ bit 0 x ∷ [])

-- over a message, from a start value on
unfoldable pub crc8_from : ℕ → List ℕ → ℕ
crc8_from register [] = register
crc8_from register (x ∷ xs) = crc8_from (after_byte register x) xs

abbrev pub crc8 : List ℕ → ℕ
crc8 bytes = crc8_from 0 bytes
