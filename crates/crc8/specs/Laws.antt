-- What holds of the packet error code. The proofs are in proofs/Laws.antt, Xored.antt and Moved.antt.
use Rattle.std.specs.Prelude.{ℕ, zero, suc, ◌^◌, ◌<◌, false, List, [], ◌∷◌, ◌++◌, ◌≢◌, ◌≡◌, length, replicate}
use Rattle.std.specs.Int.Bits.{bit_xor}
use Rattle.crc8.specs.Crc8.{after_bits, crc8_from, crc8}

-- the usual check value of this code: over the text `123456789`
abbrev pub CheckValue : Type 0
CheckValue = crc8 (0x31 ∷ 0x32 ∷ 0x33 ∷ 0x34 ∷ 0x35 ∷ 0x36 ∷ 0x37 ∷ 0x38 ∷ 0x39 ∷ []) ≡ 0xF4

-- a code is a byte
abbrev pub IsByte : Type 0
IsByte = (start : ℕ) (bytes : List ℕ) → start < 256 → crc8_from start bytes < 256

-- a message may be taken in parts
abbrev pub InParts : Type 0
InParts = (start : ℕ) (a b : List ℕ) → crc8_from start (a ++ b) ≡ crc8_from (crc8_from start a) b

-- a message with its code behind it has the code 0
abbrev pub Residue : Type 0
Residue = (start : ℕ) (bytes : List ℕ) → start < 256 → crc8_from start (bytes ++ crc8_from start bytes ∷ []) ≡ 0

-- and no other byte behind it gives 0
abbrev pub OnlyResidue : Type 0
OnlyResidue = (start x : ℕ) (bytes : List ℕ) → start < 256 → x < 256
    → crc8_from start (bytes ++ x ∷ []) ≡ 0
    → x ≡ crc8_from start bytes

-- two messages that differ in one byte have different codes, whatever stands before it and behind it
abbrev pub OneByteChanged : Type 0
OneByteChanged = (start x y : ℕ) (before behind : List ℕ) → start < 256 → x < 256 → y < 256 → x ≢ y
    → crc8_from start (before ++ x ∷ behind) ≢ crc8_from start (before ++ y ∷ behind)

-- the message with bit k of its byte i flipped
unfoldable pub flipped : ℕ → ℕ → List ℕ → List ℕ
flipped i k [] = []
flipped zero k (x ∷ xs) = bit_xor x (2 ^ k) ∷ xs
flipped (suc i) k (x ∷ xs) = x ∷ flipped i k xs

-- a bit flipped on the way changes the code
abbrev pub OneBitFlipped : Type 0
OneBitFlipped = (start i k : ℕ) (bytes : List ℕ) → start < 256 → i < length bytes → k < 8
    → crc8_from start (flipped i k bytes) ≢ crc8_from start bytes

-- the period of the polynomial, in bits and so in bytes too
abbrev pub PERIOD : ℕ
PERIOD = 127

-- so many bytes 0 leave the register as it was
abbrev pub Period : Type 0
Period = (register : ℕ) → register < 256 → crc8_from register (replicate PERIOD 0) ≡ register

-- and 64 bytes 0 act as 4 bits 0: they are 512 bits, four periods and 4
abbrev pub AsFourBits : Type 0
AsFourBits = (register : ℕ) → register < 256 → crc8_from register (replicate 64 0) ≡ after_bits register (replicate 4 false)
