-- The register can be shifted back, so two registers that differ still differ after any further bits;
-- and two bytes that differ leave different registers.
use Prim.Native.Nat.{ℕ, ◌+◌, ◌*◌, ◌/◌, ◌%◌, ◌^◌, ◌<◌}
use native.Mathlib.Omega.{arith}
use mathlib.Core.Bool.{Bool, true, false, not, xor}
use mathlib.Core.List.{List, [], ◌∷◌}
use mathlib.Core.Path.{◌≡◌, sym, ap, ◌∙◌}
use lib.Bits.{bit_xor, xor_lt}
use lib.Dec.{eqb, eqb→eq, lit<}
use lib.Pow.{field, mod-mod-pow}
use Rattle.regs.specs.Fields.{b2n, bit}
use Rattle.std.specs.Prelude.{if◌then◌else◌}
use Rattle.regs.proofs.Table.{under}
use Rattle.crc8.specs.Crc8.{POLYNOMIAL, after_bit, after_bits, after_byte}
use Rattle.crc8.proofs.Xor.{xor_cancel}
use Rattle.crc8.proofs.Linear.{as_one}

pub bit_below : (r : ℕ) (b : Bool) → after_bit r b < 256
unfolding after_bit
bit_below r b = go (xor (bit 7 r) b)
  where
    go : (q : Bool) → (if q then bit_xor (r * 2 % 256) POLYNOMIAL else r * 2 % 256) < 256
    go true = xor_lt 8 (r * 2 % 256) POLYNOMIAL (omega arith) (lit< tt)
    go false = omega arith

bits_below : (r : ℕ) (bs : List Bool) → r < 256 → after_bits r bs < 256
unfolding after_bits
bits_below r [] h = h
bits_below r (b ∷ bs) h = bits_below (after_bit r b) bs (bit_below r b)

pub byte_below : (r x : ℕ) → r < 256 → after_byte r x < 256
unfolding after_byte
byte_below r x h = bits_below r _ h

-- the register before a bit of the message: the polynomial is odd, so the lowest bit says whether it was xor'ed in
abbrev back : ℕ → Bool → ℕ
back s b = if eqb (s % 2) 1 then bit_xor s POLYNOMIAL / 2 + 128 * b2n (not b) else s / 2 + 128 * b2n b

back_is : (r : ℕ) (b : Bool) → r < 256 → back (after_bit r b) b ≡ r
unfolding after_bit xor
back_is r true h = eqb→eq (back (after_bit r true) true) r (under (λ k. eqb (back (after_bit k true) true) k) 256 tt r h)
back_is r false h = eqb→eq (back (after_bit r false) false) r (under (λ k. eqb (back (after_bit k false) false) k) 256 tt r h)

bits_same : (r s : ℕ) (bs : List Bool) → r < 256 → s < 256 → after_bits r bs ≡ after_bits s bs → r ≡ s
unfolding after_bits
bits_same r s [] h l e = e
bits_same r s (b ∷ bs) h l e =
    sym (back_is r b h)
    ∙ ap (λ (t : ℕ). back t b) (bits_same (after_bit r b) (after_bit s b) bs (bit_below r b) (bit_below s b) e)
    ∙ back_is s b l

pub register_same : (r s x : ℕ) → r < 256 → s < 256 → after_byte r x ≡ after_byte s x → r ≡ s
unfolding after_byte
register_same r s x h l e = bits_same r s _ h l e

pub byte_same : (r x y : ℕ) → r < 256 → x < 256 → y < 256 → after_byte r x ≡ after_byte r y → x ≡ y
byte_same r x y h l m e =
    xor_cancel r
    (register_same (bit_xor r x) (bit_xor r y) 0 (xor_lt 8 r x h l) (xor_lt 8 r y h m)
    (sym (as_one r x h l) ∙ e ∙ as_one r y h m))

pub same_bit : (j k x : ℕ) → x % 2 ^ (j + 1 + k) / 2 ^ k % 2 ≡ x / 2 ^ k % 2
same_bit j k x = ap (λ (n : ℕ). n % 2) (field x (j + 1) k) ∙ mod-mod-pow (x / 2 ^ k) j 1

-- a byte is what its lower 8 bits say
pub low_byte : (r x : ℕ) → after_byte r (x % 256) ≡ after_byte r x
unfolding after_byte
low_byte r x =
    rw (
      same_bit 0 7 x,
      same_bit 1 6 x,
      same_bit 2 5 x,
      same_bit 3 4 x,
      same_bit 4 3 x,
      same_bit 5 2 x,
      same_bit 6 1 x,
      same_bit 7 0 x,
    )
