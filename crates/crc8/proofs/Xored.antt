-- The code is linear in the message too (`xored_code`), bytes 0 in front of a message do not count (`filled`), and 127
-- bytes 0 leave the register as it was (`period`, computed for the registers of one bit).
use Prim.Native.Nat.{ℕ, zero, suc, ◌%◌, ◌^◌, ◌<◌}
use native.Mathlib.Omega.{arith}
use mathlib.Core.Bool.{Bool, true, false, xor}
use mathlib.Core.List.{List, [], ◌∷◌, ◌++◌}
use mathlib.Core.Path.{◌≡◌, refl, sym, ap, ap₂, subst, ◌∙◌}
use lib.Bits.{bit_xor, xor_mod, xor_zero_l, xor_zero_r}
use lib.Dec.{eqb, eqb→eq, lit<}
use lib.ListN.{length, replicate, length-replicate}
use Rattle.regs.specs.Fields.{bit}
use Rattle.std.specs.Prelude.{if◌then◌else◌}
use Rattle.regs.proofs.Table.{under}
use Rattle.crc8.specs.Crc8.{after_bit, after_bits, after_byte, crc8_from, crc8}
use Rattle.crc8.specs.Laws.{PERIOD, Period}
use Rattle.crc8.specs.Inner.Lanes.{xored}
use Rattle.crc8.proofs.Xor.{xor_swap}
use Rattle.crc8.proofs.Linear.{bits_linear, in_two, from_zero}
use Rattle.crc8.proofs.Back.{low_byte}

-- ---- the code of two messages

zero_linear : (a c : ℕ) → after_byte (bit_xor a c) 0 ≡ bit_xor (after_byte a 0) (after_byte c 0)
unfolding after_byte
zero_linear a c = bits_linear a c _

-- a register and a byte count by the xor of the register and the byte's lower 8 bits
pub by_xor : (r x : ℕ) → after_byte r x ≡ after_byte (bit_xor r (x % 256)) 0
by_xor r x =
    in_two r x
    ∙ ap (bit_xor (after_byte r 0)) (sym (low_byte 0 x) ∙ sym (from_zero (x % 256) (omega arith)))
    ∙ sym (zero_linear r (x % 256))

byte_linear : (r s x y : ℕ) → after_byte (bit_xor r s) (bit_xor x y) ≡ bit_xor (after_byte r x) (after_byte s y)
byte_linear r s x y =
    by_xor (bit_xor r s) (bit_xor x y)
    ∙ ap (λ (z : ℕ). after_byte z 0) (ap (bit_xor (bit_xor r s)) (xor_mod x y 8) ∙ xor_swap r s (x % 256) (y % 256))
    ∙ zero_linear (bit_xor r (x % 256)) (bit_xor s (y % 256))
    ∙ sym (ap₂ bit_xor (by_xor r x) (by_xor s y))

-- the code of the xor of two messages of one length is the xor of their codes
pub xored_code : (start begin : ℕ) (a b : List ℕ) → length a ≡ length b
    → crc8_from (bit_xor start begin) (xored a b) ≡ bit_xor (crc8_from start a) (crc8_from begin b)
unfolding crc8_from xored
xored_code r s [] [] e = refl
xored_code r s [] (y ∷ b) e = absurd (omega arith)
xored_code r s (x ∷ a) [] e = absurd (omega arith)
xored_code r s (x ∷ a) (y ∷ b) e =
    ap (λ (z : ℕ). crc8_from z (xored a b)) (byte_linear r s x y)
    ∙ xored_code (after_byte r x) (after_byte s y) a b (omega arith)

-- ---- the period

xored_zeros : (n : ℕ) (b : List ℕ) → length b ≡ n → xored (replicate n 0) b ≡ b
unfolding xored
xored_zeros zero [] e = refl
xored_zeros zero (x ∷ b) e = absurd (omega arith)
xored_zeros (suc n) [] e = absurd (omega arith)
xored_zeros (suc n) (x ∷ b) e = ap₂ (λ (y : ℕ) (l : List ℕ). y ∷ l) (xor_zero_l x) (xored_zeros n b (omega arith))

-- bytes 0 alone: the code is linear in the register
pub zeros_linear : (n a c : ℕ)
    → crc8_from (bit_xor a c) (replicate n 0) ≡ bit_xor (crc8_from a (replicate n 0)) (crc8_from c (replicate n 0))
zeros_linear n a c =
    ap (crc8_from (bit_xor a c)) (sym (xored_zeros n (replicate n 0) (length-replicate {A = ℕ} n 0)))
    ∙ xored_code a c (replicate n 0) (replicate n 0) refl

-- bit k of r alone
abbrev part : ℕ → ℕ → ℕ
part k r = if bit k r then 2 ^ k else 0

-- r as the xor of its bits
abbrev parts : ℕ → ℕ → ℕ
parts zero r = 0
parts (suc k) r = bit_xor (part k r) (parts k r)

-- what holds of 0, of the numbers of one bit and of the xor of two of which it holds, holds of every byte
module _ (P : ℕ → Type 0) (none : P 0) (both : (a c : ℕ) → P a → P c → P (bit_xor a c)) (one : (k : ℕ) → k < 8 → P (2 ^ k)) where
  of_part : (k r : ℕ) → k < 8 → P (part k r)
  of_part k r h = go (bit k r)
    where
      go : (q : Bool) → P (if q then 2 ^ k else 0)
      go true = one k h
      go false = none

  of_parts : (k r : ℕ) → k < 9 → P (parts k r)
  of_parts zero r h = none
  of_parts (suc k) r h = both (part k r) (parts k r) (of_part k r (omega arith)) (of_parts k r (omega arith))

  pub by_bits : (r : ℕ) → r < 256 → P r
  by_bits r h = subst P (eqb→eq (parts 8 r) r (under (λ k. eqb (parts 8 k) k) 256 tt r h)) (of_parts 8 r (lit< tt))

abbrev zeros : List ℕ
zeros = replicate PERIOD 0

abbrev Fixed : ℕ → Type 0
Fixed r = crc8_from r zeros ≡ r

fixed_xor : (a c : ℕ) → Fixed a → Fixed c → Fixed (bit_xor a c)
fixed_xor a c f g = zeros_linear PERIOD a c ∙ ap₂ bit_xor f g

fixed_bits : (k : ℕ) → k < 8 → Fixed (2 ^ k)
unfolding crc8_from after_byte after_bits after_bit xor
fixed_bits k h = eqb→eq (crc8_from (2 ^ k) zeros) (2 ^ k) (under (λ j. eqb (crc8_from (2 ^ j) zeros) (2 ^ j)) 8 tt k h)

fixed_zero : Fixed 0
unfolding crc8_from after_byte after_bits after_bit xor
fixed_zero = refl

pub period : Period
period r h = by_bits Fixed fixed_zero fixed_xor fixed_bits r h

-- ---- bytes 0 in front of a message, and a register

-- they do not count from the start value 0, so a message may be filled up to whole blocks
pub filled : (n : ℕ) (bytes : List ℕ) → crc8 (replicate n 0 ++ bytes) ≡ crc8 bytes
unfolding crc8_from after_byte after_bits after_bit xor
filled zero bytes = refl
filled (suc n) bytes = filled n bytes

-- the register before a message counts as if the message were bytes 0
pub after_zeros : (n r : ℕ) (b : List ℕ) → length b ≡ n
    → crc8_from r b ≡ bit_xor (crc8_from r (replicate n 0)) (crc8_from 0 b)
after_zeros n r b e =
    ap₂ crc8_from (sym (xor_zero_r r)) (sym (xored_zeros n b e))
    ∙ xored_code r 0 (replicate n 0) b (length-replicate {A = ℕ} n 0 ∙ sym e)
