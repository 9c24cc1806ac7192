-- The register is linear in what it held, so a register and a byte count only by
-- their xor (`as_one`): one table of 256 codes is enough.
use Prim.Native.Nat.{ℕ, zero, suc, ◌*◌, ◌/◌, ◌%◌, ◌^◌, ◌<◌}
use native.Mathlib.Omega.{arith}
use mathlib.Core.Bool.{Bool, true, false, xor}
use mathlib.Core.List.{List, [], ◌∷◌, map}
use mathlib.Core.Path.{◌≡◌, refl, sym, ap, ap₂, ◌∙◌}
use lib.Bits.{bit_xor, differ, xor_shr, xor_mod, xor_zero_r}
use lib.Dec.{eqb, eqb→eq}
use Rattle.regs.specs.Fields.{bit}
use Rattle.std.specs.Prelude.{if◌then◌else◌}
use Rattle.regs.proofs.Table.{under}
use Rattle.crc8.specs.Crc8.{POLYNOMIAL, after_bit, after_bits, after_byte}
use Rattle.crc8.proofs.Xor.{xor_low, xor_swap, xor_double}

differ_is : (x y : ℕ) → x < 2 → y < 2 → eqb (differ x y) 1 ≡ xor (eqb x 1) (eqb y 1)
unfolding xor
differ_is zero zero h l = refl
differ_is zero (suc zero) h l = refl
differ_is (suc zero) zero h l = refl
differ_is (suc zero) (suc zero) h l = refl
differ_is zero (suc (suc y)) h l = absurd (omega arith)
differ_is (suc zero) (suc (suc y)) h l = absurd (omega arith)
differ_is (suc (suc x)) y h l = absurd (omega arith)

-- the bit that is shifted out, and what is left
bit_7 : (a b : ℕ) → bit 7 (bit_xor a b) ≡ xor (bit 7 a) (bit 7 b)
bit_7 a b =
    ap (λ (x : ℕ). eqb (x % 2) 1) (xor_shr a b 7) ∙ ap (λ (x : ℕ). eqb x 1) (xor_low (a / 2 ^ 7) (b / 2 ^ 7))
    ∙ differ_is (a / 2 ^ 7 % 2) (b / 2 ^ 7 % 2) (omega arith) (omega arith)

shifted : (a b : ℕ) → bit_xor a b * 2 % 256 ≡ bit_xor (a * 2 % 256) (b * 2 % 256)
shifted a b = ap (λ (x : ℕ). x % 256) (sym (xor_double a b)) ∙ xor_mod (a * 2) (b * 2) 8

-- what is xor'ed in where a test says so
abbrev term : Bool → ℕ
term c = if c then POLYNOMIAL else 0

with_term : (c : Bool) (a : ℕ) → (if c then bit_xor a POLYNOMIAL else a) ≡ bit_xor a (term c)
with_term true a = refl
with_term false a = sym (xor_zero_r a)

terms : (p q b : Bool) → term (xor (xor p q) b) ≡ bit_xor (term (xor p false)) (term (xor q b))
unfolding xor
terms true true true = refl
terms true true false = refl
terms true false true = refl
terms true false false = refl
terms false true true = refl
terms false true false = refl
terms false false true = refl
terms false false false = refl

pub bit_linear : (a c : ℕ) (b : Bool) → after_bit (bit_xor a c) b ≡ bit_xor (after_bit a false) (after_bit c b)
unfolding after_bit
bit_linear a c b =
    with_term (xor (bit 7 (bit_xor a c)) b) (bit_xor a c * 2 % 256)
    ∙ ap₂ bit_xor (shifted a c) (ap (λ (t : Bool). term (xor t b)) (bit_7 a c) ∙ terms (bit 7 a) (bit 7 c) b)
    ∙ xor_swap (a * 2 % 256) (c * 2 % 256) (term (xor (bit 7 a) false)) (term (xor (bit 7 c) b))
    ∙ sym (ap₂ bit_xor (with_term (xor (bit 7 a) false) (a * 2 % 256)) (with_term (xor (bit 7 c) b) (c * 2 % 256)))

-- as many bits, all 0
abbrev quiet : List Bool → List Bool
quiet bs = map (λ (b : Bool). false) bs

pub bits_linear : (a c : ℕ) (bs : List Bool) → after_bits (bit_xor a c) bs ≡ bit_xor (after_bits a (quiet bs)) (after_bits c bs)
unfolding after_bits
bits_linear a c [] = refl
bits_linear a c (b ∷ bs) =
    ap (λ (r : ℕ). after_bits r bs) (bit_linear a c b) ∙ bits_linear (after_bit a false) (after_bit c b) bs

-- a byte from the register 0 is the byte as the register, and 8 bits 0
pub from_zero : (x : ℕ) → x < 256 → after_byte x 0 ≡ after_byte 0 x
unfolding after_byte after_bits after_bit xor
from_zero x h = eqb→eq (after_byte x 0) (after_byte 0 x) (under (λ k. eqb (after_byte k 0) (after_byte 0 k)) 256 tt x h)

pub in_two : (r x : ℕ) → after_byte r x ≡ bit_xor (after_byte r 0) (after_byte 0 x)
unfolding after_byte
in_two r x = ap (λ (s : ℕ). after_byte s x) (sym (xor_zero_r r)) ∙ bits_linear r 0 _

-- a register and a byte are as their xor and the byte 0
pub as_one : (r x : ℕ) → r < 256 → x < 256 → after_byte r x ≡ after_byte (bit_xor r x) 0
unfolding after_byte
as_one r x h l =
    in_two r x ∙ ap (bit_xor (after_byte r 0)) (sym (from_zero x l)) ∙ sym (bits_linear r x _)
