-- A message by lanes. Bits 0 behind a message are bits 0 behind each of its bytes (`moved_code`), 16 bytes 0 are as one
-- bit 0 (`sixteen`, computed for the registers of one bit), so 64 are as four (`sixty_four`, `as_four_bits`), and a further
-- block is taken in lane by lane (`step`).
use Prim.Native.Nat.{ℕ, ◌*◌, ◌/◌, ◌%◌, ◌^◌, ◌<◌}
use native.Mathlib.Omega.{arith}
use mathlib.Core.Bool.{false, xor}
use mathlib.Core.List.{List, [], ◌∷◌, ◌++◌, map}
use mathlib.Core.Path.{◌≡◌, refl, sym, ap, ap₂, ◌∙◌}
use lib.Bits.{bit_xor}
use lib.Dec.{eqb, eqb→eq, lit<}
use lib.ListN.{length, replicate, length-map}
use Rattle.std.specs.Prelude.{if◌then◌else◌}
use Rattle.regs.proofs.Table.{under}
use Rattle.crc8.specs.Crc8.{POLYNOMIAL, after_bit, after_bits, after_byte, crc8_from, crc8}
use Rattle.crc8.specs.Laws.{AsFourBits}
use Rattle.crc8.specs.Inner.Lanes.{LANES, PART, after_zero, after_four, taken_in}
use Rattle.crc8.proofs.Linear.{bit_linear}
use Rattle.crc8.proofs.Back.{bit_below, same_bit}
use Rattle.crc8.proofs.Laws.{is_byte, in_parts}
use Rattle.crc8.proofs.Xored.{by_xor, xored_code, zeros_linear, by_bits, after_zeros}

-- ---- the register after bits 0

pub by_mask : (r : ℕ) → r < 256 → bit_xor (r * 2 % 256) (r / 128 * 7) ≡ after_zero r
unfolding after_bit xor
by_mask r h =
    eqb→eq (bit_xor (r * 2 % 256) (r / 128 * 7)) (after_zero r)
    (under (λ k. eqb (bit_xor (k * 2 % 256) (k / 128 * 7)) (after_zero k)) 256 tt r h)

-- what is left of r, and the bits o shifted out, times x^2 + x + 1
abbrev by_nibbles : ℕ → ℕ
by_nibbles r =
    let o = r / 16 in bit_xor (bit_xor (bit_xor (r * 16 % 256) o) (o * 2 % 256)) (o * 4 % 256)

pub by_four : (r : ℕ) → r < 256 → by_nibbles r ≡ after_four r
unfolding after_bit xor
by_four r h =
    eqb→eq (by_nibbles r) (after_four r) (under (λ k. eqb (by_nibbles k) (after_four k)) 256 tt r h)

-- by the bit that is shifted out, and by what is left
abbrev by_high : ℕ → ℕ → ℕ
by_high t m = if xor (eqb t 1) false then bit_xor m POLYNOMIAL else m

-- the lower 8 bits count alone
low_bits : (x : ℕ) → after_zero (x % 256) ≡ after_zero x
unfolding after_bit
low_bits x =
    let e : x % 256 * 2 % 256 ≡ x * 2 % 256 = omega arith in
    ap₂ by_high (same_bit 0 7 x) e

-- ---- bits 0 behind a message

zero_past_zeros : (z : ℕ) → after_zero (after_byte z 0) ≡ after_byte (after_zero z) 0
unfolding after_byte after_bits
zero_past_zeros z = refl

moved_byte : (r x : ℕ) → after_zero (after_byte r x) ≡ after_byte (after_zero r) (after_zero x)
moved_byte r x =
    let small : after_zero x % 256 ≡ after_zero x = omega (arith, bit_below x false) in
    ap after_zero (by_xor r x) ∙ zero_past_zeros (bit_xor r (x % 256))
    ∙ ap (λ (z : ℕ). after_byte z 0)
    (bit_linear r (x % 256) false ∙ ap (bit_xor (after_zero r)) (low_bits x ∙ sym small))
    ∙ sym (by_xor (after_zero r) (after_zero x))

moved_by_two : (r x : ℕ)
    → after_zero (after_zero (after_byte r x)) ≡ after_byte (after_zero (after_zero r)) (after_zero (after_zero x))
moved_by_two r x = ap after_zero (moved_byte r x) ∙ moved_byte (after_zero r) (after_zero x)

moved_by_four : (r x : ℕ) → after_four (after_byte r x) ≡ after_byte (after_four r) (after_four x)
moved_by_four r x =
    ap (λ (z : ℕ). after_zero (after_zero z)) (moved_by_two r x)
    ∙ moved_by_two (after_zero (after_zero r)) (after_zero (after_zero x))

moved_code : (r : ℕ) (a : List ℕ) → after_four (crc8_from r a) ≡ crc8_from (after_four r) (map after_four a)
unfolding crc8_from
moved_code r [] = refl
moved_code r (x ∷ a) =
    moved_code (after_byte r x) a ∙ ap (λ (z : ℕ). crc8_from z (map after_four a)) (moved_by_four r x)

four_stays : after_four 0 ≡ 0
unfolding after_bit xor
four_stays = refl

-- ---- 16 bytes 0, and 64

abbrev zeros : List ℕ
zeros = replicate PART 0

abbrev Moved : ℕ → Type 0
Moved r = crc8_from r zeros ≡ after_zero r

moved_xor : (a c : ℕ) → Moved a → Moved c → Moved (bit_xor a c)
moved_xor a c f g = zeros_linear PART a c ∙ ap₂ bit_xor f g ∙ sym (bit_linear a c false)

moved_bits : (k : ℕ) → k < 8 → Moved (2 ^ k)
unfolding crc8_from after_byte after_bits after_bit xor
moved_bits k h =
    eqb→eq (crc8_from (2 ^ k) zeros) (after_zero (2 ^ k))
    (under (λ j. eqb (crc8_from (2 ^ j) zeros) (after_zero (2 ^ j))) 8 tt k h)

moved_zero : Moved 0
unfolding crc8_from after_byte after_bits after_bit xor
moved_zero = refl

sixteen : (r : ℕ) → r < 256 → Moved r
sixteen r h = by_bits Moved moved_zero moved_xor moved_bits r h

past_part : (r : ℕ) (b : List ℕ) → r < 256 → crc8_from r (zeros ++ b) ≡ crc8_from (after_zero r) b
past_part r b h = in_parts r zeros b ∙ ap (λ (z : ℕ). crc8_from z b) (sixteen r h)

sixty_four : (r : ℕ) → r < 256 → crc8_from r (replicate LANES 0) ≡ after_four r
sixty_four r h =
    let one = after_zero r in
    let two = after_zero one in
    let three = after_zero two in
    past_part r (zeros ++ (zeros ++ zeros)) h
    ∙ past_part one (zeros ++ zeros) (bit_below r false)
    ∙ past_part two zeros (bit_below one false)
    ∙ sixteen three (bit_below two false)

pub as_four_bits : AsFourBits
unfolding after_bits
as_four_bits r h = sixty_four r h

-- ---- a quarter behind a register, and a further block behind the lanes

pub behind_part : (r : ℕ) (b : List ℕ) → r < 256 → length b ≡ PART → crc8_from r b ≡ bit_xor (after_zero r) (crc8 b)
behind_part r b h e = after_zeros PART r b e ∙ ap (λ (z : ℕ). bit_xor z (crc8 b)) (sixteen r h)

pub step : (lanes block : List ℕ) → length lanes ≡ LANES → length block ≡ LANES
    → crc8_from (crc8 lanes) block ≡ crc8 (taken_in lanes block)
step lanes block e f =
    let moved : List ℕ = map after_four lanes in
    let is_moved : after_four (crc8 lanes) ≡ crc8 moved =
    moved_code 0 lanes ∙ ap (λ (z : ℕ). crc8_from z moved) four_stays
    in
    after_zeros LANES (crc8 lanes) block f
    ∙ ap (λ (z : ℕ). bit_xor z (crc8 block)) (sixty_four (crc8 lanes) (is_byte 0 lanes (lit< tt)) ∙ is_moved)
    ∙ sym (xored_code 0 0 moved block (length-map lanes after_four ∙ e ∙ sym f))
