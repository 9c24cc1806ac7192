-- The laws of specs/Laws.antt.
use Prim.Native.Nat.{ℕ, zero, suc, ◌%◌, ◌^◌, ◌<◌}
use native.Mathlib.Omega.{arith}
use mathlib.Core.Bool.{xor}
use mathlib.Core.List.{List, [], ◌∷◌, ◌++◌}
use mathlib.Core.Path.{◌≡◌, refl, sym, ap, ◌∙◌}
use lib.Bits.{bit_xor, xor_mod, xor_zero_r}
use lib.Dec.{eqb, eqb→eq, ltb, ltb→lt}
use lib.ListN.{length, take, drop, get_or}
use lib.Seq.{split_at}
use Rattle.regs.proofs.Table.{under}
use Rattle.crc8.specs.Crc8.{after_bit, after_bits, after_byte, crc8_from}
use Rattle.crc8.specs.Laws.{CheckValue, IsByte, InParts, Residue, OnlyResidue, OneByteChanged, flipped, OneBitFlipped}
use Rattle.crc8.proofs.Xor.{xor_cancel}
use Rattle.crc8.proofs.Back.{byte_below, register_same, byte_same, low_byte}

pub check_value : CheckValue
unfolding crc8_from after_byte after_bits after_bit xor
check_value = refl

pub is_byte : IsByte
unfolding crc8_from
is_byte start [] h = h
is_byte start (x ∷ xs) h = is_byte (after_byte start x) xs (byte_below start x h)

pub in_parts : InParts
unfolding crc8_from
in_parts start [] b = refl
in_parts start (x ∷ a) b = in_parts (after_byte start x) a b

-- the register and the same byte leave 0
own_code : (r : ℕ) → r < 256 → after_byte r r ≡ 0
unfolding after_byte after_bits after_bit xor
own_code r h = eqb→eq (after_byte r r) 0 (under (λ k. eqb (after_byte k k) 0) 256 tt r h)

pub residue : Residue
unfolding crc8_from
residue start bytes h = in_parts start bytes _ ∙ own_code (crc8_from start bytes) (is_byte start bytes h)

pub only_residue : OnlyResidue
unfolding crc8_from
only_residue start x bytes h l e =
    let r = crc8_from start bytes in
    let m : r < 256 = is_byte start bytes h in
    byte_same r x r m l m (sym (in_parts start bytes (x ∷ [])) ∙ e ∙ sym (own_code r m))

-- registers that differ still differ after any further bytes
start_same : (r s : ℕ) (xs : List ℕ) → r < 256 → s < 256 → crc8_from r xs ≡ crc8_from s xs → r ≡ s
unfolding crc8_from
start_same r s [] h l e = e
start_same r s (x ∷ xs) h l e =
    register_same r s x h l
    (start_same (after_byte r x) (after_byte s x) xs (byte_below r x h) (byte_below s x l) e)

changed : (start x y : ℕ) (before behind : List ℕ) → start < 256
    → crc8_from start (before ++ x ∷ behind) ≡ crc8_from start (before ++ y ∷ behind)
    → x % 256 ≡ y % 256
unfolding crc8_from
changed start x y before behind h e =
    let r = crc8_from start before in
    let l : r < 256 = is_byte start before h in
    let same : after_byte r x ≡ after_byte r y =
    start_same (after_byte r x) (after_byte r y) behind (byte_below r x l) (byte_below r y l)
    (sym (in_parts start before (x ∷ behind)) ∙ e ∙ in_parts start before (y ∷ behind))
    in
    byte_same r (x % 256) (y % 256) l (omega arith) (omega arith) (low_byte r x ∙ same ∙ sym (low_byte r y))

pub one_byte_changed : OneByteChanged
one_byte_changed start x y before behind h l m ne e = ne (omega (arith, changed start x y before behind h e))

flipped_at : (i k : ℕ) (bytes : List ℕ) → i < length bytes
    → flipped i k bytes ≡ take i bytes ++ bit_xor (get_or bytes i 0) (2 ^ k) ∷ drop (suc i) bytes
unfolding flipped
flipped_at i k [] h = absurd (omega arith)
flipped_at zero k (x ∷ xs) h = refl
flipped_at (suc i) k (x ∷ xs) h = ap (λ (l : List ℕ). x ∷ l) (flipped_at i k xs (omega arith))

-- a flipped bit is another byte
other : (x k : ℕ) → k < 8 → bit_xor x (2 ^ k) % 256 ≡ x % 256 → ⊥
other x k h e =
    let some : 0 < 2 ^ k % 256 = ltb→lt 0 (2 ^ k % 256) (under (λ j. ltb 0 (2 ^ j % 256)) 8 tt k h) in
    let none : 2 ^ k % 256 ≡ 0 = xor_cancel (x % 256) (sym (xor_mod x (2 ^ k) 8) ∙ e ∙ sym (xor_zero_r (x % 256))) in
    omega arith

pub one_bit_flipped : OneBitFlipped
one_bit_flipped start i k bytes h l m e =
    other (get_or bytes i 0) k m
    (changed start _ _ (take i bytes) (drop (suc i) bytes) h
    (ap (crc8_from start) (sym (flipped_at i k bytes l)) ∙ e ∙ ap (crc8_from start) (split_at bytes i 0 l)))
