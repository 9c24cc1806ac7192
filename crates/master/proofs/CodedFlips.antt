-- A bit that is flipped on the bus changes the code: `FlipSeen` of specs/CodedLaws.antt, from the law of the code alone.
use Prim.Native.Nat.{ℕ, zero, suc, ◌^◌, ◌<◌}
use native.Mathlib.Omega.{arith}
use mathlib.Core.List.{List, [], ◌∷◌, ◌++◌}
use mathlib.Core.Logic.{◌≢◌}
use mathlib.Core.Path.{◌≡◌, refl, sym, ap, ◌∙◌}
use lib.Bits.{bit_xor}
use lib.Dec.{lit<}
use lib.ListN.{length}
use Rattle.crc8.specs.Crc8.{crc8_from, crc8}
use Rattle.crc8.specs.Laws.{flipped}
use Rattle.crc8.proofs.Laws.{one_bit_flipped}
use Rattle.bus.specs.declared.Sign.{Sign}
use Rattle.bus.specs.declared.Sign.TheVariants.{Start, Restart, Stop, Address, Written, ReadSlot}
use Rattle.master.specs.Coded.{message}
use Rattle.master.specs.CodedLaws.{slots, FlipSeen}

-- ---- a byte among others

-- the byte behind a, flipped
flipped_behind : (a : List ℕ) (x k : ℕ) (b : List ℕ) → flipped (length a) k (a ++ x ∷ b) ≡ a ++ bit_xor x (2 ^ k) ∷ b
unfolding flipped
flipped_behind [] x k b = refl
flipped_behind (y ∷ a) x k b = ap (λ (l : List ℕ). y ∷ l) (flipped_behind a x k b)

inside : (a : List ℕ) (x : ℕ) (b : List ℕ) → length a < length (a ++ x ∷ b)
inside [] x b = omega arith
inside (y ∷ a) x b = omega (arith, inside a x b)

byte_seen : (a : List ℕ) (x k : ℕ) (b : List ℕ) → k < 8 → crc8 (a ++ bit_xor x (2 ^ k) ∷ b) ≢ crc8 (a ++ x ∷ b)
byte_seen a x k b h e =
    one_bit_flipped 0 (length a) k (a ++ x ∷ b) (lit< tt) (inside a x b) h (ap (crc8_from 0) (flipped_behind a x k b) ∙ e)

-- ---- an address byte or a written byte

-- the bytes that came and are left for what follows these signs
unfoldable left : List Sign → List ℕ → List ℕ
left [] came = came
left (Start ∷ ss) came = left ss came
left (Restart ∷ ss) came = left ss came
left (Stop ∷ ss) came = left ss came
left (Address a ∷ ss) came = left ss came
left (Written b ∷ ss) came = left ss came
left (ReadSlot ∷ ss) [] = left ss []
left (ReadSlot ∷ ss) (b ∷ came) = left ss came

-- a sign that is the byte x, whatever came
module _ (sign : Sign) (x : ℕ) (is : (ss : List Sign) (came : List ℕ) → message (sign ∷ ss) came ≡ x ∷ message ss came) where
  in_message : (before after : List Sign) (came : List ℕ)
      → message (before ++ sign ∷ after) came ≡ message before came ++ x ∷ message after (left before came)
  unfolding message left
  in_message [] after came = is after came
  in_message (Start ∷ ss) after came = in_message ss after came
  in_message (Restart ∷ ss) after came = in_message ss after came
  in_message (Stop ∷ ss) after came = in_message ss after came
  in_message (Address a ∷ ss) after came = ap (λ (l : List ℕ). a ∷ l) (in_message ss after came)
  in_message (Written b ∷ ss) after came = ap (λ (l : List ℕ). b ∷ l) (in_message ss after came)
  in_message (ReadSlot ∷ ss) after [] = in_message ss after []
  in_message (ReadSlot ∷ ss) after (b ∷ came) = ap (λ (l : List ℕ). b ∷ l) (in_message ss after came)

address_in : (a : ℕ) (ss : List Sign) (came : List ℕ) → message (Address a ∷ ss) came ≡ a ∷ message ss came
unfolding message
address_in a ss came = refl

written_in : (b : ℕ) (ss : List Sign) (came : List ℕ) → message (Written b ∷ ss) came ≡ b ∷ message ss came
unfolding message
written_in b ss came = refl

-- ---- a byte that is read

-- where byte i of those that came stands in the message
unfoldable place : List Sign → ℕ → ℕ
place [] i = zero
place (Start ∷ ss) i = place ss i
place (Restart ∷ ss) i = place ss i
place (Stop ∷ ss) i = place ss i
place (Address a ∷ ss) i = suc (place ss i)
place (Written b ∷ ss) i = suc (place ss i)
place (ReadSlot ∷ ss) zero = zero
place (ReadSlot ∷ ss) (suc i) = suc (place ss i)

read_flipped : (ss : List Sign) (came : List ℕ) (i k : ℕ) → i < length came
    → message ss (flipped i k came) ≡ flipped (place ss i) k (message ss came)
unfolding message flipped place
read_flipped [] came i k h = refl
read_flipped (Start ∷ ss) came i k h = read_flipped ss came i k h
read_flipped (Restart ∷ ss) came i k h = read_flipped ss came i k h
read_flipped (Stop ∷ ss) came i k h = read_flipped ss came i k h
read_flipped (Address a ∷ ss) came i k h = ap (λ (l : List ℕ). a ∷ l) (read_flipped ss came i k h)
read_flipped (Written b ∷ ss) came i k h = ap (λ (l : List ℕ). b ∷ l) (read_flipped ss came i k h)
read_flipped (ReadSlot ∷ ss) [] i k h = absurd (omega arith)
read_flipped (ReadSlot ∷ ss) (b ∷ came) zero k h = refl
read_flipped (ReadSlot ∷ ss) (b ∷ came) (suc i) k h = ap (λ (l : List ℕ). b ∷ l) (read_flipped ss came i k (omega arith))

read_inside : (ss : List Sign) (came : List ℕ) (i : ℕ) → i < length came → i < slots ss → place ss i < length (message ss came)
unfolding message slots place
read_inside [] came i h l = absurd (omega arith)
read_inside (Start ∷ ss) came i h l = read_inside ss came i h l
read_inside (Restart ∷ ss) came i h l = read_inside ss came i h l
read_inside (Stop ∷ ss) came i h l = read_inside ss came i h l
read_inside (Address a ∷ ss) came i h l = omega (arith, read_inside ss came i h l)
read_inside (Written b ∷ ss) came i h l = omega (arith, read_inside ss came i h l)
read_inside (ReadSlot ∷ ss) [] i h l = absurd (omega arith)
read_inside (ReadSlot ∷ ss) (b ∷ came) zero h l = omega arith
read_inside (ReadSlot ∷ ss) (b ∷ came) (suc i) h l = omega (arith, read_inside ss came i (omega arith) (omega arith))

-- ---- the law

pub flip_seen : FlipSeen
flip_seen = record {
  in_address = λ before after came a k h e. byte_seen (message before came) a k (message after (left before came)) h
      (ap (crc8_from 0) (sym (in_message (Address (bit_xor a (2 ^ k))) _ (address_in _) before after came))
      ∙ e ∙ ap (crc8_from 0) (in_message (Address a) a (address_in a) before after came));
  in_written = λ before after came b k h e. byte_seen (message before came) b k (message after (left before came)) h
      (ap (crc8_from 0) (sym (in_message (Written (bit_xor b (2 ^ k))) _ (written_in _) before after came))
      ∙ e ∙ ap (crc8_from 0) (in_message (Written b) b (written_in b) before after came));
  in_read = λ ss came i k h l m e.
      one_bit_flipped 0 (place ss i) k (message ss came) (lit< tt) (read_inside ss came i l m) h
      (ap (crc8_from 0) (sym (read_flipped ss came i k l)) ∙ e);
}
