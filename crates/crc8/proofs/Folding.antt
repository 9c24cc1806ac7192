-- The loops of the lanes: a block is taken in place by place (`taken`), and a message block by block (`folded`).
use Prim.Native.Nat.{ℕ, zero, suc, ◌+◌, ◌-◌, ◌*◌, ◌/◌, ◌%◌, ◌<◌, ◌≤◌}
use native.Mathlib.Numerals.{add-one}
use native.Mathlib.Omega.{arith}
use mathlib.Core.List.{List, [], ◌∷◌, ◌++◌, map}
use mathlib.Core.Path.{◌≡◌, refl, sym, ap, ap₂, ◌∙◌}
use lib.Bits.{bit_xor}
use lib.ListN.{length, take, drop, get_or, set, length-append, length-drop, length-map, take-append-drop}
use lib.Seq.{take_all, length-take-le}
use Rattle.std.specs.Prelude.{fold}
use Rattle.std.specs.Simd.{first_chunks}
use Rattle.crc8.specs.Crc8.{crc8_from, crc8}
use Rattle.crc8.specs.Inner.Lanes.{LANES, after_four, xored, taken_in}
use Rattle.crc8.proofs.Laws.{in_parts}
use Rattle.crc8.proofs.Moved.{step}

-- ---- a block, place by place

-- the lanes with the block's first j bytes taken in
unfoldable pub partly : ℕ → List ℕ → List ℕ → List ℕ
partly zero a b = a
partly (suc j) [] b = []
partly (suc j) (x ∷ a) [] = x ∷ a
partly (suc j) (x ∷ a) (y ∷ b) = bit_xor (after_four x) y ∷ partly j a b

partly_more : (j : ℕ) (a b : List ℕ) → j < length a → j < length b
    → set (partly j a b) j (bit_xor (after_four (get_or (partly j a b) j 0)) (get_or b j 0)) ≡ partly (suc j) a b
unfolding partly
partly_more j [] b h l = absurd (omega arith)
partly_more j (x ∷ a) [] h l = absurd (omega arith)
partly_more zero (x ∷ a) (y ∷ b) h l = refl
partly_more (suc j) (x ∷ a) (y ∷ b) h l =
    ap (λ (t : List ℕ). bit_xor (after_four x) y ∷ t) (partly_more j a b (omega arith) (omega arith))

pub partly_all : (n : ℕ) (a b : List ℕ) → length a ≡ n → length b ≡ n → partly n a b ≡ taken_in a b
unfolding partly xored
partly_all zero [] b e f = refl
partly_all zero (x ∷ a) b e f = absurd (omega arith)
partly_all (suc n) [] b e f = absurd (omega arith)
partly_all (suc n) (x ∷ a) [] e f = absurd (omega arith)
partly_all (suc n) (x ∷ a) (y ∷ b) e f =
    ap (λ (t : List ℕ). bit_xor (after_four x) y ∷ t) (partly_all n a b (omega arith) (omega arith))

pub taken : (j : ℕ) (before block after : List ℕ) (v : ℕ) → j < length before → j < length block → after ≡ partly j before block
    → v ≡ after_four (get_or after j 0)
    → set after j (bit_xor v (get_or block j 0)) ≡ partly (j + 1) before block
taken j before block after v h l e w =
    ap₂ (λ (t : List ℕ) (x : ℕ). set t j (bit_xor x (get_or block j 0))) e
    (w ∙ ap (λ (t : List ℕ). after_four (get_or t j 0)) e)
    ∙ partly_more j before block h l
    ∙ ap (λ (n : ℕ). partly n before block) (sym (add-one j))

-- ---- a message, block by block

length_xored : (a b : List ℕ) → length a ≡ length b → length (xored a b) ≡ length a
unfolding xored
length_xored [] b e = refl
length_xored (x ∷ a) [] e = absurd (omega arith)
length_xored (x ∷ a) (y ∷ b) e = ap suc (length_xored a b (omega arith))

length_taken : (a b : List ℕ) → length a ≡ length b → length (taken_in a b) ≡ length a
length_taken a b e =
    length_xored (map after_four a) b (length-map a after_four ∙ e) ∙ length-map a after_four

pub folded : (k : ℕ) (lanes bytes : List ℕ) → length lanes ≡ LANES → length bytes ≡ k * LANES
    → crc8 (fold taken_in lanes (first_chunks LANES k bytes)) ≡ crc8_from (crc8 lanes) bytes
unfolding crc8_from
folded zero lanes [] e f = refl
folded zero lanes (x ∷ bytes) e f = absurd (omega arith)
folded (suc k) lanes bytes e f =
    let block : List ℕ = take LANES bytes in
    let rest : List ℕ = drop LANES bytes in
    let size : length block ≡ LANES = length-take-le LANES bytes (omega arith) in
    let left : length rest ≡ k * LANES = length-drop LANES bytes ∙ omega arith in
    folded k (taken_in lanes block) rest (length_taken lanes block (e ∙ sym size) ∙ e) left
    ∙ ap (λ (z : ℕ). crc8_from z rest) (sym (step lanes block e size))
    ∙ sym (in_parts (crc8 lanes) block rest)
    ∙ ap (crc8_from (crc8 lanes)) (take-append-drop LANES bytes)

-- the first block, of what is left over, and then the whole ones
pub whole : (start : ℕ) (bytes front rest lanes after : List ℕ) (blocks : List (List ℕ)) (i : ℕ)
    → bytes ≡ front ++ rest
    → 0 < length bytes
    → length front ≡ (length bytes - 1) % LANES + 1
    → blocks ≡ first_chunks LANES (length rest / LANES) rest
    → length lanes ≡ LANES
    → crc8 lanes ≡ crc8_from start front
    → after ≡ fold taken_in lanes (take i blocks)
    → length blocks ≤ i
    → crc8 after ≡ crc8_from start bytes
whole start bytes front rest lanes after blocks i parts some short chunked size first e end =
    let long : length bytes ≡ length front + length rest = ap length parts ∙ length-append front rest in
    let even : length rest ≡ length rest / LANES * LANES = omega arith in
    ap crc8 (e ∙ ap (fold taken_in lanes) (take_all i blocks end ∙ chunked))
    ∙ folded (length rest / LANES) lanes rest size even
    ∙ ap (λ (z : ℕ). crc8_from z rest) first
    ∙ sym (in_parts start front rest)
    ∙ ap (crc8_from start) (sym parts)
