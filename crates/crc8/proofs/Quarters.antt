-- The code of the lanes by their quarters, each taken byte by byte beside the others. By `behind_part` (Moved.antt).
use Prim.Native.Nat.{ℕ, ◌+◌, ◌<◌, ◌≤◌}
use native.Mathlib.Numerals.{add-one}
use native.Mathlib.Omega.{arith}
use mathlib.Core.Bool.{false, xor}
use mathlib.Core.List.{List, [], ◌∷◌}
use mathlib.Core.Path.{◌≡◌, sym, ap, ap₂, ◌∙◌}
use lib.Bits.{bit_xor, xor_lt}
use lib.Dec.{lit<, lit≤}
use lib.ListN.{length, take, drop, get_or, length-drop, take-append-drop}
use lib.Seq.{take_all, take-suc, drop-drop, length-take-le, get_or-take, get_or-drop}
use Rattle.std.specs.Prelude.{fold}
use Rattle.std.specs.Simd.{first_chunks}
use Rattle.crc8.specs.Crc8.{after_bit, after_byte, crc8_from, crc8}
use Rattle.crc8.specs.Inner.Lanes.{LANES, PART, after_zero}
use Rattle.crc8.proofs.Back.{bit_below}
use Rattle.crc8.proofs.Laws.{is_byte, in_parts}
use Rattle.crc8.proofs.Moved.{behind_part}

-- the quarter of the lanes from k on
abbrev pub quarter : ℕ → List ℕ → List ℕ
quarter k lanes = take PART (drop k lanes)

quarter_size : (k : ℕ) (lanes : List ℕ) → length lanes ≡ LANES → k + PART ≤ LANES → length (quarter k lanes) ≡ PART
quarter_size k lanes e h = length-take-le PART (drop k lanes) (omega (arith, length-drop k lanes))

quarter_at : (k j i : ℕ) (lanes : List ℕ) → j < PART → k + j ≡ i → get_or (quarter k lanes) j 0 ≡ get_or lanes i 0
quarter_at k j i lanes h e =
    get_or-take PART (drop k lanes) j 0 h ∙ get_or-drop k lanes j 0 ∙ ap (λ (n : ℕ). get_or lanes n 0) e

-- ---- the quarters in order

parted : (r i : ℕ) (lanes : List ℕ)
    → crc8_from r (drop i lanes) ≡ crc8_from (crc8_from r (quarter i lanes)) (drop (i + PART) lanes)
parted r i lanes =
    ap (crc8_from r) (sym (take-append-drop PART (drop i lanes)))
    ∙ in_parts r (quarter i lanes) (drop PART (drop i lanes))
    ∙ ap (crc8_from (crc8_from r (quarter i lanes))) (drop-drop PART i lanes)

byte : (l : List ℕ) → crc8 l < 256
byte l = is_byte 0 l (lit< tt)

abbrev pub next_register : ℕ → List ℕ → ℕ
next_register r b = bit_xor (after_zero r) (crc8 b)

small : (r : ℕ) (b : List ℕ) → next_register r b < 256
small r b = xor_lt 8 (after_zero r) (crc8 b) (bit_below r false) (byte b)

by_quarters : (lanes : List ℕ) → length lanes ≡ LANES
    → crc8 lanes
    ≡ next_register
    (next_register (next_register (crc8 (quarter 0 lanes)) (quarter 16 lanes)) (quarter 32 lanes))
    (quarter 48 lanes)
by_quarters lanes e =
    let q = quarter 16 lanes in
    let s = quarter 32 lanes in
    let t = quarter 48 lanes in
    let one = crc8 (quarter 0 lanes) in
    let two = next_register one q in
    let three = next_register two s in
    let last : drop 48 lanes ≡ t = sym (take_all PART (drop 48 lanes) (omega (arith, length-drop 48 lanes))) in
    parted 0 0 lanes ∙ parted one 16 lanes
    ∙ ap (λ (z : ℕ). crc8_from z (drop 32 lanes))
    (behind_part one q (byte (quarter 0 lanes)) (quarter_size 16 lanes e (lit≤ tt)))
    ∙ parted two 32 lanes
    ∙ ap₂ crc8_from (behind_part two s (small one q) (quarter_size 32 lanes e (lit≤ tt))) last
    ∙ behind_part three t (small two s) (quarter_size 48 lanes e (lit≤ tt))

-- as a fold over them
pub quarters : (lanes : List ℕ) → length lanes ≡ LANES → fold next_register 0 (first_chunks PART 4 lanes) ≡ crc8 lanes
unfolding after_bit xor
quarters lanes e =
    let join : List ℕ → List ℕ → ℕ =
    λ s t. next_register (next_register (next_register (crc8 (quarter 0 lanes)) (quarter 16 lanes)) s) t
    in
    let third : drop PART (drop PART lanes) ≡ drop 32 lanes = drop-drop PART PART lanes in
    let fourth : drop PART (drop PART (drop PART lanes)) ≡ drop 48 lanes = ap (drop PART) third ∙ drop-drop PART 32 lanes in
    ap₂ join (ap (take PART) third) (ap (take PART) fourth) ∙ sym (by_quarters lanes e)

-- ---- the loop

-- the code of the first j bytes of the quarter from k on
abbrev pub code_so_far : ℕ → List ℕ → ℕ → ℕ
code_so_far k lanes j = crc8 (take j (drop k lanes))

pub a_byte_on : (k i j : ℕ) (lanes : List ℕ) (r v : ℕ) → k + j ≡ i → i < length lanes
    → r ≡ code_so_far k lanes j
    → v ≡ after_byte r (get_or lanes i 0)
    → v ≡ code_so_far k lanes (j + 1)
unfolding crc8_from
a_byte_on k i j lanes r v e h f g =
    let inside : j < length (drop k lanes) = omega (arith, length-drop k lanes) in
    let x = get_or (drop k lanes) j 0 in
    let same : x ≡ get_or lanes i 0 = get_or-drop k lanes j 0 ∙ ap (λ (n : ℕ). get_or lanes n 0) e in
    g ∙ ap₂ after_byte f (sym same)
    ∙ sym (in_parts 0 (take j (drop k lanes)) (x ∷ []))
    ∙ ap crc8 (sym (take-suc (drop k lanes) j 0 inside) ∙ ap (λ (n : ℕ). take n (drop k lanes)) (sym (add-one j)))

-- the four codes made one
pub joined : (lanes : List ℕ) (a b c d u v w j : ℕ) → length lanes ≡ LANES → j ≡ PART
    → a ≡ code_so_far 0 lanes j
    → b ≡ code_so_far 16 lanes j
    → c ≡ code_so_far 32 lanes j
    → d ≡ code_so_far 48 lanes j
    → u ≡ after_zero a
    → v ≡ after_zero (bit_xor u b)
    → w ≡ after_zero (bit_xor v c)
    → bit_xor w d ≡ crc8 lanes
joined lanes a b c d u v w j size end e f g h p q s =
    let one = p ∙ ap after_zero (e ∙ ap (code_so_far 0 lanes) end) in
    let two = q ∙ ap after_zero (ap₂ bit_xor one (f ∙ ap (code_so_far 16 lanes) end)) in
    let three = s ∙ ap after_zero (ap₂ bit_xor two (g ∙ ap (code_so_far 32 lanes) end)) in
    ap₂ bit_xor three (h ∙ ap (code_so_far 48 lanes) end) ∙ sym (by_quarters lanes size)
