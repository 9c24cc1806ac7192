-- The first block: its bytes are copied to the end of lanes that are 0 (`at_end`), and the start value goes into the
-- first of them, so that the lanes have the code of the block from that value on (`begun`).
use Prim.Native.Nat.{ℕ, ◌+◌, ◌-◌, ◌%◌, ◌<◌, ◌≤◌}
use native.Mathlib.Omega.{arith}
use mathlib.Core.List.{List, [], ◌∷◌, ◌++◌, append-nil}
use mathlib.Core.Path.{◌≡◌, sym, ap, ap₂, ◌∙◌}
use borrow.Rule.Slice.PartMut.{put_mid}
use lib.Bits.{bit_xor, xor_comm, xor_mod, xor_zero_l}
use lib.ListN.{length, take, drop, get_or, set, replicate, length-drop, length-replicate, replicate-append-replicate}
use lib.ListN.{drop_of_length-le}
use lib.Seq.{take_at, set_at, get_or_at}
use Rattle.crc8.specs.Crc8.{after_byte, crc8_from, crc8}
use Rattle.crc8.specs.Inner.Lanes.{LANES}
use Rattle.crc8.proofs.Xored.{by_xor, filled}

-- ---- the start value in the first byte

in_byte : (start x : ℕ) → start < 256 → after_byte 0 (bit_xor start x) ≡ after_byte start x
in_byte start x h =
    let low : start % 256 ≡ start = omega arith in
    by_xor 0 (bit_xor start x)
    ∙ ap (λ (z : ℕ). after_byte z 0)
    (xor_zero_l (bit_xor start x % 256) ∙ xor_mod start x 8 ∙ ap (λ (s : ℕ). bit_xor s (x % 256)) low)
    ∙ sym (by_xor start x)

with_start : (start gap : ℕ) (block : List ℕ) → start < 256 → 0 < length block
    → crc8
    (set (replicate gap 0 ++ block) gap (bit_xor start (get_or (replicate gap 0 ++ block) gap 0)))
    ≡ crc8_from start block
unfolding crc8_from
with_start start gap [] h l = absurd (omega arith)
with_start start gap (x ∷ block) h l =
    let front : List ℕ = replicate gap 0 in
    let size : length front ≡ gap = length-replicate {A = ℕ} gap 0 in
    ap crc8
    (ap (λ (y : ℕ). set (front ++ x ∷ block) gap (bit_xor start y)) (get_or_at front x block 0 gap size)
    ∙ set_at front x block (bit_xor start x) gap size)
    ∙ filled gap (bit_xor start x ∷ block)
    ∙ ap (λ (r : ℕ). crc8_from r block) (in_byte start x h)

-- ---- the bytes at the end of the lanes

-- the lanes, 0 but for the block at their end
abbrev pub at_end : List ℕ → List ℕ
at_end block = put_mid (LANES - length block) (LANES - (LANES - length block)) (replicate LANES 0) block

at_end_is : (block : List ℕ) → length block ≤ LANES → at_end block ≡ replicate (LANES - length block) 0 ++ block
at_end_is block h =
    let gap : ℕ = LANES - length block in
    let front : List ℕ = replicate gap 0 in
    let size : length front ≡ gap = length-replicate {A = ℕ} gap 0 in
    let room : LANES ≡ gap + length block = omega arith in
    let zeros : replicate LANES 0 ≡ front ++ replicate (length block) 0 =
    ap (λ (n : ℕ). replicate n 0) room ∙ sym (replicate-append-replicate {A = ℕ} gap (length block) 0)
    in
    let before : take gap (replicate LANES 0) ≡ front = ap (take gap) zeros ∙ take_at front _ gap size in
    let behind : drop (LANES - gap) (drop gap (replicate LANES 0)) ≡ [] =
    drop_of_length-le (drop gap (replicate LANES 0)) {i = LANES - gap}
    (omega (arith, length-drop {A = ℕ} gap (replicate LANES 0), length-replicate {A = ℕ} LANES 0))
    in
    ap₂ (λ (l m : List ℕ). l ++ (block ++ m)) before behind ∙ ap (λ (l : List ℕ). front ++ l) (append-nil block)

-- and with the start value in the block's first byte
pub begun : (start : ℕ) (block : List ℕ) → start < 256 → 0 < length block → length block ≤ LANES
    → crc8 (set (at_end block) (LANES - length block) (bit_xor (get_or (at_end block) (LANES - length block) 0) start))
    ≡ crc8_from start block
begun start block h l m =
    let gap : ℕ = LANES - length block in
    ap (λ (t : List ℕ). crc8 (set t gap (bit_xor (get_or t gap 0) start))) (at_end_is block m)
    ∙ ap (λ (x : ℕ). crc8 (set (replicate gap 0 ++ block) gap x)) (xor_comm _ start)
    ∙ with_start start gap block h l
