-- Numbers, digit by digit.
use Rattle.std.specs.Prelude.{Some, None, if◌then◌else◌}
use Prim.Native.Nat.{ℕ, zero, suc, ◌+◌, ◌*◌, ◌-◌, ◌<◌, ◌≤◌, ◌^◌}
use native.Mathlib.Omega.{arith}
use native.Mathlib.Numerals.{add-one}
use native.Mathlib.Nat.{zero-add, suc-add}
use mathlib.Core.List.{List}
use mathlib.Core.Bool.{Bool, true, false}
use mathlib.Core.Path.{◌≡◌, ◌∙◌, refl, sym}
use lib.Dec.{ltb}
use lib.Pow.{pow-add, pow_mono}
use lib.ListN.{get_or, take, drop}
use lib.Seq.{get_or-take, get_or-drop}
use borrow.Author.Tests.{lt-ltb, le-ltb, ltb-true, ltb-false}
use Rattle.text_hex.specs.Text.{digit_of, digit_in, number_at}

-- a digit was found, with its value, or none was
pub record DigitIs (c d : ℕ) : Type 0 where
  pub same : d ≡ digit_of c
  pub below : d < 16

pub is_digit : (c d : ℕ) → digit_in c ≡ Some d → DigitIs c d
is_digit c d = go (ltb (digit_of c) 16) refl
  where
    go : (b : Bool) → ltb (digit_of c) 16 ≡ b → (if b then Some (digit_of c) else None) ≡ Some d → DigitIs c d
    go true l e = let f : digit_of c ≡ d = cc in let h : digit_of c < 16 = ltb-true _ _ l in record { same = sym f; below = omega (arith, h, f) }
    go false l e = absurd (cc)

pub no_digit : (c : ℕ) → digit_in c ≡ None → 16 ≤ digit_of c
no_digit c = go (ltb (digit_of c) 16) refl
  where
    go : (b : Bool) → ltb (digit_of c) 16 ≡ b → (if b then Some (digit_of c) else None) ≡ None → 16 ≤ digit_of c
    go true l e = absurd (cc)
    go false l e = ltb-false _ _ l

module _ (line : List ℕ) (at i v d : ℕ) (so_far : number_at line at i ≡ Some v) (last : d ≡ digit_of (get_or line (at + i) 0)) where
  pub one_more : d < 16 → number_at line at (i + 1) ≡ Some (v * 16 + d)
  unfolding number_at
  one_more h = rw (add-one, so_far, ← last, lt-ltb _ _ h)

  pub no_more : 16 ≤ d → number_at line at (i + 1) ≡ None
  unfolding number_at
  no_more h = rw (add-one, so_far, ← last, le-ltb _ _ h)

-- where a byte is no digit, the digits after it do not help
stays : (line : List ℕ) (at i k : ℕ) → number_at line at i ≡ None → number_at line at (k + i) ≡ None
unfolding number_at
stays line at i zero h = rw zero-add h
stays line at i (suc k) h = rw suc-add (rw (stays line at i k h))

pub never : (line : List ℕ) (at i n : ℕ) → number_at line at i ≡ None → i ≤ n → number_at line at n ≡ None
never line at i n h l =
    let e : (n - i) + i ≡ n = omega arith in
    rw e at (stays line at i (n - i) h)

-- i digits write a number below 16 to the i, so that 8 fit a word
pub wider : (i : ℕ) {v d : ℕ} → v < 2 ^ (4 * i) → d < 16 → v * 16 + d < 2 ^ (4 * (i + 1))
wider i {v} {d} h l =
    let e : 4 * (i + 1) ≡ 4 * i + 4 = omega arith in
    rw (e, pow-add) (omega arith)

pub below : (i : ℕ) {v : ℕ} → v < 2 ^ (4 * i) → i < 8 → v < 268435456
below i {v} h l =
    let p : 4 * i ≤ 28 = omega arith in
    omega (arith, pow_mono p)

-- the byte of a slice of a line, as one of the line
pub byte_in : (line : List ℕ) (at n i : ℕ) → i < n → get_or (take ((at + n) - at) (drop at line)) i 0 ≡ get_or line (at + i) 0
byte_in line at n i h = get_or-take ((at + n) - at) (drop at line) i 0 (omega arith) ∙ get_or-drop at line i 0
