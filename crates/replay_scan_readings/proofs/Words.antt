-- Eight digits by a table of their values.
use Prim.Native.Nat.{ℕ, ◌+◌, ◌*◌, ◌<◌, ◌≤◌}
use native.Mathlib.Omega.{arith}
use mathlib.Core.Bool.{Bool, true, false}
use mathlib.Core.List.{List}
use mathlib.Core.Path.{◌≡◌, refl, ap, ◌∙◌}
use lib.Dec.{ltb}
use lib.ListN.{length, get_or}
use borrow.Author.Tests.{ltb-true}
use Rattle.std.specs.Prelude.{if◌then◌else◌, Some}
use Rattle.text_hex.specs.Text.{digit_of, number_at}
use Rattle.text_hex.proofs.Numbers.{one_more}
use Rattle.text_hex.proofs.Tables.{every, at}
use Rattle.replay_scan_readings.specs.Inner.Run.{marked, DigitValues, PairAt}
use Rattle.replay_scan_readings.specs.declared.Pair.{Pair}

pub digit_values : (xs : List ℕ) → length xs ≡ 256 → every marked 0 xs ≡ true → DigitValues xs
digit_values xs z t = record { size = z; value = λ c h. at marked xs t c (omega arith) }

-- what is below 128 is the value of a digit
record Digit (c t : ℕ) : Type 0 where
  same : t ≡ digit_of c
  below : t < 16

is_digit : (c : ℕ) {t : ℕ} → t ≡ marked c → t < 128 → Digit c t
unfolding marked
is_digit c {t} e h = go (ltb (digit_of c) 16) refl e
  where
    go : (b : Bool) → ltb (digit_of c) 16 ≡ b → t ≡ (if b then digit_of c else 128) → Digit c t
    go true f g = let l = ltb-true (digit_of c) 16 f in record { same = g; below = omega arith }
    go false f g = absurd (omega arith)

pub marked_most : (c : ℕ) → marked c ≤ 128
unfolding marked
marked_most c = go (ltb (digit_of c) 16) refl
  where
    go : (b : Bool) → ltb (digit_of c) 16 ≡ b → (if b then digit_of c else 128) ≤ 128
    go true f = let l = ltb-true (digit_of c) 16 f in omega arith
    go false f = omega arith

module _ {chunk : List ℕ} {at : ℕ} {r : Pair} (p : PairAt chunk at r) (less : r.sum < 128) where
  high : Digit (get_or chunk at 0) (marked (get_or chunk at 0))
  high = is_digit _ refl (omega (arith, p.sum))

  low : Digit (get_or chunk (at + 1) 0) (marked (get_or chunk (at + 1) 0))
  low = is_digit _ refl (omega (arith, p.sum))

  pair_below : r.value < 256
  pair_below = omega (arith, p.value, high.below, low.below)

-- two digits more behind k
two : (chunk : List ℕ) (i k v : ℕ) (r : Pair)
    → number_at chunk i k ≡ Some v
    → PairAt chunk (i + k) r
    → r.sum < 128
    → number_at chunk i (k + 2) ≡ Some (v * 256 + r.value)
two chunk i k v r so_far p l =
    let e : k + 1 + 1 ≡ k + 2 = omega arith in
    let f : i + (k + 1) ≡ i + k + 1 = omega arith in
    let one = one_more chunk i k v _ so_far (high p l).same (high p l).below in
    (rw e at (one_more chunk i (k + 1) _ _ one (rw f (low p l).same) (low p l).below)) ∙ ap Some (omega (arith, p.value))

module _ (chunk : List ℕ) (i : ℕ) {a b c d : Pair} (pa : PairAt chunk i a) (pb : PairAt chunk (i + 2) b)
    (pc : PairAt chunk (i + 4) c) (pd : PairAt chunk (i + 6) d)
    (less : a.sum + b.sum + (c.sum + d.sum) < 128) where
  -- so that what they write fits a word
  pub eight_below : (a.value * 256 + b.value) * 65536 + (c.value * 256 + d.value) < 4294967296
  eight_below = omega (
    arith,
    pair_below pa (omega arith),
    pair_below pb (omega arith),
    pair_below pc (omega arith),
    pair_below pd (omega arith),
  )

  pub eight : number_at chunk i 8 ≡ Some ((a.value * 256 + b.value) * 65536 + (c.value * 256 + d.value))
  unfolding number_at
  eight =
      let z : i + 0 ≡ i = omega arith in
      two chunk i 6 _ d (two chunk i 4 _ c
      (two chunk i 2 _ b (two chunk i 0 0 a refl (rw z pa) (omega arith)) pb (omega arith)) pc (omega arith))
      pd (omega arith)
      ∙ ap Some (omega arith)
