-- Signs drawn one after the other, row by row.
use Prim.Native.Nat.{ℕ, ◌+◌, ◌*◌, ◌<◌, ◌≤◌}
use native.Mathlib.Omega.{arith}
use native.Mathlib.Numerals.{add-one}
use mathlib.Core.Bool.{Bool, true, false}
use mathlib.Core.List.{List, [], ◌∷◌, ◌++◌}
use mathlib.Core.Path.{◌≡◌, refl, sym, ap, ◌∙◌}
use lib.Dec.{ltb, eqb}
use lib.ListN.{length, take, drop, get_or, drop_of_length-le}
use lib.Seq.{drop-cons, take_all}
use borrow.Author.Tests.{ltb-true, ltb-false}
use Rattle.std.specs.Prelude.{min, if◌then◌else◌, Option}
use Rattle.std.proofs.Math.Nat.{min-eq_left, min-eq_right}
use Rattle.bus.specs.declared.Sign.{Sign}
use Rattle.explain_bus.specs.Inner.Whole.{whole}
use Rattle.explain_bus.proofs.Whole.{text_by, by_whole}
use Rattle.svg_text.specs.Picture.{width, column, row, lanes_text, sign_text, signs_text, last_row}
use Rattle.svg_text.specs.Picture.{svg_text, picture}

next : (signs : List Sign) (i : ℕ) (none : Sign)
    → i < length signs
    → drop i signs ≡ get_or signs i none ∷ drop (i + 1) signs
next signs i none h = rw add-one (drop-cons signs i none h)

-- what holds after i signs, the last of which ended at x and y: the last row is that of the rest, from here on
pub record InRows (signs : List Sign) (x y i : ℕ) : Type 0 where
  pub same : last_row x y (drop i signs) ≡ last_row 60 70 signs
  pub narrow : x ≤ 800
  pub low : y ≤ 70 + 120 * i

module _ {signs : List Sign} {x y i : ℕ} (p : InRows signs x y i) where
  pub rows_next : (none : Sign) {w c r : ℕ}
      → i < length signs
      → w ≡ width (get_or signs i none)
      → c ≡ column x w
      → r ≡ row x y w
      → c + w ≤ 800
      → r ≤ y + 120
      → InRows signs (c + w) r (i + 1)
  unfolding last_row
  rows_next none {w} {c} {r} h e f g n l =
      let s : last_row x y (drop i signs) ≡ last_row (c + w) r (drop (i + 1) signs) =
      rw (next signs i none h, f, g, e) in
      record { same = sym s ∙ p.same; narrow = n; low = omega (arith, l, p.low) }

  pub rows_end : length signs ≤ i → y ≡ last_row 60 70 signs
  unfolding last_row
  rows_end h = sym (ap (λ (l : List Sign). last_row x y l) (drop_of_length-le signs {i = i} h)) ∙ p.same

-- ---- the text of the signs to come, begun at x and y

pub sign_next : (signs : List Sign) (i x y : ℕ) (none : Sign) {w c r : ℕ}
    → i < length signs
    → w ≡ width (get_or signs i none)
    → c ≡ column x w
    → r ≡ row x y w
    → signs_text x y (drop i signs)
    ≡ (lanes_text c r ++ sign_text c r (get_or signs i none)) ++ signs_text (c + w) r (drop (i + 1) signs)
unfolding signs_text
sign_next signs i x y none h e f g = rw (next signs i none h, f, g, e)

pub signs_end : (signs : List Sign) (i x y : ℕ) → length signs ≤ i → signs_text x y (drop i signs) ≡ []
unfolding signs_text
signs_end signs i x y h = rw (drop_of_length-le signs {i = i} h)

-- ---- the signs that are drawn

-- the first 256, or all that there are
pub first_drawn : (ss : List Sign) {m : ℕ} → m ≡ min (length ss) 256 → take m ss ≡ take 256 ss
first_drawn ss e = rw e (by_test (ltb (length ss) 256) refl)
  where
    by_test : (t : Bool) → ltb (length ss) 256 ≡ t → take (min (length ss) 256) ss ≡ take 256 ss
    by_test true t =
        let b : length ss ≤ 256 = omega (arith, ltb-true (length ss) 256 t) in
        rw (min-eq_left b) (take_all (length ss) ss (omega arith) ∙ sym (take_all 256 ss b))
    by_test false t = rw (min-eq_right (ltb-false (length ss) 256 t))

-- ---- the picture

abbrev pub picture_in : ℕ → List Sign → List ℕ
picture_in room ss =
    if ltb room 53000 then [] else (if eqb (length ss) 0 then [] else svg_text (take 256 ss) (length ss))

pub picture_is : (log : List ℕ) (places room : ℕ) {found : Option (List Sign)}
    → found ≡ whole log places
    → picture log places room ≡ text_by (picture_in room) found
unfolding picture
picture_is log places room e = by_whole (picture_in room) log places e
