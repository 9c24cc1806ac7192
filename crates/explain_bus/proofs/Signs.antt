-- A sequence printed sign by sign, and what a buffer holds of it.
use Prim.Native.Nat.{ℕ, suc, ◌+◌, ◌<◌, ◌≤◌}
use native.Mathlib.Omega.{arith}
use native.Mathlib.Numerals.{add-one}
use mathlib.Core.List.{List, [], ◌∷◌, ◌++◌, append_assoc, append-nil}
use mathlib.Core.Path.{◌≡◌, refl, sym}
use lib.ListN.{length, take, drop, get_or, drop_of_length-le}
use lib.Seq.{sets, sets-eq, take-append_seam, drop-cons}
use Rattle.bus.specs.declared.Sign.{Sign}
use Rattle.bus.specs.declared.Sign.TheVariants.{Start, Restart, Stop, Address, Written, ReadSlot}
use Rattle.explain_bus.specs.Line.{run_text, sign_text, signs_text}

-- the places that a sequence was put into hold it
pub held : (l ss : List Sign) {after : List Sign} {n : ℕ}
    → (n ≡ length ss) × (after ≡ sets l 0 ss)
    → n ≤ length after
    → length after ≡ length l
    → take n after ≡ ss
held l ss {after} {n} (e, f) h k = rw (f, sets-eq ss l 0 (omega arith), e) (take-append_seam ss _)

-- ---- the signs to come, behind `run` read slots

-- a read slot more
pub slot_next : (signs : List Sign) (i run : ℕ) (none : Sign)
    → i < length signs
    → get_or signs i none ≡ ReadSlot
    → signs_text run (drop i signs) ≡ [] ++ signs_text (run + 1) (drop (i + 1) signs)
unfolding signs_text
slot_next signs i run none h e = rw (drop-cons signs i none h, add-one i, e)

-- another sign
closes : (n : ℕ) (s : Sign) (ss : List Sign)
    → (s ≡ ReadSlot → ⊥)
    → signs_text n (s ∷ ss) ≡ (run_text n ++ sign_text s) ++ signs_text 0 ss
unfolding signs_text
closes n ReadSlot ss f = absurd (f refl)
closes n Start ss f = sym (append_assoc (run_text n) (sign_text Start) (signs_text 0 ss))
closes n Restart ss f = sym (append_assoc (run_text n) (sign_text Restart) (signs_text 0 ss))
closes n Stop ss f = sym (append_assoc (run_text n) (sign_text Stop) (signs_text 0 ss))
closes n (Address b) ss f = sym (append_assoc (run_text n) (sign_text (Address b)) (signs_text 0 ss))
closes n (Written b) ss f = sym (append_assoc (run_text n) (sign_text (Written b)) (signs_text 0 ss))

pub sign_next : (signs : List Sign) (i run : ℕ) (none : Sign)
    → i < length signs
    → (get_or signs i none ≡ ReadSlot → ⊥)
    → signs_text run (drop i signs) ≡ (run_text run ++ sign_text (get_or signs i none)) ++ signs_text 0 (drop (i + 1) signs)
sign_next signs i run none h f =
    rw (drop-cons signs i none h, add-one i) (closes run (get_or signs i none) (drop (suc i) signs) f)

pub run_left : (signs : List Sign) (i run : ℕ) → length signs ≤ i → signs_text run (drop i signs) ≡ run_text run ++ []
unfolding signs_text
run_left signs i run h = rw (drop_of_length-le signs h, append-nil)
