-- Numbers past the end of a line, and the lengths of frames.
use Prim.Native.Nat.{ℕ, ◌+◌, ◌-◌, ◌<◌, ◌≤◌}
use native.Mathlib.Omega.{arith}
use mathlib.Core.List.{List}
use mathlib.Core.Bool.{Bool, true, false}
use mathlib.Core.Path.{◌≡◌, refl, ap, ◌∙◌}
use lib.Dec.{eqb, ltb}
use lib.ListN.{length, take, drop, get_or, length-drop, get_or-eq_default}
use lib.Seq.{take_all}
use borrow.Author.Tests.{ne_eqb, ltb-true, ltb-false}
use Rattle.std.specs.Prelude.{if◌then◌else◌, Option, Some, None}
use Rattle.text_hex.specs.Text.{digit_of, and_digit, number_at}
use Rattle.replay_frames.specs.Frame.{Frame, bad, sized, slave_of, of_kind, plain_of, LONGEST, fill_head}
use Rattle.replay_frames.specs.Frame.{slave_head, head_by, head_of, width}
use Rattle.replay_frames.specs.declared.Line.{Line}

no_digit : (v : Option ℕ) → and_digit v 16 ≡ None
no_digit None = refl
no_digit (Some v) = refl

-- where the line ends before the second digit, there is no number
pub none_at : (line : List ℕ) (at : ℕ) → length line < at + 2 → None ≡ number_at line at 2
unfolding number_at digit_of
none_at line at h =
    let z : get_or line (at + 1) 0 ≡ 0 = get_or-eq_default line 0 (omega arith) in
    rw (z, no_digit (and_digit (Some 0) (digit_of (get_or line (at + 0) 0))))

-- no frame of a fixed length has more than 18 bytes
too_large : (line : List ℕ) → LONGEST < length line → (n : ℕ) → n ≤ LONGEST → (f : Frame) → sized line n f ≡ bad
too_large line h n l f = rw (ne_eqb (length line) n (λ (e : length line ≡ n). omega arith))

slave_long : (line : List ℕ) → LONGEST < length line → (v : Option ℕ) → slave_of line v ≡ bad
slave_long line h None = refl
slave_long line h (Some form) =
    rw (too_large line h 10 (omega arith) _, too_large line h 8 (omega arith) _, too_large line h 6 (omega arith) _)
    (tests (eqb form 0) (eqb form 1) (eqb form 3))
  where
    tests : (a b c : Bool) → (if a then bad else (if b then bad else (if c then bad else bad))) ≡ bad
    tests true b c = refl
    tests false true c = refl
    tests false false true = refl
    tests false false false = refl

pub long_bad : (line : List ℕ) → LONGEST < length line → plain_of line ≡ bad
long_bad line h = go (number_at line 0 2)
  where
    tests : (a b c d e f : Bool)
        → (if a then bad else (if b then bad else
        (if c then bad else (if d then bad else (if e then bad else (if f then bad else bad))))))
        ≡ bad
    tests true b c d e f = refl
    tests false true c d e f = refl
    tests false false true d e f = refl
    tests false false false true e f = refl
    tests false false false false true f = refl
    tests false false false false false true = refl
    tests false false false false false false = refl

    go : (v : Option ℕ) → of_kind line v ≡ bad
    go None = refl
    go (Some k) =
        rw (
          too_large line h 18 (omega arith) _,
          too_large line h 8 (omega arith) _,
          slave_long line h (number_at line 2 2),
          too_large line h 6 (omega arith) _,
          too_large line h 10 (omega arith) _,
          too_large line h 2 (omega arith) _,
        )
        (tests (eqb k 0x01) (eqb k 0x02) (eqb k 0x03) (eqb k 0x11) (eqb k 0x20) (eqb k 0xFF))

-- where a number is, there the line goes on
inside : (line : List ℕ) (at : ℕ) {v : ℕ} → number_at line at 2 ≡ Some v → at + 2 ≤ length line
inside line at {v} e = go (ltb (length line) (at + 2)) refl
  where
    go : (b : Bool) → ltb (length line) (at + 2) ≡ b → at + 2 ≤ length line
    go true l = absurd (differ (none_at line at (ltb-true _ _ l) ∙ e))
      where
        differ : None ≡ Some v → ⊥
        differ z = let y : ◌≡◌ {A = ℕ} 0 1 = ap told z in omega arith
          where
            told : Option ℕ → ℕ
            told None = 0
            told (Some x) = 1
    go false l = ltb-false _ _ l

abbrev head_width : Option Line → ℕ
head_width None = 0
head_width (Some l) = width l

-- what stands before the bytes of a line is all there
widths : (line : List ℕ) (kind form fill : Option ℕ)
    → number_at line 0 2 ≡ kind
    → number_at line 2 2 ≡ form
    → number_at line 4 2 ≡ fill
    → head_width (head_by kind form fill) ≤ length line
widths line None form fill p q r = omega arith
widths line (Some k) form fill p q r = go form fill q r (eqb k 0x10) (eqb k 0x03)
  where
    plain_or : (n : ℕ)
        → n ≤ length line
        → (a : Bool) (l : Line) (h : Option Line)
        → width l ≤ n
        → head_width h ≤ length line
        → head_width (if a then Some l else h) ≤ length line
    plain_or n e true l h f g = omega arith
    plain_or n e false l h f g = g

    filled : (v : Option ℕ) → number_at line 4 2 ≡ v → (a : Bool) → head_width (if a then fill_head v else None) ≤ length line
    filled None e true = omega arith
    filled (Some b) e true = inside line 4 e
    filled v e false = omega arith

    go : (u v : Option ℕ)
        → number_at line 2 2 ≡ u
        → number_at line 4 2 ≡ v
        → (a b : Bool)
        → head_width (if a then Some Line.Write else (if b then slave_head u v else None)) ≤ length line
    go u v e f true b = inside line 0 p
    go u v e f false false = omega arith
    go None v e f false true = omega arith
    go (Some x) v e f false true = plain_or 4 (inside line 2 e) (eqb x 2) Line.Respond _ (omega arith) (filled v f (eqb x 4))

pub head_fits : (line : List ℕ) (l : Line) → head_of line ≡ Some l → width l ≤ length line
head_fits line l e = rw e at (widths line (number_at line 0 2) (number_at line 2 2) (number_at line 4 2) refl refl refl)

-- what stands behind the first w bytes
pub behind : (line : List ℕ) (w : ℕ) → take (length line - w) (drop w line) ≡ drop w line
behind line w = take_all (length line - w) (drop w line) (rw (length-drop) (omega arith))
