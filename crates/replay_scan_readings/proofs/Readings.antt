-- A line of `20` and 8 digits is a reading.
use Prim.Native.Nat.{ℕ, zero, suc, ◌+◌, ◌*◌, ◌<◌, ◌≤◌}
use native.Mathlib.Omega.{arith}
use mathlib.Core.List.{List}
use mathlib.Core.Bool.{Bool, true, false}
use mathlib.Core.Path.{◌≡◌, refl, ap, ◌∙◌}
use lib.Dec.{ltb}
use lib.ListN.{length, take, get_or}
use lib.Seq.{get_or-take, length-take-le}
use borrow.Author.Tests.{ltb-true, ltb-false}
use Rattle.std.specs.Prelude.{if◌then◌else◌, Option, Some, None}
use Rattle.text_hex.specs.Text.{digit_of, and_digit, number_at}
use Rattle.text_hex.proofs.Pairs.{lf_none}
use Rattle.replay_frames.specs.Frame.{frame_of, reading, reading_of, sized, of_kind, head_of, by_head}
use Rattle.replay_state.specs.Inner.Rest.{Ahead}
use Rattle.replay_scan_readings.specs.Inner.Run.{WordAt, Written, WrittenIf}
use Rattle.replay_scan_readings.proofs.Scans.{Scanned, scan_none, scan_more, scan_found}

no_number : {v : ℕ} → None ≡ Some v → ⊥
no_number e = let z : ◌≡◌ {A = ℕ} 0 1 = ap told e in omega arith
  where
    told : Option ℕ → ℕ
    told None = 0
    told (Some x) = 1

-- where a number is, each byte is a digit
digit_in : (chunk : List ℕ) (at n : ℕ) {v : ℕ} → number_at chunk at n ≡ Some v → (j : ℕ) → j < n → digit_of (get_or chunk (at + j) 0) < 16
unfolding number_at
digit_in chunk at zero e j h = absurd (omega arith)
digit_in chunk at (suc n) {v} e j h = go (number_at chunk at n) refl e
    (λ (x : ℕ) (f : number_at chunk at n ≡ Some x) (l : j < n). digit_in chunk at n f j l)
  where
    go : (q : Option ℕ)
        → number_at chunk at n ≡ q
        → and_digit q (digit_of (get_or chunk (at + n) 0)) ≡ Some v
        → ((x : ℕ) → number_at chunk at n ≡ Some x → j < n → digit_of (get_or chunk (at + j) 0) < 16)
        → digit_of (get_or chunk (at + j) 0) < 16
    go None f g before = absurd (no_number g)
    go (Some x) f g before = last (ltb (digit_of (get_or chunk (at + n) 0)) 16) refl g (ltb j n) refl
      where
        last : (b : Bool)
            → ltb (digit_of (get_or chunk (at + n) 0)) 16 ≡ b
            → (if b then Some (x * 16 + digit_of (get_or chunk (at + n) 0)) else None) ≡ Some v
            → (c : Bool)
            → ltb j n ≡ c
            → digit_of (get_or chunk (at + j) 0) < 16
        last false b k c l = absurd (no_number k)
        last true b k true l = before x f (ltb-true _ _ l)
        last true b k false l = let z : j ≡ n = omega (arith, ltb-false j n l) in rw z (ltb-true _ _ b)

module _ (chunk : List ℕ) (w : ℕ) (p : Written chunk w) where
  abbrev line : List ℕ
  line = take 10 chunk

  at_line : (j : ℕ) → j < 10 → get_or line j 0 ≡ get_or chunk j 0
  at_line j h = get_or-take 10 chunk j 0 h

  moved : (at n : ℕ) → at + n ≤ 10 → number_at line at n ≡ number_at chunk at n
  unfolding number_at
  moved at zero h = refl
  moved at (suc n) h = rw (moved at n (omega arith), at_line (at + n) (omega arith))

  kind : number_at line 0 2 ≡ Some 0x20
  unfolding number_at digit_of
  kind = rw (at_line 0 (omega arith), at_line 1 (omega arith), p.two, p.zero)

  size : length line ≡ 10
  size = length-take-le 10 chunk (omega (arith, p.inside))

  headed : head_of line ≡ None
  headed = rw kind

  word_read : sized line 10 (reading_of (number_at line 2 8)) ≡ reading w
  word_read = rw (size, moved 2 8 (omega arith), p.word)

  pub a_reading : frame_of line ≡ reading w
  a_reading = ap (by_head line) headed ∙ (ap (of_kind line) kind ∙ word_read)

  no_lf : (j : ℕ) → j < 10 → get_or chunk j 0 ≡ 10 → ⊥
  no_lf zero h e = omega (arith, p.two, e)
  no_lf (suc zero) h e = omega (arith, p.zero, e)
  no_lf (suc (suc j)) h e =
      let z : 2 + j ≡ suc (suc j) = omega arith in
      lf_none (digit_in chunk 2 8 p.word j (omega arith)) (rw z e)

  scanned : (n : ℕ) → n ≤ 10 → Scanned chunk n
  scanned zero h = scan_none chunk
  scanned (suc n) h =
      let z : n + 1 ≡ suc n = omega arith in
      rw z at (scan_more (scanned n (omega arith)) (omega (arith, p.inside)) (no_lf n (omega arith)))

  pub a_line : Ahead chunk 10
  a_line = scan_found (scanned 10 (omega arith)) p.inside p.lf

-- what `Digits::reading` has found
pub found : (chunk : List ℕ) (r : Option ℕ)
    → WordAt chunk 2 r
    → get_or chunk 0 0 ≡ 50
    → get_or chunk 1 0 ≡ 48
    → get_or chunk 10 0 ≡ 10
    → 10 < length chunk
    → WrittenIf chunk r
found chunk None n a b c h = tt
found chunk (Some w) n a b c h = record { two = a; zero = b; word = n; lf = c; inside = h }
