-- Lines that are longer than what is kept of them: only whether a digit waits matters.
use Rattle.std.specs.Prelude.{Option, Some, None}
use Prim.Native.Nat.{ℕ, zero, suc, ◌+◌, ◌%◌, ◌<◌, ◌≤◌}
use native.Mathlib.Omega.{arith}
use mathlib.Core.List.{List, [], ◌∷◌, ◌++◌, append_assoc}
use mathlib.Core.Bool.{Bool, true, false, ◌&&◌}
use mathlib.Core.Path.{◌≡◌, refl, sym, ap, ◌∙◌}
use lib.Dec.{eqb, ltb}
use lib.ListN.{length, drop, get_or, length-append, length-drop}
use lib.Seq.{take-append_seam, get_or-take, drop-append-le}
use borrow.Author.Tests.{ne_eqb, eq-eqb, eqb-true, eqb-false}
use Rattle.regs.proofs.Tests.{false_true}
use Rattle.text_hex.specs.Text.{digit_of, number_at, bytes_of}
use Rattle.text_hex.specs.Pairs.{all_digits, values}
use Rattle.text_hex.proofs.Pairs.{digits_joined, length_values, written, unwritten}
use Rattle.replay_frames.specs.Frame.{bad, head_of, width, bytes_frame, frame_of}
use Rattle.replay_frames.proofs.Lengths.{long_bad}
use Rattle.replay_frames.specs.declared.Line.{Line}
use Rattle.replay_session.specs.Session.{refusal}
use Rattle.replay_session.specs.Inner.Bounded.{Held, next_held}
use Rattle.replay_session.specs.Inner.Enter.{longest_kept}
use Rattle.replay_session.proofs.Bound.{wide_alike}
use Rattle.replay_state.specs.Inner.Rest.{long_line, digits_more, from_line}
use Rattle.replay_state.proofs.Lines.{alike_begun, doomed_begun}

-- what is not even is odd
odd_one : (m : ℕ) → eqb (m % 2) 0 ≡ false → m % 2 ≡ 1
odd_one m e = go (m % 2) (omega arith) (eqb-false _ _ e)
  where
    go : (k : ℕ) → k < 2 → (k ≡ 0 → ⊥) → k ≡ 1
    go zero l n = absurd (n refl)
    go (suc zero) l n = refl
    go (suc (suc k)) l n = absurd (omega arith)

-- ---- the head of a line does not change as the line goes on

number_stays : (p r : List ℕ) (at : ℕ) → at + 2 ≤ length p → number_at (p ++ r) at 2 ≡ number_at p at 2
unfolding number_at
number_stays p r at h = rw (first (at + 0) (omega arith), first (at + 1) (omega arith))
  where
    first : (i : ℕ) → i < length p → get_or (p ++ r) i 0 ≡ get_or p i 0
    first i l = sym (get_or-take (length p) (p ++ r) i 0 l) ∙ rw (take-append_seam p r)

pub head_stays : (p r : List ℕ) → 6 ≤ length p → head_of (p ++ r) ≡ head_of p
head_stays p r h = rw (number_stays p r 0 (omega arith), number_stays p r 2 (omega arith), number_stays p r 4 (omega arith))

narrow : (l : Line) → width l ≤ 6
narrow Line.Write = omega arith
narrow Line.Respond = omega arith
narrow (Line.RespondAndFill b) = omega arith

even_width : (l : Line) → width l % 2 ≡ 0
even_width Line.Write = refl
even_width Line.Respond = refl
even_width (Line.RespondAndFill b) = refl

bytes_none : (l : Line) → bytes_frame l None ≡ bad
bytes_none Line.Write = refl
bytes_none Line.Respond = refl
bytes_none (Line.RespondAndFill b) = refl

module _ (text : List ℕ) (size : length text ≡ longest_kept) where
  module _ (l : Line) (e : head_of text ≡ Some l) where
    abbrev digits : List ℕ
    digits = drop (width l) text

    pub goes_on : (r : List ℕ) → frame_of (text ++ r) ≡ bytes_frame l (bytes_of (digits ++ r))
    goes_on r = rw (head_stays text r (omega arith), e, drop-append-le (width l) text r (omega (arith, narrow l)))

    count : length digits + width l ≡ longest_kept
    count = rw length-drop (omega (arith, narrow l))

    -- no digit stands there
    pub never : (r : List ℕ) → all_digits (digits ++ r) ≡ false → frame_of (text ++ r) ≡ bad
    never r f = goes_on r
        ∙ (ap (bytes_frame l) (unwritten (digits ++ r) (rw f (and_false (eqb (length (digits ++ r) % 2) 0))))
        ∙ bytes_none l)
      where
        and_false : (b : Bool) → b && false ≡ false
        and_false true = refl
        and_false false = refl

    -- a digit waits
    pub waits : (r : List ℕ) → length r % 2 ≡ 1 → frame_of (text ++ r) ≡ bad
    waits r f = goes_on r ∙ (ap (bytes_frame l) (unwritten (digits ++ r) (rw odd)) ∙ bytes_none l)
      where
        odd : eqb (length (digits ++ r) % 2) 0 ≡ false
        odd = ne_eqb (length (digits ++ r) % 2) 0
            (λ (z : length (digits ++ r) % 2 ≡ 0). absurd
            (omega (arith, length-append digits r, count, even_width l)))

    pub pairs : (r : List ℕ)
        → length r % 2 ≡ 0
        → all_digits (digits ++ r) ≡ true
        → frame_of (text ++ r) ≡ bytes_frame l (Some (values (digits ++ r)))
    pairs r f g = goes_on r ∙ ap (bytes_frame l) (written (digits ++ r) (rw (even, g)))
      where
        even : eqb (length (digits ++ r) % 2) 0 ≡ true
        even = eq-eqb (length (digits ++ r) % 2) 0 (omega (arith, length-append digits r, count, even_width l))

    pub many : (r : List ℕ) → 1 < length r → 4096 < length (values (digits ++ r))
    many r f = rw length_values (omega (arith, length-append digits r, count, narrow l))

    -- the digits behind what is kept matter only by their number, odd or even
    pub same_digits : (h : Held) (u v : List ℕ)
        → 0 < length u
        → 0 < length v
        → length u % 2 ≡ length v % 2
        → all_digits u ≡ true
        → all_digits v ≡ true
        → (r : List ℕ) → next_held h (frame_of (text ++ (u ++ r))) ≡ next_held h (frame_of (text ++ (v ++ r)))
    same_digits h u v pu pv par du dv r = go (all_digits (digits ++ (u ++ r))) refl (eqb (length (u ++ r) % 2) 0) refl
      where
        joined : (w : List ℕ) → all_digits w ≡ true → all_digits (digits ++ (w ++ r)) ≡ all_digits digits && all_digits r
        joined w d = digits_joined digits (w ++ r) ∙ rw (digits_joined w r, d)

        both : all_digits (digits ++ (v ++ r)) ≡ all_digits (digits ++ (u ++ r))
        both = joined v dv ∙ sym (joined u du)

        parity : length (v ++ r) % 2 ≡ length (u ++ r) % 2
        parity = omega (arith, length-append u r, length-append v r, par)

        enough : (w : List ℕ) → 0 < length w → length (w ++ r) % 2 ≡ 0 → 4096 < length (values (digits ++ (w ++ r)))
        enough w pw ew = many (w ++ r) (omega (arith, length-append w r))

        go : (a : Bool)
            → all_digits (digits ++ (u ++ r)) ≡ a
            → (b : Bool)
            → eqb (length (u ++ r) % 2) 0 ≡ b
            → next_held h (frame_of (text ++ (u ++ r))) ≡ next_held h (frame_of (text ++ (v ++ r)))
        go false ea b eb = ap (next_held h) (never (u ++ r) ea ∙ sym (never (v ++ r) (both ∙ ea)))
        go true ea false eb = ap (next_held h)
            (waits (u ++ r) (odd_one (length (u ++ r)) eb)
            ∙ sym (waits (v ++ r) (parity ∙ odd_one (length (u ++ r)) eb)))
        go true ea true eb =
            ap (next_held h) (pairs (u ++ r) (eqb-true _ _ eb) ea)
            ∙ (wide_alike h l (values (digits ++ (u ++ r))) (values (digits ++ (v ++ r)))
            (enough u pu (eqb-true _ _ eb)) (enough v pv (parity ∙ eqb-true _ _ eb))
            ∙ ap (next_held h) (sym (pairs (v ++ r) (parity ∙ eqb-true _ _ eb) (both ∙ ea))))

  -- ---- what the reader does with the bytes behind those that are kept

  -- from here on the line is malformed, or it goes on as a long one
  pub no_more : (x : ℕ) → long_line text && ltb (digit_of x) 16 ≡ false → (r : List ℕ) → frame_of (text ++ (x ∷ r)) ≡ bad
  unfolding all_digits
  no_more x f r = go (head_of text) refl
    where
      first : (a b c : Bool) → a && b ≡ false → a && (b && c) ≡ false
      first true b c z = rw z
      first false b c z = refl

      go : (h : Option Line) → head_of text ≡ h → frame_of (text ++ (x ∷ r)) ≡ bad
      go None e = rw (head_stays text (x ∷ r) (omega arith), e) (long_bad (text ++ (x ∷ r)) (rw length-append (omega arith)))
      go (Some l) e = never l e (x ∷ r)
          (digits_joined (drop (width l) text) (x ∷ r)
          ∙ first (all_digits (drop (width l) text)) (ltb (digit_of x) 16) (all_digits r) (rw e at f))

  module _ (long : long_line text ≡ true) where
    -- one digit is as good as another, and three as one
    pub as_good : (h : Held) (u v : List ℕ)
        → 0 < length u
        → 0 < length v
        → length u % 2 ≡ length v % 2
        → all_digits u ≡ true
        → all_digits v ≡ true
        → (line : ℕ) (input : List ℕ) → from_line line h (text ++ u) input ≡ from_line line h (text ++ v) input
    as_good h u v pu pv par du dv line input = go (head_of text) refl
      where
        go : (k : Option Line) → head_of text ≡ k → from_line line h (text ++ u) input ≡ from_line line h (text ++ v) input
        go None e = let z : false ≡ true = rw e at long in absurd (false_true z)
        go (Some l) e =
            alike_begun line h input (text ++ u) (text ++ v) (rw length-append (omega arith)) (rw length-append (omega arith))
            (λ r. ap (λ (p : List ℕ). next_held h (frame_of p)) (append_assoc text u r)
            ∙ (same_digits l e h u v pu pv par du dv r
            ∙ ap (λ (p : List ℕ). next_held h (frame_of p)) (sym (append_assoc text v r))))

    -- a byte that is no digit
    pub spoilt : (line : ℕ) (h : Held) (u : List ℕ) (x : ℕ)
        → ltb (digit_of x) 16 ≡ false
        → (input : List ℕ)
        → from_line line h ((text ++ u) ++ (x ∷ [])) input ≡ refusal line
    unfolding all_digits
    spoilt line h u x f input = doomed_begun line h input ((text ++ u) ++ (x ∷ []))
        (rw (length-append, length-append) (omega arith)) (λ r. go r (head_of text) refl)
      where
        and_false : (b c : Bool) → b && (c && false) ≡ false
        and_false true true = refl
        and_false true false = refl
        and_false false c = refl

        moved : (r : List ℕ) → ((text ++ u) ++ (x ∷ [])) ++ r ≡ text ++ (u ++ (x ∷ r))
        moved r = append_assoc (text ++ u) (x ∷ []) r ∙ append_assoc text u (x ∷ r)

        go : (r : List ℕ) (k : Option Line) → head_of text ≡ k → frame_of (((text ++ u) ++ (x ∷ [])) ++ r) ≡ bad
        go r None e = let z : false ≡ true = rw e at long in absurd (false_true z)
        go r (Some l) e =
            ap frame_of (moved r)
            ∙ never l e (u ++ (x ∷ r))
            (digits_joined (drop (width l) text) (u ++ (x ∷ r))
            ∙ (rw (digits_joined u (x ∷ r), f) (and_false (all_digits (drop (width l) text)) (all_digits u))))

    -- the end of the line with a digit waiting
    pub ends_odd : frame_of (text ++ digits_more true) ≡ bad
    ends_odd = go (head_of text) refl
      where
        go : (k : Option Line) → head_of text ≡ k → frame_of (text ++ digits_more true) ≡ bad
        go None e = let z : false ≡ true = rw e at long in absurd (false_true z)
        go (Some l) e = waits l e (48 ∷ []) refl

    -- and with none
    pub ends_even : (l : Line)
        → head_of text ≡ Some l
        → frame_of (text ++ digits_more false) ≡ bytes_frame l
        (Some (values (drop (width l) text ++ digits_more false)))
    unfolding all_digits digit_of
    ends_even l e = pairs l e (48 ∷ 48 ∷ []) refl
        (digits_joined (drop (width l) text) (48 ∷ 48 ∷ []) ∙ all (all_digits (drop (width l) text)) (rw e at long))
      where
        all : (b : Bool) → b ≡ true → b && true ≡ true
        all b z = rw z
