-- Lines that are begun: what they lead to, whatever follows.
use Prim.Native.Nat.{ℕ, ◌<◌}
use native.Mathlib.Omega.{arith}
use mathlib.Core.List.{List, [], ◌∷◌, ◌++◌, append_assoc, append-nil}
use mathlib.Core.Bool.{Bool, true, false}
use mathlib.Core.Path.{◌≡◌, refl, sym, ap, ◌∙◌}
use lib.Dec.{eqb}
use lib.ListN.{length}
use Rattle.text_hex.specs.Text.{lines_after}
use Rattle.replay_frames.specs.Frame.{bad, frame_of}
use Rattle.replay_session.specs.Session.{Next, malformed, refusal, onward, line_after, printed_from}
use Rattle.replay_session.specs.Inner.Bounded.{Held, idle, within, next_held, holds_call}
use Rattle.replay_state.specs.Inner.Rest.{from_line}

-- a line that is no frame is malformed wherever it stands
pub bad_next : (h : Held) → next_held h bad ≡ malformed
bad_next (idle s) = refl
bad_next (within s c w k rs) = refl

-- what is printed from a whole line on, by what its frame leads to
abbrev pub whole_line : ℕ → Held → Next Held → List (List ℕ) → List ℕ
whole_line line h n ls = onward line n (λ t. printed_from next_held holds_call (line_after line) t ls)

-- two lines that lead to the same, whatever follows, are as good as each other
alike : (line : ℕ) (h : Held) (input : List ℕ) (x : ℕ) (p : List ℕ) (y : ℕ) (q : List ℕ)
    → ((r : List ℕ) → next_held h (frame_of ((x ∷ p) ++ r)) ≡ next_held h (frame_of ((y ∷ q) ++ r)))
    → from_line line h (x ∷ p) input ≡ from_line line h (y ∷ q) input
unfolding lines_after printed_from
alike line h [] x p y q e =
    ap (λ (n : Next Held). whole_line line h n [])
    (ap (λ (l : List ℕ). next_held h (frame_of l)) (sym (append-nil (x ∷ p)))
    ∙ (e [] ∙ ap (λ (l : List ℕ). next_held h (frame_of l)) (append-nil (y ∷ q))))
alike line h (c ∷ cs) x p y q e =
    go (eqb c 10) refl (alike line h cs x (p ++ (c ∷ [])) y (q ++ (c ∷ []))
    (λ r. ap (λ (l : List ℕ). next_held h (frame_of l)) (append_assoc (x ∷ p) (c ∷ []) r)
    ∙ (e (c ∷ r) ∙ ap (λ (l : List ℕ). next_held h (frame_of l)) (sym (append_assoc (y ∷ q) (c ∷ []) r)))))
  where
    go : (b : Bool)
        → eqb c 10 ≡ b
        → from_line line h ((x ∷ p) ++ (c ∷ [])) cs ≡ from_line line h ((y ∷ q) ++ (c ∷ [])) cs
        → from_line line h (x ∷ p) (c ∷ cs) ≡ from_line line h (y ∷ q) (c ∷ cs)
    go true b r =
        rw b (ap (λ (n : Next Held). whole_line line h n (lines_after [] cs))
        (ap (λ (l : List ℕ). next_held h (frame_of l)) (sym (append-nil (x ∷ p)))
        ∙ (e [] ∙ ap (λ (l : List ℕ). next_held h (frame_of l)) (append-nil (y ∷ q)))))
    go false b r = rw b r

-- once no continuation of a line is a frame, the line is refused, whatever follows
bad_line : (line : ℕ) (h : Held) (p : List ℕ) (ls : List (List ℕ))
    → frame_of p ≡ bad
    → printed_from next_held holds_call line h (p ∷ ls) ≡ refusal line
unfolding printed_from
bad_line line h p ls e = rw (e, bad_next h)

doomed : (line : ℕ) (h : Held) (input : List ℕ) (x : ℕ) (p : List ℕ)
    → ((r : List ℕ) → frame_of ((x ∷ p) ++ r) ≡ bad)
    → from_line line h (x ∷ p) input ≡ refusal line
unfolding lines_after
doomed line h [] x p e = bad_line line h (x ∷ p) [] (ap frame_of (sym (append-nil (x ∷ p))) ∙ e [])
doomed line h (c ∷ cs) x p e = go (eqb c 10) refl
    (doomed line h cs x (p ++ (c ∷ [])) (λ r. ap frame_of (append_assoc (x ∷ p) (c ∷ []) r) ∙ e (c ∷ r)))
  where
    go : (b : Bool)
        → eqb c 10 ≡ b
        → from_line line h ((x ∷ p) ++ (c ∷ [])) cs ≡ refusal line
        → from_line line h (x ∷ p) (c ∷ cs) ≡ refusal line
    go true b r = rw b (bad_line line h (x ∷ p) (lines_after [] cs) (ap frame_of (sym (append-nil (x ∷ p))) ∙ e []))
    go false b r = rw b r

-- the same of lists that are not empty
pub alike_begun : (line : ℕ) (h : Held) (input p q : List ℕ)
    → 0 < length p
    → 0 < length q
    → ((r : List ℕ) → next_held h (frame_of (p ++ r)) ≡ next_held h (frame_of (q ++ r)))
    → from_line line h p input ≡ from_line line h q input
alike_begun line h input [] q k l e = absurd (omega arith)
alike_begun line h input (x ∷ p) [] k l e = absurd (omega arith)
alike_begun line h input (x ∷ p) (y ∷ q) k l e = alike line h input x p y q e

pub doomed_begun : (line : ℕ) (h : Held) (input p : List ℕ)
    → 0 < length p
    → ((r : List ℕ) → frame_of (p ++ r) ≡ bad)
    → from_line line h p input ≡ refusal line
doomed_begun line h input [] k e = absurd (omega arith)
doomed_begun line h input (x ∷ p) k e = doomed line h input x p e
