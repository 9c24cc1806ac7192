-- The loop over a chunk, and the end of the input.
use Rattle.std.specs.Prelude.{Option, Some, None}
use Prim.Native.Nat.{ℕ, zero, suc, ◌+◌, ◌-◌, ◌<◌, ◌≤◌, min}
use native.Mathlib.Omega.{arith}
use native.Mathlib.Nat.{suc-min-suc}
use mathlib.Core.List.{List, [], ◌∷◌, ◌++◌}
use mathlib.Core.Bool.{Bool, true, false}
use mathlib.Core.Path.{◌≡◌, refl, sym, ap, ◌∙◌}
use lib.ListN.{length, take, drop, length-append, length-take, length-drop}
use lib.Seq.{drop-drop}
use borrow.Author.Tests.{ltb-true, ltb-false}
use Rattle.regs.proofs.Tests.{false_true}
use Rattle.text_hex.specs.Text.{lines_after, last_line}
use Rattle.text_hex.specs.Added.{Added}
use Rattle.replay_calls.specs.Inner.Runs.{MOST_TEXT}
use Rattle.replay_session.specs.Session.{printed_from}
use Rattle.replay_session.specs.Inner.Enter.{session_of}
use Rattle.replay_session.specs.declared.Open.{Open}
use Rattle.replay_state.specs.Inner.Rest.{Out, so_far, Whole, rest, rest_of, digits_more, Sound, Went, begun_of, stopped_of, end_text}
use Rattle.replay_state.specs.Inner.Fed.{FedAs, Finished}
use Rattle.replay_state.specs.declared.Part.{Part}
use Rattle.replay_state.specs.declared.Part.TheVariants.{Stopped, Text, Long}

-- a text begun anew
abbrev pub at_begin : Out → Out
at_begin x = record { out = x.out; at = 0 }

-- what holds at the head of the loop: the text began at 0
pub record Feeding (v : Whole) (chunk : List ℕ) (out₀ : Out) (w : Whole) (out : Out) (n : ℕ) : Type 0 where
  pub went : Went v out₀ chunk w out (drop n chunk)
  pub begun : out₀.at ≡ 0
  pub size : length out.out.now ≡ length out₀.out.now
  pub made : out.at ≤ length out.out.now
  pub within : n ≤ length chunk
  pub first : n ≡ 0 → out.at ≡ 0

pub fed_none : (v : Whole) (chunk : List ℕ) (out : Out) → Sound v → out.at ≡ 0 → Feeding v chunk out v out 0
fed_none v chunk out g e = record {
  went = record { same = λ input. refl; sound = g };
  begun = e;
  size = refl;
  made = rw e (omega arith);
  within = omega arith;
  first = λ z. e;
}

module _ {v w : Whole} {chunk : List ℕ} {out₀ out : Out} {n : ℕ} (p : Feeding v chunk out₀ w out n) where
  whole_text : (input : List ℕ) → rest v (chunk ++ input) ≡ so_far out ++ rest w (drop n chunk ++ input)
  whole_text input = rw p.begun at (p.went.same input)

  fed : (0 < length chunk → 0 < n) → FedAs v chunk w out.out.now n out.at
  fed h = record { same = whole_text; sound = p.went.sound; made = p.made; used = p.within; moves = h }

  pub fed_all : length chunk ≤ n → FedAs v chunk w out.out.now n out.at
  fed_all h = fed (λ l. omega arith)

  -- no room for one more answer: then something was read
  pub fed_some : MOST_TEXT ≤ length out₀.out.now
      → length out.out.now - out.at < MOST_TEXT
      → FedAs v chunk w out.out.now n out.at
  fed_some room h = fed (λ l. moved n refl)
    where
      moved : (k : ℕ) → n ≡ k → 0 < n
      moved zero e = absurd (omega (arith, p.first e, p.size))
      moved (suc k) e = omega arith

  pub fed_stopped : stopped_of w.state.part ≡ true
      → n < length chunk
      → FedAs v chunk w out.out.now (length chunk) out.at
  fed_stopped e h =
      record {
        same = λ input. whole_text input ∙ ap (λ (x : List ℕ). so_far out ++ x) (silent w.state.part e input);
        sound = p.went.sound;
        made = p.made;
        used = omega arith;
        moves = λ l. l;
      }
    where
      silent : (q : Part) → stopped_of q ≡ true → (input : List ℕ)
          → rest_of q w.state.line (session_of w.state.session.call w.state.session.slave w.lists) w.text (drop n chunk ++ input)
          ≡ rest_of q w.state.line (session_of w.state.session.call w.state.session.slave w.lists) w.text
          (drop (length chunk) chunk ++ input)
      silent Stopped z input = refl
      silent (Text k) z input = absurd (false_true z)
      silent (Long o) z input = absurd (false_true z)

  pub fed_more : {w' : Whole} {out' : Out} {k : ℕ}
      → Went w out (drop n chunk) w' out' (drop k (drop n chunk)) × (out'.at ≤ out.at + MOST_TEXT) × (0 < k)
      × (k ≤ length (drop n chunk))
      → length out'.out.now ≡ length out.out.now
      → MOST_TEXT ≤ length out.out.now - out.at
      → Feeding v chunk out₀ w' out' (n + k)
  fed_more {w'} {out'} {k} d size room =
      record {
        went =
            record {
              same = λ input. p.went.same input
                  ∙ (d.0.same input
                  ∙ ap (λ (b : List ℕ). so_far out' ++ rest w' (b ++ input)) (drop-drop k n chunk));
              sound = d.0.sound;
            };
        begun = p.begun;
        size = size ∙ p.size;
        made = omega (arith, p.made, d.1);
        within = omega (arith, p.within, d.3, length-drop n chunk);
        first = λ e. absurd (omega (arith, d.2));
      }

-- the end of the input inside a line is the end of the line
last_some : (t : List ℕ) → 0 < length t → last_line t ≡ t ∷ []
last_some [] h = absurd (omega arith)
last_some (c ∷ t) h = refl

module _ (v : Whole) (g : Sound v) where
  ends_line : begun_of v.state.part ≡ true → rest v [] ≡ rest v (10 ∷ [])
  unfolding lines_after
  ends_line b = go v.state.part b
    where
      go : (p : Part) → begun_of p ≡ true
          → rest_of p v.state.line (session_of v.state.session.call v.state.session.slave v.lists) v.text []
          ≡ rest_of p v.state.line (session_of v.state.session.call v.state.session.slave v.lists) v.text
          (10 ∷ [])
      go Stopped e = refl
      go (Text n) e = rw (last_some (take n v.text)
          (rw length-take (some n (length v.text) (ltb-true _ _ e) (omega (arith, g.text)))))
        where
          some : (i j : ℕ) → 0 < i → 0 < j → 0 < min i j
          some zero j h k = absurd (omega arith)
          some (suc i) zero h k = absurd (omega arith)
          some (suc i) (suc j) h k = rw suc-min-suc (omega arith)
      go (Long o) e = rw (last_some (v.text ++ digits_more o) (rw length-append (omega (arith, g.text))))

-- after whole lines
ends_input : (v : Whole)
    → begun_of v.state.part ≡ false
    → rest v [] ≡ end_text (stopped_of v.state.part) v.state.session.call v.state.line
unfolding lines_after printed_from
ends_input v b = go v.state.part v.state.session.call b
  where
    go : (p : Part) (o : Option Open)
        → begun_of p ≡ false
        → rest_of p v.state.line (session_of o v.state.session.slave v.lists) v.text []
        ≡ end_text (stopped_of p) o v.state.line
    go Stopped o e = refl
    go (Text n) None e = let z : n ≡ 0 = omega (arith, ltb-false 0 n e) in rw z
    go (Text n) (Some o) e = let z : n ≡ 0 = omega (arith, ltb-false 0 n e) in rw z
    go (Long d) o e = absurd (false_true (sym e))

module _ (v : Whole) {out : Out} where
  pub finished : (out₀ : Out)
      → out₀.at ≡ 0
      → begun_of v.state.part ≡ false
      → 13 ≤ length out₀.out.now
      → Added out₀ (end_text (stopped_of v.state.part) v.state.session.call v.state.line) 13 out
      → Finished v out.out.now out.at
  finished out₀ e b room a = record {
    same = rw e at a.appended.same ∙ sym (ends_input v b);
    made = omega (arith, a.appended.room, a.size);
  }

  pub finished_line : {w : Whole} {out₀ out₁ : Out}
      → Sound v
      → out₀.at ≡ 0
      → begun_of v.state.part ≡ true
      → MOST_TEXT + 13 ≤ length out₀.out.now
      → length out₁.out.now ≡ length out₀.out.now
      → Went v out₀ (10 ∷ []) w out₁ [] × (out₁.at ≤ out₀.at + MOST_TEXT) × (begun_of w.state.part ≡ false)
      → Added out₁ (end_text (stopped_of w.state.part) w.state.session.call w.state.line) 13 out
      → Finished v out.out.now out.at
  finished_line {w} {out₀ = out₀} {out₁ = out₁} g e b room size d a =
      record {
        same = a.appended.same
            ∙ (ap (λ (x : List ℕ). so_far out₁ ++ x) (sym (ends_input w d.2))
            ∙ (sym (d.0.same []) ∙ (begins ∙ sym (ends_line v g b))));
        made = omega (arith, a.appended.room, a.size, d.1);
      }
    where
      begins : so_far out₀ ++ rest v (10 ∷ []) ≡ rest v (10 ∷ [])
      begins = rw e
