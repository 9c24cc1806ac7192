-- Each line and each byte leads from what was to be printed to what is still to be printed.
use Rattle.std.specs.Prelude.{Option, Some, None, Result, Ok, Err}
use Prim.Native.Nat.{ℕ, ◌+◌, ◌-◌, ◌<◌, ◌≤◌}
use native.Mathlib.Omega.{arith}
use native.Mathlib.Numerals.{add-one}
use native.Mathlib.Nat.{min-le_left}
use mathlib.Core.List.{List, [], ◌∷◌, ◌++◌, append_assoc, append-nil}
use mathlib.Core.Bool.{Bool, true, false, not, ◌&&◌}
use mathlib.Core.Path.{◌≡◌, refl, sym, ap, ◌∙◌}
use lib.Dec.{ltb}
use lib.ListN.{length, take, drop, set, length-append, length-set, length-take}
use lib.Seq.{length-take-le, take-suc-set, take_all, set_out}
use borrow.Author.Tests.{ltb-true, ltb-false, ne_eqb}
use Rattle.regs.proofs.Tests.{both_of, false_true}
use Rattle.text_hex.specs.Text.{lines_after, digit_of}
use Rattle.text_hex.specs.Pairs.{all_digits, values}
use Rattle.text_hex.specs.Added.{Room}
use Rattle.text_hex.proofs.Adding.{both}
use Rattle.replay_calls.specs.Inner.Runs.{MOST_TEXT, LOG_WORDS}
use Rattle.replay_frames.specs.Frame.{frame_of, head_of, width, bytes_frame}
use Rattle.replay_session.specs.Session.{Next, going, malformed, refusal, line_after, onward, printed_from}
use Rattle.replay_session.specs.Inner.Bounded.{Held, next_held, holds_call}
use Rattle.replay_frames.specs.declared.Line.{Line}
use Rattle.replay_session.specs.Inner.Enter.{Arrays, session_of, Lent, EnteredAs, longest_kept, counts_of, not_entered}
use Rattle.replay_session.specs.declared.Session.{Session}
use Rattle.replay_session.specs.declared.Malformed.{Malformed}
use Rattle.replay_session.proofs.Enters.{enters_wide, refused, closed_small}
use Rattle.replay_state.specs.Inner.Rest.{Whole, rest, from_line, digits_more, long_line, Sound, Went, EndedAs}
use Rattle.replay_state.specs.Inner.Rest.{Out, so_far, RefusalFits, StoppedAs, TurnedTo, KeptBy, KeptAs, long_entered, LongEndedAs, stopped_at}
use Rattle.replay_state.specs.Inner.Rest.{with_part, begun_of, Ahead}
use Rattle.replay_state.specs.declared.Part.{Part}
use Rattle.replay_state.specs.declared.Part.TheVariants.{Stopped, Text, Long}
use Rattle.replay_state.specs.declared.State.{State}
use Rattle.replay_state.proofs.Lines.{bad_next, doomed_begun}
use Rattle.replay_state.proofs.Long.{many, no_more, as_good, spoilt, ends_odd, ends_even}

differ : {u : Held} {x : List ℕ} → going u x ≡ malformed → ⊥
differ e = let z : ◌≡◌ {A = ℕ} 0 1 = cc in omega arith

-- a line ahead is no longer than what is kept
pub ahead_short : (l : List ℕ) (n : ℕ) → n ≤ longest_kept → length (take n l) ≤ longest_kept
ahead_short l n h = rw length-take (omega (arith, min-le_left n (length l)))

-- where there is room, it is there for either; and a line that was malformed has printed nothing
pub fits_any : (e : Result Session Malformed) (x : Out) → Room 13 x → RefusalFits e x
fits_any (Ok e) x h = tt
fits_any (Err e) x h = h

pub fits_still : {a : Arrays} {x x' : Out} {to : Next Held} (e : Result Session Malformed)
    → EnteredAs e a x x' to
    → Room MOST_TEXT x
    → RefusalFits e x'
fits_still (Ok e) p h = tt
fits_still (Err e) p h = omega (arith, p.text.appended.room, p.text.size)

-- the end of a line leaves the text in its buffer
pub record SameBuffer (x x' : Out) : Type 0 where
  pub reference : x'.out.ghost_name ≡ x.out.ghost_name
  pub size : length x'.out.now ≡ length x.out.now

pub ended_same : (line : ℕ) (x x' : Out) (r : State) (e : Result Session Malformed) → EndedAs line e x x' r → SameBuffer x x'
ended_same line x x' r (Ok e) p = rw p.1 (record { reference = refl; size = refl })
ended_same line x x' r (Err e) p = record { reference = p.1.same_reference; size = p.1.size }

-- a state with its slices
abbrev pub reader : State → List ℕ → Arrays → List ℕ → List ℕ → Whole
reader s t a b l = record { state = s; text = t; lists = a; buffer = b; log = l }

-- what of the slices stays as lent
pub record HeldSizes (a : Arrays) (b l : List ℕ) : Type 0 where
  pub lent : Lent a
  pub buffer : length b ≡ 4096
  pub log : length l ≡ LOG_WORDS

module _ (s : State) (t : List ℕ) (a : Arrays) (b l : List ℕ) (g : Sound (reader s t a b l)) where
  pub text_short : {n : ℕ} → s.part ≡ Text n → n ≤ longest_kept
  text_short e = rw e at g.part

  pub line_short : {n : ℕ} → s.part ≡ Text n → length (take n t) ≤ longest_kept
  line_short {n} e = omega (arith, text_short e, length-take-le n t (omega (arith, text_short e, g.text)))

  module _ (out : Out) where
    abbrev session : Held
    session = session_of s.session.call s.session.slave a

    -- a refusal is all that is still printed
    stops : (before after t' : List ℕ) (a' : Arrays) (b' l' : List ℕ) (out' : Out) (r : State) → length t' ≡ longest_kept → HeldSizes a' b' l'
        → StoppedAs s.line out out' r
        → ((input : List ℕ) → rest (reader s t a b l) (before ++ input) ≡ refusal s.line)
        → Went (reader s t a b l) out before (reader r t' a' b' l') out' after
    stops before after t' a' b' l' out' r lt z e f =
        rw e.0 (record {
          same = λ input. ap (λ (x : List ℕ). so_far out ++ x) (f input) ∙ (sym e.1.appended.same ∙ sym (append-nil (so_far out')));
          sound = record { part = tt; small = closed_small; lent = z.lent; text = lt; buffer = z.buffer; log = z.log };
        })

    pub stays : s.part ≡ Stopped → (before after : List ℕ) → Went (reader s t a b l) out before (reader s t a b l) out after
    stays e before after = record { same = λ input. rw e; sound = g }

    -- a line has ended: what its frame leads to
    module _ (a' : Arrays) (b' l' : List ℕ) (z : length b' ≡ 4096) (y : length l' ≡ LOG_WORDS) (before after : List ℕ) where
      pub ends : (to : Next Held) (e : Result Session Malformed) (out₁ out₂ : Out) (r : State)
          → EnteredAs e a' out out₁ to
          → EndedAs s.line e out₁ out₂ r
          → ((input : List ℕ)
          → rest (reader s t a b l) (before ++ input) ≡ onward s.line to
          (λ (u : Held). printed_from next_held holds_call (line_after s.line) u
          (lines_after [] (after ++ input))))
          → Went (reader s t a b l) out before (reader r t a' b' l') out₂ after
          × (out₂.at ≤ out.at + MOST_TEXT)
          × (begun_of r.part ≡ false)
      ends malformed (Err e) out₁ out₂ r ea d f =
          let put = both ea.text d.1 in (
            stops before after t a' b' l' out₂ r g.text (record { lent = ea.lent; buffer = z; log = y }) (d.0, put) f,
            omega (arith, put.appended.room),
            rw d.0,
          )
      ends malformed (Ok e) out₁ out₂ r ea d f =
          let x : going (session_of e.call e.slave a') [] ≡ malformed = ea.same in absurd (differ x)
      ends (going u w) (Err e) out₁ out₂ r ea d f = let x : malformed ≡ going u w = ea.same in absurd (differ (sym x))
      ends (going u w) (Ok e) out₁ out₂ r ea d f =
          let x : going (session_of e.call e.slave a') w ≡ going u w = ea.same in
          let k : session_of e.call e.slave a' ≡ u = cc in
          rw (d.0, d.1) (
            record {
              same = λ input. ap (λ (v : List ℕ). so_far out ++ v) (f input)
                  ∙ (sym (append_assoc (so_far out) w _) ∙ rw (ea.text.appended.same, k));
              sound = record { part = omega arith; small = ea.small; lent = ea.lent; text = g.text; buffer = z; log = y };
            },
            ea.text.appended.room,
            refl,
          )

    pub text_lf : (n : ℕ)
        → s.part ≡ Text n
        → (a' : Arrays) (b' l' : List ℕ)
        → length b' ≡ 4096
        → length l' ≡ LOG_WORDS
        → (out₁ out₂ : Out) (e : Result Session Malformed) (r : State)
        → EnteredAs e a' out out₁ (next_held session (frame_of (take n t))) → EndedAs s.line e out₁ out₂ r
        → Went (reader s t a b l) out (10 ∷ []) (reader r t a' b' l') out₂ []
        × (out₂.at ≤ out.at + MOST_TEXT)
        × (begun_of r.part ≡ false)
    unfolding lines_after printed_from
    text_lf n ep a' b' l' z y out₁ out₂ e r ea d =
        ends a' b' l' z y (10 ∷ []) [] (next_held session (frame_of (take n t))) e out₁ out₂ r ea d (λ input. rw ep)

    -- a whole line of the chunk
    pub line_read : s.part ≡ Text 0
        → (chunk : List ℕ) (n : ℕ)
        → Ahead chunk n
        → n ≤ longest_kept
        → (a' : Arrays) (b' l' : List ℕ)
        → length b' ≡ 4096
        → length l' ≡ LOG_WORDS
        → (out₁ out₂ : Out) (e : Result Session Malformed) (r : State)
        → EnteredAs e a' out out₁ (next_held session (frame_of (take n chunk))) → EndedAs s.line e out₁ out₂ r
        → Went (reader s t a b l) out chunk (reader r t a' b' l') out₂ (drop (n + 1) chunk)
        × (out₂.at ≤ out.at + MOST_TEXT)
        × (begun_of r.part ≡ false)
    unfolding printed_from
    line_read ep chunk n k h a' b' l' z y out₁ out₂ e r ea d =
        ends a' b' l' z y chunk (drop (n + 1) chunk) (next_held session (frame_of (take n chunk))) e out₁ out₂ r ea d
        (λ input. rw (ep, k.found h input))

    sizes : HeldSizes a b l
    sizes = record { lent = g.lent; buffer = g.buffer; log = g.log }

    -- the line goes on as p, where that prints the same
    turns : (p : Part) (x : ℕ) (t' : List ℕ) (out' : Out) (r : State)
        → length t' ≡ longest_kept
        → Sound (reader (with_part s p) t' a b l)
        → TurnedTo s p out out' r true
        → ((input : List ℕ) → rest (reader s t a b l) (x ∷ input) ≡ rest (reader (with_part s p) t' a b l) input)
        → Went (reader s t a b l) out (x ∷ []) (reader r t' a b l) out' [] × (out'.at ≤ out.at + MOST_TEXT)
    turns p x t' out' r lt sound d f =
        rw (d.0, d.1) (record { same = λ input. ap (λ (v : List ℕ). so_far out ++ v) (f input); sound = sound }, omega arith)

    -- the first byte that is not kept
    full_byte : (x : ℕ)
        → s.part ≡ Text longest_kept
        → (x ≡ 10 → ⊥)
        → (out' : Out) (r : State)
        → TurnedTo s (Long true) out out' r (long_line t && ltb (digit_of x) 16)
        → Went (reader s t a b l) out (x ∷ []) (reader r t a b l) out' [] × (out'.at ≤ out.at + MOST_TEXT)
    unfolding lines_after all_digits digit_of
    full_byte x ep nl out' r d = go (long_line t && ltb (digit_of x) 16) refl d
      where
        begun : take longest_kept t ≡ t
        begun = take_all longest_kept t (omega (arith, g.text))

        digit : ltb (digit_of x) 16 ≡ true → all_digits (x ∷ []) ≡ true
        digit e = rw e

        go : (q : Bool) → long_line t && ltb (digit_of x) 16 ≡ q → TurnedTo s (Long true) out out' r q
            → Went (reader s t a b l) out (x ∷ []) (reader r t a b l) out' [] × (out'.at ≤ out.at + MOST_TEXT)
        go true e k =
            let long = both_of (long_line t) (ltb (digit_of x) 16) e in
            turns (Long true) x t out' r g.text
            (record {
              part = long.0;
              small = g.small;
              lent = g.lent;
              text = g.text;
              buffer = g.buffer;
              log = g.log;
            })
            k
            (λ input. rw (ep, ne_eqb x 10 nl, begun)
            (as_good t g.text long.0 session (x ∷ []) (48 ∷ []) (omega arith) (omega arith) refl
            (digit long.1) refl s.line input))
        go false e k = (
          stops (x ∷ []) [] t a b l out' r g.text sizes k
              (λ input. rw (ep, ne_eqb x 10 nl, begun)
              (doomed_begun s.line session input (t ++ (x ∷ [])) (rw length-append (omega arith))
              (λ q. ap frame_of (append_assoc t (x ∷ []) q) ∙ no_more t g.text x e q))),
          omega (arith, k.1.appended.room),
        )

    -- a byte of a line of which n bytes are kept
    pub text_byte : (n x : ℕ)
        → s.part ≡ Text n
        → (x ≡ 10 → ⊥)
        → (t' : List ℕ) (out' : Out) (r : State)
        → KeptAs s n x t out out' r × (t' ≡ set t n x)
        → Went (reader s t a b l) out (x ∷ []) (reader r t' a b l) out' [] × (out'.at ≤ out.at + MOST_TEXT)
    unfolding lines_after
    text_byte n x ep nl t' out' r d = go (ltb n longest_kept) refl d.0
      where
        short : n ≤ longest_kept
        short = rw ep at g.part

        size : length t' ≡ longest_kept
        size = rw d.1 (length-set t n x ∙ g.text)

        go : (q : Bool)
            → ltb n longest_kept ≡ q
            → KeptBy s n x t out out' r q
            → Went (reader s t a b l) out (x ∷ []) (reader r t' a b l) out' []
            × (out'.at ≤ out.at + MOST_TEXT)
        go true e k =
            let less : n < longest_kept = ltb-true _ _ e in
            turns (Text (n + 1)) x t' out' r size
            (record {
              part = omega arith;
              small = g.small;
              lent = g.lent;
              text = size;
              buffer = g.buffer;
              log = g.log;
            })
            k
            (λ input. rw (ep, ne_eqb x 10 nl, d.1, add-one, take-suc-set t n x (omega (arith, g.text))))
        go false e k =
            let full : n ≡ longest_kept = omega (arith, short, ltb-false n longest_kept e) in
            let same : t' ≡ t = d.1 ∙ set_out t n x (omega (arith, g.text)) in
            rw same (full_byte x (ep ∙ ap Text full) nl out' r k)

    -- a byte of a line that is longer than what is kept
    pub long_byte : (odd : Bool) (x : ℕ)
        → s.part ≡ Long odd
        → (x ≡ 10 → ⊥)
        → (out' : Out) (r : State)
        → TurnedTo s (Long (not odd)) out out' r (ltb (digit_of x) 16)
        → Went (reader s t a b l) out (x ∷ []) (reader r t a b l) out' [] × (out'.at ≤ out.at + MOST_TEXT)
    unfolding lines_after all_digits digit_of
    long_byte odd x ep nl out' r d = go (ltb (digit_of x) 16) refl d
      where
        long : long_line t ≡ true
        long = rw ep at g.part

        other : (o : Bool)
            → ltb (digit_of x) 16 ≡ true
            → (input : List ℕ)
            → from_line s.line session ((t ++ digits_more o) ++ (x ∷ [])) input ≡ from_line s.line session
            (t ++ digits_more (not o)) input
        other true e input = rw (append_assoc t (48 ∷ []) (x ∷ []))
            (as_good t g.text long session (48 ∷ x ∷ []) (48 ∷ 48 ∷ []) (omega arith) (omega arith) refl (rw e)
            refl s.line input)
        other false e input = rw (append_assoc t (48 ∷ 48 ∷ []) (x ∷ []))
            (as_good t g.text long session (48 ∷ 48 ∷ x ∷ []) (48 ∷ []) (omega arith) (omega arith) refl (rw e)
            refl s.line input)

        go : (q : Bool)
            → ltb (digit_of x) 16 ≡ q
            → TurnedTo s (Long (not odd)) out out' r q
            → Went (reader s t a b l) out (x ∷ []) (reader r t a b l) out' []
            × (out'.at ≤ out.at + MOST_TEXT)
        go true e k =
            turns (Long (not odd)) x t out' r g.text
            (record {
              part = long;
              small = g.small;
              lent = g.lent;
              text = g.text;
              buffer = g.buffer;
              log = g.log;
            })
            k
            (λ input. rw (ep, ne_eqb x 10 nl) (other odd e input))
        go false e k = (
          stops (x ∷ []) [] t a b l out' r g.text sizes k
              (λ input. rw (ep, ne_eqb x 10 nl)
              (spoilt t g.text long s.line session (digits_more odd) x e input)),
          omega (arith, k.1.appended.room),
        )

    -- the end of such a line
    pub long_lf : (odd : Bool) → s.part ≡ Long odd → (out' : Out) (r : State) → LongEndedAs odd s t out out' r
        → Went (reader s t a b l) out (10 ∷ []) (reader r t a b l) out' []
        × (out'.at ≤ out.at + MOST_TEXT)
        × (begun_of r.part ≡ false)
    unfolding lines_after printed_from
    long_lf odd ep out' r d = go odd ep d
      where
        go : (o : Bool) → s.part ≡ Long o → LongEndedAs o s t out out' r
            → Went (reader s t a b l) out (10 ∷ []) (reader r t a b l) out' []
            × (out'.at ≤ out.at + MOST_TEXT)
            × (begun_of r.part ≡ false)
        go true e k =
            ends a b l g.buffer g.log (10 ∷ []) [] malformed not_entered out out' r (refused g.lent) k
            (λ input. rw (e, ends_odd t g.text (rw e at g.part), bad_next session))
        go false e k = by (head_of t) refl k
          where
            long : long_line t ≡ true
            long = rw e at g.part

            by : (h : Option Line) → head_of t ≡ h → EndedAs s.line (long_entered (head_of t) s.session) out out' r
                → Went (reader s t a b l) out (10 ∷ []) (reader r t a b l) out' []
                × (out'.at ≤ out.at + MOST_TEXT)
                × (begun_of r.part ≡ false)
            by None h q = let z : false ≡ true = rw h at long in absurd (false_true z)
            by (Some w) h q =
                ends a b l g.buffer g.log (10 ∷ []) []
                (next_held session (bytes_frame w (Some (values (drop (width w) t ++ digits_more false)))))
                (long_entered (Some w) s.session) out out' r
                (enters_wide s.session.call s.session.slave a out g.small g.lent
                (values (drop (width w) t ++ digits_more false))
                (many t g.text w h (48 ∷ 48 ∷ []) (omega arith)) w)
                (rw h at q) (λ input. rw (e, ends_even t g.text long w h))
