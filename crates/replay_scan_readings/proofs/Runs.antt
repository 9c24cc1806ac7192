-- The loop over readings, and the reader behind it.
use Prim.Native.Nat.{ℕ, ◌+◌, ◌-◌, ◌*◌, ◌<◌, ◌≤◌, min}
use native.Mathlib.Omega.{arith}
use native.Mathlib.Numerals.{add-one}
use native.Mathlib.Nat.{min-eq_left}
use mathlib.Core.List.{List, [], ◌∷◌, ◌++◌, append_assoc, append-nil}
use mathlib.Core.Bool.{Bool, true, false}
use mathlib.Core.Path.{◌≡◌, refl, sym, ap, ◌∙◌}
use lib.Dec.{ltb, eqb}
use lib.ListN.{length, take, drop, set, length-set, length-append, length-drop, take-append-drop, drop_of_length-le}
use lib.Seq.{take-suc-set, length-take-le, drop-drop, take-append-add}
use borrow.Author.Tests.{lt-ltb, ltb-true, ltb-false, eqb-true}
use Rattle.regs.proofs.Tests.{both_of, false_true}
use Rattle.std.specs.Prelude.{if◌then◌else◌, Option, Some, None}
use Rattle.slave.specs.declared.SlaveState.{SlaveState}
use Rattle.replay_calls.specs.Calls.{MOST_READINGS}
use Rattle.replay_calls.specs.declared.Call.{Call}
use Rattle.replay_session.specs.Session.{complete, line_after, printed_from}
use Rattle.replay_session.specs.Inner.Bounded.{Kept, Held, within}
use Rattle.replay_session.specs.Inner.Enter.{Arrays, arrays, kept_by, kept_of, session_of, counts_of, Within}
use Rattle.replay_session.specs.declared.Wants.{Wants}
use Rattle.replay_session.specs.declared.Wants.TheVariants.{Nothing}
use Rattle.replay_session.specs.declared.Open.{Open}
use Rattle.replay_session.specs.declared.Filled.{Filled}
use Rattle.replay_state.specs.Inner.Rest.{Out, so_far, whole, rest, rest_of, from_line, Sound, Went}
use Rattle.replay_state.specs.declared.Part.{Part}
use Rattle.replay_state.specs.declared.Part.TheVariants.{Stopped, Text, Long}
use Rattle.replay_state.specs.declared.State.{State}
use Rattle.replay_scan_readings.specs.Inner.Run.{Written, wants_after, line_on, Run, RanAs, ready_by, ready_of, state_after}
use Rattle.replay_scan_readings.proofs.Readings.{a_reading, a_line}

-- n lines further on, and one more
line_next : (line n : ℕ) → line < 4294967296 → line_after (line_on line n) ≡ line_on line (n + 1)
line_next line n h = go (ltb (line_on line n) 4294967295) refl
  where
    go : (b : Bool) → ltb (line_on line n) 4294967295 ≡ b → (if b then line_on line n + 1 else line_on line n) ≡ line_on line (n + 1)
    go true e = let l = ltb-true _ _ e in omega arith
    go false e = let l = ltb-false _ _ e in omega arith

pub run_none : (chunk rs : List ℕ) → Run chunk rs 0 rs
run_none chunk rs =
    record {
      same = λ line s c w k before h e f input.
          let z : line_on line 0 ≡ line = omega arith in rw (z, append-nil);
      inside = omega arith;
      fits = omega arith;
      size = refl;
      none = λ e. refl;
    }

-- one reading of a call that wants no more operation
one_reading : (chunk : List ℕ) (v : ℕ)
    → Written chunk v
    → (line : ℕ) (before : List ℕ)
    → length before < MOST_READINGS
    → (s : SlaveState) (c : Call) (w : Wants) (k : Kept) → complete w ≡ true → (input : List ℕ)
    → from_line line (within s c w k before) [] (chunk ++ input)
    ≡ from_line (line_after line) (within s c Nothing k (before ++ (v ∷ []))) [] (drop 11 chunk ++ input)
unfolding printed_from
one_reading chunk v p line before less s c w k e input =
    rw ((a_line chunk v p).found (omega arith) input, a_reading chunk v p, e, lt-ltb _ _ less)

module _ {chunk rs₀ : List ℕ} {n : ℕ} {rs : List ℕ} (p : Run chunk rs₀ n rs) where
  still : (w : Wants) → complete w ≡ true → complete (wants_after n w) ≡ true
  still w e = go (ltb 0 n)
    where
      go : (b : Bool) → complete (if b then Nothing else w) ≡ true
      go true = refl
      go false = e

  pub run_more : (v : ℕ)
      → Written (drop (n * 11) chunk) v
      → n < length rs
      → Run chunk rs₀ (n + 1) (set rs n v)
  run_more v h less =
      let z : n * 11 + 11 ≡ (n + 1) * 11 = omega arith in
      record {
        same = λ line s c w k before l e f input.
            p.same line s c w k before l e f input
            ∙ (one_reading (drop (n * 11) chunk) v h (line_on line n) (before ++ take n rs)
            (rw (length-append, length-take-le n rs (omega arith)) (omega (arith, p.size)))
            s c (wants_after n w) k (still w e) input
            ∙ rw (
              line_next line n l,
              lt-ltb 0 (n + 1) (omega arith),
              drop-drop,
              z,
              add-one n,
              take-suc-set rs n v less,
              append_assoc,
            ));
        inside = omega (arith, h.inside, length-drop (n * 11) chunk);
        fits = omega (arith, p.size);
        size = length-set rs n v ∙ p.size;
        none = λ e. absurd (omega arith);
      }

-- what `is_ready` has found
record Ready (s : State) : Type 0 where
  open_call : Open
  part : s.part ≡ Text 0
  call : s.session.call ≡ Some open_call
  wants : complete open_call.wants ≡ true

is_ready : (s : State) → ready_of s ≡ true → Ready s
is_ready s e = go s.part s.session.call refl refl e
  where
    go : (q : Part) (c : Option Open) → s.part ≡ q → s.session.call ≡ c → ready_by q c ≡ true → Ready s
    go Stopped c f h g = absurd (false_true g)
    go (Text n) None f h g = absurd (false_true g)
    go (Text n) (Some o) f h g =
        let a = both_of (eqb n 0) _ g in
        record { open_call = o; part = f ∙ ap Text (eqb-true n 0 a.0); call = h; wants = a.1 }
    go (Long odd) c f h g = absurd (false_true g)

-- what is kept of the operations does not depend on the readings
kept_any : (f : Option Filled) (ks ls bs rs rs' : List ℕ) → kept_by f (arrays ks ls bs rs) ≡ kept_by f (arrays ks ls bs rs')
kept_any None ks ls bs rs rs' = refl
kept_any (Some f) ks ls bs rs rs' = refl

module _ (s : State) (chunk rs₀ xs : List ℕ) (n : ℕ) (ready : ready_of s ≡ true) (narrow : s.line < 4294967296) where
  abbrev first : ℕ
  first = (counts_of s.session.call).readings

  module _ (p : Run chunk (drop (min first (length rs₀)) rs₀) n xs) where
    abbrev rs : List ℕ
    rs = take (min first (length rs₀)) rs₀ ++ xs

    by_open : (o : Open) → s.part ≡ Text 0 → s.session.call ≡ Some o → complete o.wants ≡ true → 0 < n
        → (t ks ls bs b l : List ℕ) (out : Out) → Sound (whole s t ks ls bs rs₀ b l)
        → Went (whole s t ks ls bs rs₀ b l) out chunk
        (whole (state_after s n (min first (length rs₀) + n)) t ks ls bs rs b l) out (drop (n * 11) chunk)
    by_open o part call wants h t ks ls bs b l out g =
        record {
          same = λ input. ap (λ (x : List ℕ). so_far out ++ x) (still_printed input);
          sound =
              record {
                part = omega arith;
                small = rw call (record { counts = record { filled = counts.filled; readings = rw call at few } });
                lent = record { kinds = g.lent.kinds; lengths = g.lent.lengths; bytes = g.lent.bytes; readings = size };
                text = g.text;
                buffer = g.buffer;
                log = g.log;
              };
        }
      where
        counts : Within o.counts
        counts = rw call at g.small.counts

        least : min first (length rs₀) ≡ first
        least = min-eq_left (omega (arith, g.small.counts.readings, g.lent.readings))

        begun : length (take first rs₀) ≡ first
        begun = length-take-le first rs₀ (omega (arith, g.small.counts.readings, g.lent.readings))

        behind : length (drop first rs₀) + first ≡ MOST_READINGS
        behind = rw length-drop (omega (arith, g.small.counts.readings, g.lent.readings))

        p' : Run chunk (drop first rs₀) n xs
        p' = rw least at p

        fits : first + n ≤ MOST_READINGS
        fits = omega (arith, p'.fits, behind)

        few : min first (length rs₀) + n ≤ MOST_READINGS
        few = rw least fits

        size : length rs ≡ MOST_READINGS
        size = rw (least, length-append, begun) (omega (arith, p'.size, behind))

        own : first ≡ o.counts.readings
        own = rw call

        put : take (o.counts.readings + n) (take o.counts.readings rs₀ ++ xs) ≡ take o.counts.readings rs₀ ++ take n xs
        put = rw own at (rw begun at (take-append-add (take first rs₀) xs n))

        still_printed : (input : List ℕ)
            → rest (whole s t ks ls bs rs₀ b l) (chunk ++ input) ≡ rest
            (whole (state_after s n (min first (length rs₀) + n)) t ks ls bs rs b l) (drop (n * 11) chunk ++ input)
        still_printed input =
            rw (least, part, call)
            (rw own at (p'.same s.line s.session.slave o.call o.wants (kept_of o.counts (arrays ks ls bs rs₀)) (take first rs₀)
            narrow wants (omega (arith, begun, behind)) input)
            ∙ rw (lt-ltb 0 n h, kept_any o.counts.filled ks ls bs rs₀ (take o.counts.readings rs₀ ++ xs), ← put))

pub ran : (s : State) (chunk rs₀ xs : List ℕ) (n : ℕ)
    → ready_of s ≡ true
    → s.line < 4294967296
    → Run chunk (drop (min (counts_of s.session.call).readings (length rs₀)) rs₀) n xs
    → 0 < n
    → RanAs s chunk rs₀ (state_after s n (min (counts_of s.session.call).readings (length rs₀) + n))
    (take (min (counts_of s.session.call).readings (length rs₀)) rs₀ ++ xs) n
ran s chunk rs₀ xs n e narrow p h =
    let ready = is_ready s e in
    record {
      went = by_open s chunk rs₀ xs n e narrow p ready.open_call ready.part ready.call ready.wants h;
      after = λ l. refl;
      inside = p.inside;
      none = λ z. absurd (omega arith);
    }

pub ran_not : (s : State) (chunk rs : List ℕ) → RanAs s chunk rs s rs 0
ran_not s chunk rs =
    record {
      went = λ t ks ls bs b l out g. record { same = λ input. refl; sound = g };
      after = λ h. absurd (omega arith);
      inside = omega arith;
      none = λ z. (refl, refl);
    }

-- nothing is behind the last of the places that were lent
pub lent_rest : (m : ℕ) (rs₀ xs : List ℕ)
    → m ≤ length rs₀
    → take m rs₀ ++ (xs ++ drop (length rs₀ - m) (drop m rs₀)) ≡ take m rs₀ ++ xs
lent_rest m rs₀ xs h = rw (drop_of_length-le (drop m rs₀) {i = length rs₀ - m} (rw length-drop (omega arith)), append-nil)
