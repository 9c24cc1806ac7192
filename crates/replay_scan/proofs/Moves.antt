-- What a run of bytes has come to, and a byte of a chunk.
use Prim.Native.Nat.{ℕ, ◌+◌, ◌-◌, ◌%◌, ◌<◌, ◌≤◌}
use native.Mathlib.Omega.{arith}
use native.Mathlib.Nat.{add-zero}
use mathlib.Core.Bool.{Bool, true}
use mathlib.Core.List.{List, [], ◌∷◌, ◌++◌, append-nil}
use mathlib.Core.Path.{◌≡◌, refl, ap, ◌∙◌}
use lib.ListN.{length, take, drop, get_or, length-append, length-drop, take-append-drop, drop_of_length-le}
use lib.Seq.{drop-cons, length-take-le, take-append-add, take_all}
use Rattle.replay_session.specs.Session.{printed_from}
use Rattle.replay_session.specs.Inner.Bounded.{next_held, holds_call}
use Rattle.replay_session.specs.Inner.Enter.{Arrays, longest_kept, session_of}
use Rattle.replay_state.specs.Inner.Rest.{Out, so_far, Whole, rest, long_line, digits_more, PartSound, Sound, Went, with_part}
use Rattle.replay_state.specs.declared.Part.{Part}
use Rattle.replay_state.specs.declared.Part.TheVariants.{Stopped, Text, Long}
use Rattle.replay_state.specs.declared.State.{State}
use Rattle.replay_state.proofs.Steps.{reader}
use Rattle.replay_scan.specs.Inner.Bytes.{DigitsAhead, KeptAhead, MovedAs}
use Rattle.replay_scan.proofs.Skipped.{skipped}

pub moved_none : (p : Part) (chunk t : List ℕ) → p ≡ Stopped → length t ≡ longest_kept → MovedAs p chunk t p t 0
moved_none p chunk t e z = record {
  same = λ line k input. rw e;
  sound = rw e tt;
  size = z;
  inside = omega arith;
  none = λ l. (refl, refl);
}

-- k bytes are kept in the room behind the n that were, as it is lent
pub moved_text : (p : Part) (chunk t room : List ℕ) (n k : ℕ)
    → p ≡ Text n
    → n ≤ longest_kept
    → length t ≡ longest_kept
    → KeptAhead chunk (take (longest_kept - n) (drop n t)) room k
    → MovedAs p chunk t (Text (n + k)) (take n t ++ (room ++ drop (longest_kept - n) (drop n t))) k
moved_text p chunk t room n k e h z q =
    record {
      same = λ line held input. rw (e, put) (ap (printed_from next_held holds_call line held) (q.same (take n t) input));
      sound = omega (arith, q.fits, whole);
      size = rw (nothing, append-nil, length-append, begun) whole;
      inside = q.inside;
      none = λ l. (
        rw (e, l, add-zero),
        rw (nothing, append-nil, q.none l, all, take-append-drop n t),
      );
    }
  where
    behind : length (drop n t) ≡ longest_kept - n
    behind = rw (length-drop, z)

    all : take (longest_kept - n) (drop n t) ≡ drop n t
    all = take_all (longest_kept - n) (drop n t) (omega (arith, behind))

    nothing : drop (longest_kept - n) (drop n t) ≡ []
    nothing = drop_of_length-le (drop n t) {i = longest_kept - n} (omega (arith, behind))

    begun : length (take n t) ≡ n
    begun = length-take-le n t (omega arith)

    put : take (n + k) (take n t ++ (room ++ drop (longest_kept - n) (drop n t))) ≡ take n t ++ take k room
    put = rw (nothing, append-nil) (rw begun at (take-append-add (take n t) room k))

    whole : n + length room ≡ longest_kept
    whole = rw (q.size, all, behind) (omega arith)

pub moved_long : (p : Part) (chunk : List ℕ) (k : ℕ) (t : List ℕ) (odd to : Bool)
    → p ≡ Long odd
    → PartSound p t
    → length t ≡ longest_kept
    → DigitsAhead chunk k
    → (length (digits_more odd) + k) % 2 ≡ length (digits_more to) % 2
    → (k ≡ 0 → to ≡ odd)
    → MovedAs p chunk t (Long to) t k
moved_long p chunk k t odd to e g z q par stays =
    let long : long_line t ≡ true = rw e at g in
    record {
      same = λ line h input. rw e (skipped t z long chunk k q odd to par line h input);
      sound = long;
      size = z;
      inside = q.inside;
      none = λ l. (rw (e, stays l), refl);
    }

-- the reader behind a run
pub moved : (s : State) (p : Part) (t t' : List ℕ) (a : Arrays) (b l : List ℕ) (out : Out) (chunk : List ℕ) (k : ℕ)
    → Sound (reader s t a b l)
    → MovedAs s.part chunk t p t' k
    → Went (reader s t a b l) out chunk (reader (with_part s p) t' a b l) out (drop k chunk)
moved s p t t' a b l out chunk k g m =
    record {
      same = λ input. ap (λ (x : List ℕ). so_far out ++ x)
          (m.same s.line (session_of s.session.call s.session.slave a) input);
      sound = record { part = m.sound; small = g.small; lent = g.lent; text = m.size; buffer = g.buffer; log = g.log };
    }

-- a byte of a chunk
pub byte_read : {v w : Whole} {out₀ out : Out} {x : ℕ} (chunk : List ℕ) → 0 < length chunk → x ≡ get_or chunk 0 0
    → Went v out₀ (x ∷ []) w out [] → Went v out₀ chunk w out (drop 1 chunk)
byte_read {v} {out₀ = out₀} {x = x} chunk h e d =
    let c : chunk ≡ x ∷ drop 1 chunk = rw e (drop-cons chunk 0 0 h) in
    record {
      same = λ input. ap (λ (b : List ℕ). so_far out₀ ++ rest v (b ++ input)) c
          ∙ d.same (drop 1 chunk ++ input);
      sound = d.sound;
    }
