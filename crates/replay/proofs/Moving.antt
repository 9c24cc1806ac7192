-- What `read_all`'s loop keeps: all that the reads brought was fed to the reader in order, and the text so far is what
-- Session prints up to there; and what `feed_all`'s keeps of the bytes of one read.
use Rattle.std.specs.Prelude.{Ok, Err}
use Prim.Native.Nat.{ℕ, zero, suc, ◌+◌, ◌-◌, ◌≤◌, ◌<◌}
use native.Mathlib.Omega.{arith}
use mathlib.Core.Bool.{Bool, true, false}
use mathlib.Core.List.{List, [], ◌∷◌, ◌++◌, append_assoc, append-nil}
use mathlib.Core.Path.{◌≡◌, refl, sym, ap, ◌∙◌}
use lib.ListN.{length, take, drop, length-append, take-append-drop}
use lib.Seq.{slice, length-take-le}
use Rattle.std.proofs.lemmas.List.{take_rest}
use Rattle.text_stdin.specs.Reads.{Counted, Brought, Reads, none}
use Rattle.text_stdin.specs.declared.reads.End.{End}
use Rattle.text_stdin.specs.declared.reads.End.TheVariants.{Open, Ended, Failed, OutOfTurns}
use Rattle.text_stdin.specs.declared.reads.Got.{Got}
use Rattle.text_stdin.proofs.Reading.{more_reads}
use Rattle.replay_calls.specs.Inner.Runs.{MOST_TEXT, LOG_WORDS}
use Rattle.replay_session.specs.Session.{printed}
use Rattle.replay_session.specs.Inner.Enter.{Lent, longest_kept}
use Rattle.replay_session.proofs.Enters.{closed_small}
use Rattle.replay_session.proofs.Bound.{same_printed}
use Rattle.replay_state.specs.Inner.Rest.{Out, Whole, rest, Sound}
use Rattle.replay_state.specs.Inner.Fed.{FedAs, start_state}
use Rattle.replay.specs.declared.input.Unwritten.{Unwritten}
use Rattle.replay.specs.Replayed.{FedAll, MOST_TURNS, Stops, ReadAll}

-- ---- the bytes of one read

pub record FedSome (v : Whole) (bytes : List ℕ) (w : Whole) (left : List ℕ) : Type 0 where
  pub text : List ℕ
  pub fed : List ℕ
  pub parts : bytes ≡ fed ++ left
  pub same : (input : List ℕ) → rest v (bytes ++ input) ≡ text ++ rest w (left ++ input)
  pub sound : Sound w

pub fed_none : (v : Whole) (bytes : List ℕ) → Sound v → FedSome v bytes v bytes
fed_none v bytes g = record { text = []; fed = []; parts = refl; same = λ input. refl; sound = g }

module _ {v w : Whole} {bytes left : List ℕ} (p : FedSome v bytes w left) where
  pub fed_more : {w' : Whole} {out : List ℕ} {used made : ℕ}
      → FedAs w left w' out used made
      → FedSome v bytes w' (take (length left - used) (drop used left))
  fed_more {w'} {out} {used} {made} f =
      rw (take_rest left used) (record {
        text = p.text ++ take made out;
        fed = p.fed ++ take used left;
        parts = p.parts ∙ rw (append_assoc p.fed (take used left), take-append-drop used left);
        same = λ input. p.same input
            ∙ (ap (λ (l : List ℕ). p.text ++ l) (f.same input)
            ∙ sym (append_assoc p.text (take made out) (rest w' (drop used left ++ input))));
        sound = f.sound;
      })

  pub fed_all : left ≡ [] → FedAll v bytes w true
  fed_all h = record {
    text = p.text;
    fed = p.fed;
    left = left;
    parts = p.parts;
    same = p.same;
    sound = p.sound;
    all = h;
  }

  pub fed_cut : FedAll v bytes w false
  fed_cut = record {
    text = p.text;
    fed = p.fed;
    left = left;
    parts = p.parts;
    same = p.same;
    sound = p.sound;
    all = tt;
  }

-- ---- one read after the other

pub record Moving (w : Whole) (out : Out) (turns : ℕ) : Type 0 where
  pub count : ℕ
  pub came : List ℕ
  pub reads : Reads Open count came Open
  pub text : List ℕ
  pub same : (more : List ℕ) → printed (came ++ more) ≡ text ++ rest w more
  pub sound : Sound w
  pub room : MOST_TEXT + 13 ≤ length out.out.now
  pub most : turns ≤ length came

pub starts : (w : Whole) (out : Out)
    → w.state ≡ start_state
    → length w.text ≡ longest_kept
    → Lent w.lists
    → length w.buffer ≡ 4096
    → length w.log ≡ LOG_WORDS
    → MOST_TEXT + 13 ≤ length out.out.now
    → Moving w out 0
starts w out e a b c d h =
    record {
      count = 0;
      came = [];
      reads = none;
      text = [];
      same = λ more. rw e (sym (same_printed more));
      sound =
          record { part = rw e (omega arith); small = rw e closed_small; lent = b; text = a; buffer = c; log = d };
      room = h;
      most = omega arith;
    }

open_some : (e : End) {n : ℕ} → Counted e n → 0 < n → e ≡ Open
open_some Open c h = refl
open_some Ended c h = absurd (omega arith)
open_some Failed c h = absurd (omega arith)
open_some OutOfTurns c h = absurd c

module _ {w : Whole} {out : Out} {turns : ℕ} (p : Moving w out turns) where
  module _ {chunk : List ℕ} {got : Got} (b : Brought chunk got) where
    abbrev bytes : List ℕ
    bytes = slice 0 got.count chunk

    abbrev came' : List ℕ
    came' = p.came ++ bytes

    came_same : (more : List ℕ) → printed (came' ++ more) ≡ p.text ++ rest w (bytes ++ more)
    came_same more = ap printed (append_assoc p.came bytes more) ∙ p.same (bytes ++ more)

    -- a read that brought nothing
    pub read_last : got.count ≡ 0 → ReadAll w (Ok got.end)
    read_last z =
        record {
          count = suc p.count;
          came = came';
          last = got.end;
          reads = more_reads p.reads b;
          fed = p.came;
          left = bytes;
          parts = refl;
          text = p.text;
          same = came_same;
          sound = p.sound;
          stops = by_end got.end p.came bytes (rw z at b.counted) (rw z);
        }
      where
        by_end : (e : End) (fed left : List ℕ) → Counted e 0 → left ≡ [] → Stops (Ok e) e fed left
        by_end Open fed left c n = absurd (omega (arith, c))
        by_end Ended fed left c n = (refl, n)
        by_end Failed fed left c n = (refl, n)
        by_end OutOfTurns fed left c n = absurd c

    module _ (z : got.count ≡ 0 → ⊥) where
      some : (n : ℕ) → (n ≡ 0 → ⊥) → 0 < n
      some zero k = absurd (k refl)
      some (suc n) k = omega arith

      reads' : Reads Open (suc p.count) came' Open
      reads' = let o = open_some got.end b.counted (some got.count z) in rw o at (more_reads p.reads b)

      -- all of its bytes fed
      pub feed_on : {w' : Whole} {out' : Out}
          → FedAll w bytes w' true
          → length out'.out.now ≡ length out.out.now
          → Moving w' out' (turns + 1)
      feed_on {w'} f l =
          let n = some got.count z in
          record {
            count = suc p.count;
            came = came';
            reads = reads';
            text = p.text ++ f.text;
            same = λ more. came_same more
                ∙ (ap (λ (t : List ℕ). p.text ++ t) (f.same more)
                ∙ rw (f.all) (sym (append_assoc p.text f.text (rest w' more))));
            sound = f.sound;
            room = omega (arith, l, p.room);
            most = rw (length-append p.came bytes, length-take-le got.count chunk b.inside) (omega (arith, p.most));
          }

      -- a write has failed
      pub left_off : {w' : Whole} (e : Unwritten) → FedAll w bytes w' false → ReadAll w' (Err e)
      left_off {w'} e f =
          record {
            count = suc p.count;
            came = came';
            last = Open;
            reads = reads';
            fed = p.came ++ f.fed;
            left = f.left;
            parts = ap (λ (t : List ℕ). p.came ++ t) f.parts ∙ sym (append_assoc p.came f.fed f.left);
            text = p.text ++ f.text;
            same = λ more. came_same more
                ∙ (ap (λ (t : List ℕ). p.text ++ t) (f.same more)
                ∙ sym (append_assoc p.text f.text (rest w' (f.left ++ more))));
            sound = f.sound;
            stops = tt;
          }

  -- behind the last turn
  pub turned_out : MOST_TURNS ≤ turns → ReadAll w (Ok OutOfTurns)
  turned_out h =
      record {
        count = p.count;
        came = p.came;
        last = Open;
        reads = p.reads;
        fed = p.came;
        left = [];
        parts = sym (append-nil p.came);
        text = p.text;
        same = p.same;
        sound = p.sound;
        stops = omega (arith, p.most, h);
      }
