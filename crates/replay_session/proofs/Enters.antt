-- What each frame leads to, from the session that the open call and the lent slices are.
use Rattle.std.specs.Prelude.{Option, Some, None}
use Prim.Native.Nat.{ℕ, ◌/◌, ◌<◌}
use native.Mathlib.Omega.{arith}
use native.Mathlib.Numerals.{add-one}
use mathlib.Core.Bool.{Bool, true, false}
use mathlib.Core.List.{List, [], ◌∷◌}
use mathlib.Core.Path.{◌≡◌, refl, ◌∙◌}
use lib.Dec.{ltb}
use lib.ListN.{length, take, length-set}
use lib.Seq.{take-suc-set, length-take-le}
use borrow.Author.Tests.{ltb-true}
use Rattle.master.specs.Operations.{Operation, writes, reads}
use Rattle.slave.specs.declared.SlaveState.{SlaveState}
use Rattle.text_hex.specs.Text.{bytes_of}
use Rattle.text_hex.specs.Pairs.{whole_pairs, values}
use Rattle.text_hex.proofs.Pairs.{length_values, written, unwritten}
use Rattle.text_hex.proofs.Adding.{no_text}
use Rattle.text_hex.specs.declared.text.Text.{Text}
use Rattle.replay_calls.specs.Calls.{MOST_READINGS, listing}
use Rattle.replay_calls.specs.Inner.Runs.{MOST_TEXT}
use Rattle.replay_calls.specs.declared.Call.{Call}
use Rattle.replay_calls.specs.declared.Call.TheVariants.{Respond, RespondAndFill}
use Rattle.replay_frames.specs.Frame.{opens, read, reading, run, bad, bytes_frame}
use Rattle.replay_frames.specs.declared.Line.{Line}
use Rattle.replay_session.specs.Session.{going, malformed, wants_of, read_taken, write_taken, complete}
use Rattle.replay_session.specs.Inner.Bounded.{bounded, add, Held, within, operation, next_held}
use Rattle.replay_session.specs.Inner.Enter.{Arrays, kept_by, kept_of, session_of, no_counts, counts_of, Within, FewIf}
use Rattle.replay_session.specs.Inner.Enter.{Small, Lent, EnteredAs, CalledAs, opened, entered, not_entered, over_of, added_to}
use Rattle.replay_session.specs.Inner.Enter.{call_entered, read_entered, taken_as, taken_by}
use Rattle.replay_session.specs.Inner.Enter.{bytes_entered, one_reading, reading_entered, stored, with_reading, more_if, PutBehind}
use Rattle.replay_session.specs.declared.Wants.{Wants}
use Rattle.replay_session.specs.declared.Wants.TheVariants.{Nothing}
use Rattle.replay_session.specs.declared.Counts.{Counts}
use Rattle.replay_session.specs.declared.Filled.{Filled}
use Rattle.replay_session.specs.declared.Open.{Open}
use Rattle.replay_session.proofs.Bound.{bounded_more}
use Rattle.replay_session.proofs.Keeps.{stored_lent, stored_readings, added_within, over_within}
use Rattle.replay_session.proofs.Keeps.{kept_read_if, kept_reading, kept_write, kept_wide}

pub refused : {a : Arrays} {t : Text} → Lent a → EnteredAs not_entered a t t malformed
refused {a} {t} l = record { same = refl; text = no_text t 0; small = tt; lent = l }

silent : {a : Arrays} {t : Text} (o : Option Open) (s : SlaveState) (h : Held)
    → session_of o s a ≡ h
    → Small o
    → Lent a
    → EnteredAs (entered o s) a t t (going h [])
silent {a} {t} o s h e small l = record { same = rw e; text = no_text t MOST_TEXT; small = small; lent = l }

-- a call that is open is small if its counts are
busy : (c : Call) (w : Wants) (n : Counts) → Within n → Small (Some (opened c w n))
busy c w n h = record { counts = h }

no_counts_within : Within no_counts
no_counts_within = record {
  filled = record { ops = omega arith; bytes = omega arith; reads = omega arith };
  readings = omega arith;
}

pub closed_small : Small None
closed_small = record { counts = no_counts_within }

-- an operation that comes in order, or does not
takes : (o : Open) (s : SlaveState) (a : Arrays) (x : Text) (n : Counts) (a' : Arrays) (p : Operation ℕ) (t : Option Wants)
    → Within n
    → Lent a'
    → n.readings ≡ o.counts.readings
    → a'.readings ≡ a.readings
    → kept_of n a' ≡ add (kept_of o.counts a) p
    → EnteredAs (bytes_entered (taken_as o.call n t) s) a' x x
    (operation s o.call (add (kept_of o.counts a) p) (take o.counts.readings a.readings) t)
takes o s a x n a' p None h l' e f k = refused l'
takes o s a x n a' p (Some w) h l' e f k = silent (Some (opened o.call w n)) s _ (rw (k, e, f)) (busy o.call w n h) l'

-- a line of bytes, in order or not, where the counts and the slices after it keep them
module _ (s : SlaveState) (a : Arrays) (x : Text) (n : Counts) (a' : Arrays) (bs : List ℕ) (h : Within n) (l' : Lent a')
    (f : a'.readings ≡ a.readings) where
  -- a response opens its call
  responds : (c : Call)
      → wants_of c ≡ Nothing
      → n.readings ≡ 0
      → kept_of n a' ≡ add (kept_of no_counts a) (writes bs)
      → EnteredAs (entered (Some (opened c Nothing n)) s) a' x x
      (going (within s c (wants_of c) (bounded (listing (writes bs ∷ []))) []) [])
  unfolding listing
  responds c w e k =
      silent (Some (opened c Nothing n)) s _ (rw (k, e, w, bounded_more [] (writes bs))) (busy c Nothing n h) l'

  enters_written : (o : Option Open) (line : Line)
      → n.readings ≡ (counts_of o).readings
      → kept_of n a' ≡ add (kept_of (counts_of o) a) (writes bs)
      → EnteredAs (bytes_entered (taken_by line o n) s) a' x x
      (next_held (session_of o s a) (bytes_frame line (Some bs)))
  enters_written (Some o) Line.Write e k = takes o s a x n a' (writes bs) (write_taken o.wants) h l' e f k
  enters_written None Line.Write e k = refused l'
  enters_written (Some o) Line.Respond e k = refused l'
  enters_written None Line.Respond e k = responds Respond refl e k
  enters_written (Some o) (Line.RespondAndFill b) e k = refused l'
  enters_written None (Line.RespondAndFill b) e k = responds (RespondAndFill b) refl e k

module _ (o : Option Open) (s : SlaveState) (a : Arrays) (x : Text) (g : Small o) (l : Lent a) where
  pub enters_call : (c : Call) → EnteredAs (call_entered c o s) a x x (next_held (session_of o s a) (opens c []))
  unfolding listing
  enters_call c = go o
    where
      go : (p : Option Open) → EnteredAs (call_entered c p s) a x x (next_held (session_of p s a) (opens c []))
      go (Some p) = refused l
      go None = silent (Some (opened c (wants_of c) no_counts)) s _ refl (busy c (wants_of c) no_counts no_counts_within) l

  pub enters_bad : EnteredAs not_entered a x x (next_held (session_of o s a) bad)
  enters_bad = go o
    where
      go : (p : Option Open) → EnteredAs not_entered a x x (next_held (session_of p s a) bad)
      go (Some p) = refused l
      go None = refused l

  pub enters_read : (m : ℕ)
      → EnteredAs (read_entered m o s) (stored (counts_of o).filled a 0 m) x x
      (next_held (session_of o s a) (read m))
  enters_read m = go o g
    where
      go : (p : Option Open)
          → Small p
          → EnteredAs (read_entered m p s) (stored (counts_of p).filled a 0 m) x x
          (next_held (session_of p s a) (read m))
      go None h = refused (stored_lent no_counts.filled a l 0 m)
      go (Some p) h = takes p s a x (added_to p.counts 0 m) (stored p.counts.filled a 0 m) (reads m) (read_taken p.wants)
          (added_within p.counts h.counts 0 m) (stored_lent p.counts.filled a l 0 m)
          refl (stored_readings p.counts.filled a 0 m) (kept_read_if p.counts.filled a h.counts.filled l m)

  -- a line of more bytes than any call may have
  pub enters_wide : (bs : List ℕ)
      → 4096 < length bs
      → (line : Line)
      → EnteredAs (bytes_entered (taken_by line o (over_of (counts_of o))) s) a x x
      (next_held (session_of o s a) (bytes_frame line (Some bs)))
  enters_wide bs h line = enters_written s a x (over_of (counts_of o)) a bs (over_within (counts_of o) g.counts) l
      refl o line refl (kept_wide (counts_of o) a bs h)

  -- a line that ends in pairs of digits, whose bytes were put behind those of the call
  pub enters_pairs : (ds : List ℕ) (a₁ : Arrays) → whole_pairs ds ≡ true → PutBehind ds (counts_of o).filled a a₁ → (line : Line)
      → EnteredAs (bytes_entered (taken_by line o (added_to (counts_of o) (length ds / 2) 0)) s)
      (stored (counts_of o).filled a₁ 1 (length ds / 2)) x x
      (next_held (session_of o s a) (bytes_frame line (bytes_of ds)))
  enters_pairs ds a₁ w p line =
      rw (written ds w, ← length_values ds) (
      enters_written s a x (added_to n (length (values ds)) 0) (stored n.filled a₁ 1 (length (values ds)))
      (values ds) (added_within n g.counts (length (values ds)) 0)
      (stored_lent n.filled a₁ (put_lent n.filled p) 1 (length (values ds)))
      (stored_readings n.filled a₁ 1 (length (values ds)) ∙ put_readings n.filled p) o line refl
      (kept n.filled g.counts.filled p)
      )
    where
      n : Counts
      n = counts_of o

      put_lent : (f : Option Filled) → PutBehind ds f a a₁ → Lent a₁
      put_lent None e = rw e l
      put_lent (Some f) e = record {
        kinds = rw e.0 l.kinds;
        lengths = rw e.1 l.lengths;
        bytes = e.3.size ∙ l.bytes;
        readings = rw e.2 l.readings;
      }

      put_readings : (f : Option Filled) → PutBehind ds f a a₁ → a₁.readings ≡ a.readings
      put_readings None e = rw e
      put_readings (Some f) e = e.2

      kept : (f : Option Filled)
          → FewIf f
          → PutBehind ds f a a₁
          → kept_by (more_if f (length (values ds)) 0) (stored f a₁ 1 (length (values ds))) ≡ add (kept_by f a) (writes (values ds))
      kept None h e = refl
      kept (Some f) h e =
          rw (e.0, e.1, e.2) (kept_write f a h l a₁.bytes (values ds) e.3.below
          (λ k. rw (length_values ds) (e.3.stored (omega (arith, length_values ds, l.bytes)))))

  pub enters_unpaired : (ds : List ℕ)
      → whole_pairs ds ≡ false
      → (line : Line)
      → EnteredAs not_entered a x x (next_held (session_of o s a) (bytes_frame line (bytes_of ds)))
  enters_unpaired ds w line = rw (unwritten ds w) (go line)
    where
      go : (line : Line) → EnteredAs not_entered a x x (next_held (session_of o s a) (bytes_frame line None))
      go Line.Write = enters_bad
      go Line.Respond = enters_bad
      go (Line.RespondAndFill b) = enters_bad

  pub enters_reading : (v : ℕ)
      → EnteredAs (reading_entered o s)
      (with_reading (counts_of o).readings a v) x x
      (next_held (session_of o s a) (reading v))
  enters_reading v = by o g
    where
      stored_reading : (n : ℕ) → Lent (with_reading n a v)
      stored_reading n = record {
        kinds = l.kinds;
        lengths = l.lengths;
        bytes = l.bytes;
        readings = length-set a.readings n v ∙ l.readings;
      }

      by : (p : Option Open)
          → Small p
          → EnteredAs (reading_entered p s)
          (with_reading (counts_of p).readings a v) x x
          (next_held (session_of p s a) (reading v))
      by None h = refused (stored_reading 0)
      by (Some p) h = go (complete p.wants) (ltb p.counts.readings MOST_READINGS) refl refl
        where
          count : length (take p.counts.readings a.readings) ≡ p.counts.readings
          count = length-take-le p.counts.readings a.readings (omega (arith, h.counts.readings, l.readings))

          go : (c d : Bool) → complete p.wants ≡ c → ltb p.counts.readings MOST_READINGS ≡ d
              → EnteredAs (reading_entered (Some p) s)
              (with_reading p.counts.readings a v) x x
              (next_held (session_of (Some p) s a) (reading v))
          go false d f k = rw f (refused (stored_reading p.counts.readings))
          go true false f k = rw (f, count, k) (refused (stored_reading p.counts.readings))
          go true true f k =
              let less : p.counts.readings < MOST_READINGS = ltb-true _ _ k in
              rw (f, count, k) (
              silent (Some (opened p.call Nothing (one_reading p.counts))) s _
              (rw (
                add-one,
                take-suc-set a.readings p.counts.readings v (omega (arith, l.readings)),
                kept_reading p.counts.filled a p.counts.readings v,
              ))
              (busy p.call Nothing (one_reading p.counts)
              (record { filled = h.counts.filled; readings = omega arith }))
              (stored_reading p.counts.readings)
              )

-- the end of a call: with none open it is malformed
module _ (s : SlaveState) (a : Arrays) (x : Text) (l : Lent a) where
  pub enters_run : {o : Open} {x' : Text} {d : SlaveState}
      → complete o.wants ≡ true
      → CalledAs o s a x x' d
      → EnteredAs (entered None d) a x x' (next_held (session_of (Some o) s a) run)
  enters_run {o} {x'} {d} f k =
      rw f (record { same = rw k.slave; text = k.text; small = closed_small; lent = l })

  pub runs_not : EnteredAs not_entered a x x (next_held (session_of None s a) run)
  runs_not = refused l

  pub runs_incomplete : (o : Open)
      → complete o.wants ≡ false
      → EnteredAs not_entered a x x (next_held (session_of (Some o) s a) run)
  runs_incomplete o f = rw f (refused l)
