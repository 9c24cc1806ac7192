-- What the counts and the lent slices keep after one more operation.
use Prim.Native.Nat.{ℕ, ◌+◌, ◌<◌, ◌≤◌}
use native.Mathlib.Omega.{arith}
use native.Mathlib.Numerals.{add-one}
use native.Mathlib.Nat.{add-zero}
use mathlib.Core.Bool.{Bool, true, false, ◌||◌}
use mathlib.Core.List.{List, [], ◌∷◌, ◌++◌}
use mathlib.Core.Path.{◌≡◌, refl, sym, ◌∙◌}
use lib.Dec.{ltb}
use lib.ListN.{length, take, set, length-append, length-set}
use lib.Seq.{take-suc-set, length-take-le}
use borrow.Author.Tests.{ltb-false}
use Rattle.regs.proofs.Tests.{false_true}
use Rattle.std.specs.Prelude.{if◌then◌else◌, Option, Some, None}
use Rattle.master.specs.Operations.{writes, reads}
use Rattle.replay_calls.specs.Calls.{listed}
use Rattle.replay_session.specs.Inner.Bounded.{over, add}
use Rattle.replay_session.specs.Inner.Enter.{Arrays, arrays, kept_by, kept_of, Few, FewIf, Within, Lent, over_of}
use Rattle.replay_session.specs.Inner.Enter.{too_many, more, more_if, added_to, stored, with_reading}
use Rattle.replay_session.specs.declared.Counts.{Counts}
use Rattle.replay_session.specs.declared.Filled.{Filled}
use Rattle.replay_session.proofs.Bound.{add_wide}

-- none of three tests
none_of : (a b c : Bool) → a || (b || c) ≡ false → (a ≡ false) × (b ≡ false) × (c ≡ false)
none_of true b c e = absurd (false_true (sym e))
none_of false true c e = absurd (false_true (sym e))
none_of false false true e = absurd (false_true (sym e))
none_of false false false e = (refl, refl, refl)

more_few : (f : Filled) → Few f → (k m : ℕ) → FewIf (more f k m)
unfolding more
more_few f h k m = go (too_many f k m) refl
  where
    go : (t : Bool)
        → too_many f k m ≡ t
        → FewIf (if t then None else Some (record { ops = f.ops + 1; bytes = f.bytes + k; reads = f.reads + m }))
    go true e = tt
    go false e =
        let g = none_of (ltb 64 (f.ops + 1)) (ltb 4096 (f.bytes + k)) (ltb 4096 (f.reads + m)) e in
        record {
          ops = ltb-false 64 (f.ops + 1) g.0;
          bytes = ltb-false 4096 (f.bytes + k) g.1;
          reads = ltb-false 4096 (f.reads + m) g.2;
        }

module _ (n : Counts) (h : Within n) where
  pub added_within : (k m : ℕ) → Within (added_to n k m)
  added_within k m = record { filled = go n.filled h.filled; readings = h.readings }
    where
      go : (f : Option Filled) → FewIf f → FewIf (more_if f k m)
      go None g = tt
      go (Some f) g = more_few f g k m

  pub over_within : Within (over_of n)
  over_within = record { filled = tt; readings = h.readings }

pub stored_lent : (f : Option Filled) (a : Arrays) → Lent a → (kind len : ℕ) → Lent (stored f a kind len)
stored_lent None a l kind len = l
stored_lent (Some f) a l kind len =
    record {
      kinds = length-set a.kinds f.ops kind ∙ l.kinds;
      lengths = length-set a.lengths f.ops len ∙ l.lengths;
      bytes = l.bytes;
      readings = l.readings;
    }

-- the readings are not touched
pub stored_readings : (f : Option Filled) (a : Arrays) (kind len : ℕ) → (stored f a kind len).readings ≡ a.readings
stored_readings None a kind len = refl
stored_readings (Some f) a kind len = refl

module _ (f : Filled) (a : Arrays) (h : Few f) (l : Lent a) where
  kinds_kept : length (take f.ops a.kinds) ≡ f.ops
  kinds_kept = length-take-le f.ops a.kinds (omega (arith, h.ops, l.kinds))

  bytes_kept : length (take f.bytes a.bytes) ≡ f.bytes
  bytes_kept = length-take-le f.bytes a.bytes (omega (arith, h.bytes, l.bytes))

  one_kind : length (take f.ops a.kinds) ≡ f.ops → (kind : ℕ) → length (take f.ops a.kinds ++ (kind ∷ [])) ≡ f.ops + 1
  one_kind e kind = length-append (take f.ops a.kinds) (kind ∷ []) ∙ rw e

  kind_stored : ltb 64 (f.ops + 1) ≡ false
      → (kind : ℕ)
      → take (f.ops + 1) (set a.kinds f.ops kind) ≡ take f.ops a.kinds ++ (kind ∷ [])
  kind_stored e kind = rw add-one (take-suc-set a.kinds f.ops kind (omega (arith, ltb-false 64 (f.ops + 1) e, l.kinds)))

  length_stored : ltb 64 (f.ops + 1) ≡ false
      → (len : ℕ)
      → take (f.ops + 1) (set a.lengths f.ops len) ≡ take f.ops a.lengths ++ (len ∷ [])
  length_stored e len = rw add-one (take-suc-set a.lengths f.ops len (omega (arith, ltb-false 64 (f.ops + 1) e, l.lengths)))

  -- a write of bytes that were put behind those of the call, as far as there was room
  pub kept_write : (bytes' bs : List ℕ)
      → take f.bytes bytes' ≡ take f.bytes a.bytes
      → (f.bytes + length bs ≤ 4096 → take (f.bytes + length bs) bytes' ≡ take f.bytes a.bytes ++ bs)
      → kept_by (more f (length bs) 0) (stored (Some f) (arrays a.kinds a.lengths bytes' a.readings) 1 (length bs))
      ≡ add (kept_by (Some f) a) (writes bs)
  unfolding more
  kept_write bytes' bs below put = go (too_many f (length bs) 0) refl
    where
      joined : length (take f.bytes a.bytes ++ bs) ≡ f.bytes + length bs
      joined = length-append (take f.bytes a.bytes) bs ∙ rw bytes_kept

      same : over (listed (take f.ops a.kinds ++ (1 ∷ [])) (take f.ops a.lengths ++ (length bs ∷ []))
          (take f.bytes a.bytes ++ bs) f.reads)
          ≡ too_many f (length bs) 0
      same = rw (one_kind kinds_kept 1, joined, add-zero)

      go : (t : Bool) → too_many f (length bs) 0 ≡ t
          → kept_by (more f (length bs) 0) (stored (Some f) (arrays a.kinds a.lengths bytes' a.readings) 1 (length bs))
          ≡ add (kept_by (Some f) a) (writes bs)
      go true et = rw (et, same ∙ et)
      go false et =
          let no = none_of (ltb 64 (f.ops + 1)) (ltb 4096 (f.bytes + length bs)) (ltb 4096 (f.reads + 0)) et in
          rw (
            et,
            same ∙ et,
            kind_stored no.0 1,
            length_stored no.0 (length bs),
            put (ltb-false 4096 (f.bytes + length bs) no.1),
            add-zero,
          )

  -- a read of m bytes
  pub kept_read : (m : ℕ) → kept_by (more f 0 m) (stored (Some f) a 0 m) ≡ add (kept_by (Some f) a) (reads m)
  unfolding more
  kept_read m = go (too_many f 0 m) refl
    where
      same : over (listed (take f.ops a.kinds ++ (0 ∷ [])) (take f.ops a.lengths ++ (m ∷ []))
          (take f.bytes a.bytes) (f.reads + m))
          ≡ too_many f 0 m
      same = rw (one_kind kinds_kept 0, bytes_kept, add-zero)

      go : (t : Bool)
          → too_many f 0 m ≡ t
          → kept_by (more f 0 m) (stored (Some f) a 0 m) ≡ add (kept_by (Some f) a) (reads m)
      go true et = rw (et, same ∙ et)
      go false et =
          let no = none_of (ltb 64 (f.ops + 1)) (ltb 4096 (f.bytes + 0)) (ltb 4096 (f.reads + m)) et in
          rw (et, same ∙ et, kind_stored no.0 0, length_stored no.0 m, add-zero)

-- a read, whether or not the operations before it are within the limits
pub kept_read_if : (f : Option Filled) (a : Arrays) → FewIf f → Lent a → (m : ℕ)
    → kept_by (more_if f 0 m) (stored f a 0 m) ≡ add (kept_by f a) (reads m)
kept_read_if None a h l m = refl
kept_read_if (Some f) a h l m = kept_read f a h l m

-- a reading is kept beside the operations
pub kept_reading : (f : Option Filled) (a : Arrays) (n v : ℕ) → kept_by f (with_reading n a v) ≡ kept_by f a
kept_reading None a n v = refl
kept_reading (Some f) a n v = refl

-- a write of more bytes than any call may have
pub kept_wide : (n : Counts) (a : Arrays) (bs : List ℕ) → 4096 < length bs → kept_of (over_of n) a ≡ add (kept_of n a) (writes bs)
kept_wide n a bs h = sym (add_wide (kept_of n a) bs h)
