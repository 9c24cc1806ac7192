-- A line over several reads: what the bytes of all of them together make.
use Prim.Native.Nat.{ℕ, zero, suc, ◌+◌, ◌≤◌}
use native.Mathlib.Omega.{arith}
use native.Mathlib.Numerals.{add-one}
use mathlib.Core.Bool.{Bool, true, false, not, true≢false}
use mathlib.Core.List.{List, [], ◌∷◌, ◌++◌, append_assoc, append-nil}
use mathlib.Core.Path.{◌≡◌, refl, sym, ap, ◌∙◌}
use lib.ListN.{length, take}
use lib.Seq.{slice, length-slice}
use Rattle.std.specs.Prelude.{Option, is_some}
use Rattle.text_stdin.specs.Reads.{Counted, Brought, Reads, none, bytes, answered_0, failed}
use Rattle.text_stdin.specs.Handed.{before_lf, unread, counted, Took, HandedOut, MOST_READS, stands, is_line, held_if}
use Rattle.text_stdin.specs.declared.Source.{Source}
use Rattle.text_stdin.specs.declared.Part.{Part}
use Rattle.text_stdin.specs.declared.reads.End.{End}
use Rattle.text_stdin.specs.declared.reads.End.TheVariants.{Open, Ended, Failed, OutOfTurns}
use Rattle.text_stdin.specs.declared.reads.Got.{Got}
use Rattle.text_stdin.specs.contracts.reads.EndPartialEq.TheImpl as equality
use Rattle.text_stdin.proofs.Joined.{joined}

-- ---- reads

-- one more read
pub more_reads : {from : End} {n : ℕ} {came chunk : List ℕ} {r : Got}
    → Reads from n came Open
    → Brought chunk r
    → Reads from (suc n) (came ++ slice 0 r.count chunk) r.end
more_reads {from} {n} {came} {chunk} {r} p b = by_end r.count r.end b.inside b.counted
  where
    by_end : (count : ℕ) (e : End) → count ≤ length chunk → Counted e count → Reads from (suc n) (came ++ slice 0 count chunk) e
    by_end count Open i h = bytes (slice 0 count chunk) p (rw (length-slice 0 count chunk i) (omega arith))
    by_end count Ended i h = rw (h, append-nil) (answered_0 p)
    by_end count Failed i h = rw (h, append-nil) (failed p)
    by_end count OutOfTurns i h = absurd h

-- an input that is not other than open
pub open_only : (e : End) → not ((equality.eq-value).it e Open) ≡ false → e ≡ Open
open_only Open h = refl
open_only Ended h = absurd (true≢false h)
open_only Failed h = absurd (true≢false h)
open_only OutOfTurns h = absurd (true≢false h)

-- some bytes came behind those that were unread, by so many reads
pub record Reading (from : End) (bytes chunk line : List ℕ) (p : Part) (e : End) (count : ℕ) : Type 0 where
  pub came : List ℕ
  pub reads : Reads from count came e
  pub took : Took (bytes ++ came) 0 [] chunk line p

pub reading_none : {from : End} {bytes line₀ chunk line : List ℕ} {p : Part}
    → Took bytes 0 line₀ chunk line p
    → Reading from bytes chunk line p from 0
reading_none t =
    record {
      came = [];
      reads = none;
      took = rw append-nil (record {
        text = t.text;
        rest = t.rest;
        ended = t.ended;
        fits = t.fits;
        order = t.order;
        inside = t.inside;
      });
    }

-- what is cut anyway may be cut before
cut_once : (n : ℕ) (x y : List ℕ) → take n (take n x ++ y) ≡ take n (x ++ y)
cut_once zero x y = refl
cut_once (suc n) [] y = refl
cut_once (suc n) (c ∷ x) y = ap (λ (l : List ℕ). c ∷ l) (cut_once n x y)

-- one more read
pub reading_more : {from : End} {bytes chunk line chunk' line' : List ℕ} {p p' : Part} {e : End} {n : ℕ} {r : Got}
    → Reading from bytes chunk line p e n
    → p.ended ≡ false
    → e ≡ Open
    → Brought chunk' r
    → length line' ≡ length line
    → Took (slice 0 r.count chunk') p.held line chunk' line' p'
    → Reading from bytes chunk' line' p' r.end (n + 1)
reading_more {from} {bytes} {line = line} {chunk' = chunk'} {line' = line'} {p = p} {e = e} {n = n} {r = r} g f o b z t =
    let a = bytes ++ g.came in
    let b' = slice 0 r.count chunk' in
    let j = joined a b' (sym g.took.ended ∙ f) in
    record {
      came = g.came ++ b';
      reads = rw add-one (more_reads (rw o at g.reads) b);
      took = rw (← append_assoc) (record {
        text = t.text ∙ (rw (g.took.text, z, cut_once (length line) (before_lf a) (before_lf b'), j.before));
        rest = t.rest ∙ sym j.after;
        ended = t.ended ∙ sym j.has;
        fits = t.fits;
        order = t.order;
        inside = t.inside;
      });
    }

some_held : (some : Bool) (n : ℕ) → some ≡ is_some (held_if some n)
some_held true n = refl
some_held false n = refl

pub handed : {from : Source} {chunk₀ chunk line : List ℕ} {p : Part} {e end : End} {n lines : ℕ} {some : Bool} {held : Option ℕ}
    → Reading from.end (unread from chunk₀) chunk line p e n
    → (p.ended ≡ false → e ≡ Open → n ≡ MOST_READS)
    → some ≡ is_line p.ended e p.held
    → held ≡ held_if some p.held
    → lines ≡ counted from.lines some
    → end ≡ stands p.ended e
    → HandedOut from chunk₀ chunk line
    (record { source = record { at = p.at; filled = p.filled; lines = lines; end = end }; filled = p.held; held = held })
handed {from} {p = p} {e = e} {n = k} {some = some} g z s h n o =
    record {
      count = k;
      came = g.came;
      last = e;
      reads = g.reads;
      text = g.took.text;
      rest = g.took.rest;
      end = rw (← g.took.ended) o;
      turns = λ f o. z (g.took.ended ∙ f) o;
      held = rw (← g.took.ended, ← s) h;
      number = n ∙ ap (counted from.lines) (some_held some p.held ∙ ap is_some (sym h));
      fits = g.took.fits;
      within = record { order = g.took.order; inside = g.took.inside };
    }
