-- Bytes taken into a line one after the other.
use Prim.Native.Nat.{ℕ, ◌+◌, ◌<◌, ◌≤◌}
use native.Mathlib.Omega.{arith}
use native.Mathlib.Numerals.{add-one}
use mathlib.Core.Bool.{true, false}
use mathlib.Core.List.{List, [], ◌∷◌, ◌++◌, append_assoc, append-nil}
use mathlib.Core.Path.{◌≡◌, refl, sym, ◌∙◌}
use lib.ListN.{length, take, get_or, set, length-set}
use lib.Seq.{slice, slice-cons, slice_empty, take_all, take-append-le, take-suc-set, length-take-le}
use borrow.Author.Tests.{eq-eqb, ne_eqb}
use Rattle.text_stdin.specs.Handed.{before_lf, after_lf, has_lf, Took}

-- behind i what is taken and what is left make the line that the bytes were to make
pub record Taking (bytes : List ℕ) (held : ℕ) (line₀ chunk : List ℕ) (filled : ℕ) (line : List ℕ) (i n : ℕ) : Type 0 where
  pub text : take (length line) (take n line ++ before_lf (slice i filled chunk)) ≡ take (length line) (take held line₀ ++ before_lf bytes)
  pub rest : after_lf (slice i filled chunk) ≡ after_lf bytes
  pub ended : has_lf (slice i filled chunk) ≡ has_lf bytes
  pub fits : n ≤ length line
  pub order : i ≤ filled
  pub inside : filled ≤ length chunk
  pub size : length line ≡ length line₀

pub taking_none : (chunk line : List ℕ) (at filled held : ℕ)
    → at ≤ filled
    → filled ≤ length chunk
    → held ≤ length line
    → Taking (slice at filled chunk) held line chunk filled line at held
taking_none chunk line at filled held o i f =
    record { text = refl; rest = refl; ended = refl; fits = f; order = o; inside = i; size = refl }

-- a text that fits is not cut
uncut : (line : List ℕ) (n : ℕ) → n ≤ length line → take (length line) (take n line ++ []) ≡ take n line
uncut line n h = rw append-nil (take_all (length line) (take n line) (rw (length-take-le n line h) h))

module _ {bytes line₀ chunk line : List ℕ} {held filled i n : ℕ} (p : Taking bytes held line₀ chunk filled line i n) where
  pub taken_all : filled ≤ i → Took bytes held line₀ chunk line (record { at = filled; filled = filled; held = n; ended = false })
  unfolding before_lf after_lf has_lf
  taken_all h =
      let e : slice i filled chunk ≡ [] = (let s : i ≡ filled = omega (arith, p.order) in rw s (slice_empty filled chunk)) in
      record {
        text = sym (uncut line n p.fits) ∙ (rw e at p.text);
        rest = slice_empty filled chunk ∙ (rw e at p.rest);
        ended = rw e at p.ended;
        fits = p.fits;
        order = omega arith;
        inside = p.inside;
      }

  module _ (h : i < filled) where
    next : slice i filled chunk ≡ get_or chunk i 0 ∷ slice (i + 1) filled chunk
    next = rw (add-one i) (slice-cons i filled chunk 0 h p.inside)

    pub taken_line : get_or chunk i 0 ≡ 10 → Took bytes held line₀ chunk line (record { at = i + 1; filled = filled; held = n; ended = true })
    unfolding before_lf after_lf has_lf
    taken_line e =
        record {
          text = sym (uncut line n p.fits) ∙ (rw (next, eq-eqb (get_or chunk i 0) 10 e) at p.text);
          rest = rw (next, eq-eqb (get_or chunk i 0) 10 e) at p.rest;
          ended = rw (next, eq-eqb (get_or chunk i 0) 10 e) at p.ended;
          fits = p.fits;
          order = omega arith;
          inside = p.inside;
        }

    module _ (e : get_or chunk i 0 ≡ 10 → ⊥) where
      text_on : take (length line) (take n line ++ (get_or chunk i 0 ∷ before_lf (slice (i + 1) filled chunk)))
          ≡ take (length line) (take held line₀ ++ before_lf bytes)
      unfolding before_lf
      text_on = rw (next, ne_eqb (get_or chunk i 0) 10 e) at p.text

      rest_on : after_lf (slice (i + 1) filled chunk) ≡ after_lf bytes
      unfolding after_lf
      rest_on = rw (next, ne_eqb (get_or chunk i 0) 10 e) at p.rest

      ended_on : has_lf (slice (i + 1) filled chunk) ≡ has_lf bytes
      unfolding has_lf
      ended_on = rw (next, ne_eqb (get_or chunk i 0) 10 e) at p.ended

      pub taken_byte : n < length line → Taking bytes held line₀ chunk filled (set line n (get_or chunk i 0)) (i + 1) (n + 1)
      taken_byte l =
          record {
            text = rw (length-set, add-one n, take-suc-set line n (get_or chunk i 0) l, append_assoc) text_on;
            rest = rest_on;
            ended = ended_on;
            fits = rw length-set (omega arith);
            order = omega arith;
            inside = p.inside;
            size = length-set line n (get_or chunk i 0) ∙ p.size;
          }

      -- the line is full
      pub dropped_byte : length line ≤ n → Taking bytes held line₀ chunk filled line (i + 1) n
      dropped_byte l =
          record {
            text = full (before_lf (slice (i + 1) filled chunk))
                ∙ (sym (full (get_or chunk i 0 ∷ before_lf (slice (i + 1) filled chunk))) ∙ text_on);
            rest = rest_on;
            ended = ended_on;
            fits = p.fits;
            order = omega arith;
            inside = p.inside;
            size = p.size;
          }
        where
          full : (more : List ℕ) → take (length line) (take n line ++ more) ≡ take (length line) (take n line)
          full more = take-append-le (length line) (take n line) more (rw (length-take-le n line p.fits) l)
