-- The lines that are handed out are the replay's: an input's lines are the bytes up to its first LF, and the lines
-- of what is left behind that.
use Prim.Native.Nat.{ℕ}
use mathlib.Core.Bool.{Bool, true, false}
use mathlib.Core.List.{List, [], ◌∷◌, ◌++◌, append_assoc, append-nil}
use mathlib.Core.Path.{◌≡◌, refl, ◌∙◌}
use lib.Dec.{eqb}
use Rattle.std.specs.Prelude.{if◌then◌else◌}
use Rattle.text_hex.specs.Text.{LF, lines_after, lines}
use Rattle.text_stdin.specs.Handed.{before_lf, after_lf, has_lf, last_by, lines_to}
use Rattle.text_stdin.specs.declared.reads.End.{End}
use Rattle.text_stdin.specs.declared.reads.End.TheVariants.{Ended}

-- the lines of an input behind what has begun, by its first LF
abbrev by_first : End → List ℕ → List ℕ → List (List ℕ)
by_first e begun input =
    if has_lf input then (begun ++ before_lf input) ∷ lines_to e [] (after_lf input) else last_by e (begun ++ before_lf input)

first : (t : Bool) (e : End) (c : ℕ) (begun cs : List ℕ)
    → eqb c LF ≡ t
    → lines_to e (begun ++ (c ∷ [])) cs ≡ by_first e (begun ++ (c ∷ [])) cs
    → lines_to e begun (c ∷ cs) ≡ by_first e begun (c ∷ cs)
unfolding lines_to before_lf after_lf has_lf
first true e c begun cs h k = rw (h, append-nil)
first false e c begun cs h k = rw h (k ∙ rw append_assoc)

one_by_one : (e : End) (begun input : List ℕ) → lines_to e begun input ≡ by_first e begun input
unfolding lines_to before_lf after_lf has_lf
one_by_one e begun [] = rw append-nil
one_by_one e begun (c ∷ cs) = first (eqb c LF) e c begun cs refl (one_by_one e (begun ++ (c ∷ [])) cs)

pub lines_are : (e : End) (input : List ℕ)
    → lines_to e [] input ≡ (if has_lf input then before_lf input ∷ lines_to e [] (after_lf input) else last_by e (before_lf input))
lines_are e input = one_by_one e [] input

-- ---- where the input has ended they are all its lines

begins : (t : Bool) (c : ℕ) (begun cs : List ℕ)
    → eqb c LF ≡ t
    → lines_to Ended [] cs ≡ lines cs
    → lines_to Ended (begun ++ (c ∷ [])) cs ≡ lines_after (begun ++ (c ∷ [])) cs
    → lines_to Ended begun (c ∷ cs) ≡ lines_after begun (c ∷ cs)
unfolding lines_to lines_after
begins true c begun cs h k l = rw (h, k)
begins false c begun cs h k l = rw h l

all_after : (begun input : List ℕ) → lines_to Ended begun input ≡ lines_after begun input
unfolding lines_to lines_after
all_after begun [] = refl
all_after begun (c ∷ cs) = begins (eqb c LF) c begun cs refl (all_after [] cs) (all_after (begun ++ (c ∷ [])) cs)

pub all_lines : (input : List ℕ) → lines_to Ended [] input ≡ lines input
all_lines input = all_after [] input
