-- A line of the input: the bytes up to the first LF, and what is left
-- behind it. What is handed out of a chunk, and of what was read behind it.
use Rattle.std.specs.Prelude.{ℕ, ◌+◌, ◌-◌, ◌^◌, ◌≤◌, Bool, true, false, ◌&&◌, ◌||◌, List, [], ◌∷◌, ◌++◌, ◌≡◌, eqb, ltb, length, take, if◌then◌else◌, Option, Some, None, is_some}
use Rattle.std.proofs.Math.Seq.{slice}
use Rattle.text_hex.specs.Text.{LF, last_line}
use Rattle.text_stdin.specs.declared.Source.{Source}
use Rattle.text_stdin.specs.declared.Part.{Part}
use Rattle.text_stdin.specs.declared.Line.{Line}
use Rattle.text_stdin.specs.declared.reads.End.{End}
use Rattle.text_stdin.specs.declared.reads.End.TheVariants.{Open, Ended, Failed, OutOfTurns}
use Rattle.text_stdin.specs.Reads.{is_ended_at, Reads}

-- the bytes up to the first LF, or all
unfoldable pub before_lf : List ℕ → List ℕ
before_lf [] = []
before_lf (c ∷ cs) = if eqb c LF then [] else (c ∷ before_lf cs)

-- the bytes behind the first LF, or none
unfoldable pub after_lf : List ℕ → List ℕ
after_lf [] = []
after_lf (c ∷ cs) = if eqb c LF then cs else after_lf cs

unfoldable pub has_lf : List ℕ → Bool
has_lf [] = false
has_lf (c ∷ cs) = if eqb c LF then true else has_lf cs

-- what was read and not handed out
abbrev pub unread : Source → List ℕ → List ℕ
unread s chunk = slice s.at s.filled chunk

pub record Within (s : Source) (chunk : List ℕ) : Type 0 where
  pub order : s.at ≤ s.filled
  pub inside : s.filled ≤ length chunk

-- a line more, as far as the number fits a u64
abbrev pub counted : ℕ → Bool → ℕ
counted n some = if some && ltb n (2 ^ 64 - 1) then n + 1 else n

-- of the bytes those up to LF stand in the line behind the `held` before them, cut at its end, and those behind it are left
pub record Took (bytes : List ℕ) (held : ℕ) (line₀ chunk line : List ℕ) (r : Part) : Type 0 where
  pub text : take r.held line ≡ take (length line) (take held line₀ ++ before_lf bytes)
  pub rest : slice r.at r.filled chunk ≡ after_lf bytes
  pub ended : r.ended ≡ has_lf bytes
  pub fits : r.held ≤ length line
  pub order : r.at ≤ r.filled
  pub inside : r.filled ≤ length chunk

-- so many reads may be made for a line
abbrev pub MOST_READS : ℕ
MOST_READS = 2 ^ 64 - 1

-- how the input stands behind a line, found or not: it is open where none was found only after all reads
abbrev pub stands : Bool → End → End
stands true e = e
stands false Open = OutOfTurns
stands false Ended = Ended
stands false Failed = Failed
stands false OutOfTurns = OutOfTurns

-- there is a line where LF ended it, or the input did and the line has any bytes
abbrev pub is_line : Bool → End → ℕ → Bool
is_line ended e held = ended || (is_ended_at e && ltb 0 held)

-- how many bytes the line has, where there is one
abbrev pub held_if : Bool → ℕ → Option ℕ
held_if some n = if some then Some n else None

-- with the bytes that the reads brought behind the unread ones: the line has those up to LF, cut at its end, and those
-- behind it are left. Without LF, the input has ended (a read answered 0), a read has failed, or all reads were made.
pub record HandedOut (from : Source) (chunk₀ chunk line : List ℕ) (r : Line) : Type 0 where
  pub count : ℕ
  pub came : List ℕ
  pub last : End
  pub reads : Reads from.end count came last
  pub text : take r.filled line ≡ take (length line) (before_lf (unread from chunk₀ ++ came))
  pub rest : unread r.source chunk ≡ after_lf (unread from chunk₀ ++ came)
  pub end : r.source.end ≡ stands (has_lf (unread from chunk₀ ++ came)) last
  pub turns : has_lf (unread from chunk₀ ++ came) ≡ false → last ≡ Open → count ≡ MOST_READS
  pub held : r.held ≡ held_if (is_line (has_lf (unread from chunk₀ ++ came)) last r.filled) r.filled
  pub number : r.source.lines ≡ counted from.lines (is_some r.held)
  pub fits : r.filled ≤ length line
  pub within : Within r.source chunk

-- the line that an input ends in without LF: a line where the input has ended, and none where the rest of it did not come
abbrev pub last_by : End → List ℕ → List (List ℕ)
last_by e begun = if is_ended_at e then last_line begun else []

-- the lines of the bytes that came up to an end, where `begun` has come already of the first of them
unfoldable pub lines_to : End → List ℕ → List ℕ → List (List ℕ)
lines_to e begun [] = last_by e begun
lines_to e begun (c ∷ cs) = if eqb c LF then begun ∷ lines_to e [] cs else lines_to e (begun ++ (c ∷ [])) cs
