-- What a step on words leaves.
use Rattle.std.specs.Prelude.{ℕ, ◌≡◌, Bool, List, get_or, Option, None, Some}
use Rattle.words_points.specs.Held.{Live, advanced_held}
use Rattle.words.specs.Inner.Words.{transfer_in, held_at}
use Rattle.words_steps.specs.declared.Reached.{Reached}
use Rattle.words_steps.specs.declared.Reached.TheVariants as R

-- the group and the row of a point, as words keep them
abbrev pub group_at : Reached → ℕ
group_at R.Source = 1
group_at R.Room = 2
group_at R.Ask = 2
group_at R.ReadLevel = 2
group_at R.Take = 2
group_at R.Send = 3
group_at R.Empty = 3
group_at R.Capacity = 4
group_at R.Queued = 4
group_at R.Level = 4
group_at R.Fetch = 4
group_at R.Free = 5
group_at R.Fill = 5
group_at R.Full = 5

abbrev pub row_at : Reached → ℕ
row_at R.Source = 0
row_at R.Room = 0
row_at R.Ask = 1
row_at R.ReadLevel = 2
row_at R.Take = 3
row_at R.Send = 0
row_at R.Empty = 1
row_at R.Capacity = 0
row_at R.Queued = 1
row_at R.Level = 2
row_at R.Fetch = 3
row_at R.Free = 0
row_at R.Fill = 1
row_at R.Full = 2

-- the words are at the point
abbrev pub At : List ℕ → Reached → Type 0
At s point = (get_or s 0 0 ≡ group_at point) × (get_or s 1 0 ≡ row_at point)

-- the words stand for the transfer after an access that read v, which has not ended, and are at the point that is told
pub record Made (s : List ℕ) (v : ℕ) (reached : Reached) (e : List ℕ) : Type 0 where
  pub moved : (coded : Bool) (kinds lengths : List ℕ) → held_at e ≡ advanced_held coded kinds lengths (held_at s) v
  pub live : held_at e ≡ Live (transfer_in e)
  pub at : At e reached

-- where the step is not made, the words are the same
abbrev pub InPlace : List ℕ → ℕ → Option Reached → List ℕ → Type 0
InPlace s v None e = e ≡ s
InPlace s v (Some reached) e = Made s v reached e
