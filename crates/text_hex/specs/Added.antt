-- Text put behind what stands in a lent buffer already.
use Rattle.std.specs.Prelude.{ℕ, ◌+◌, ◌≤◌, List, ◌≡◌, length}
use Rattle.text_hex.specs.Appended.{Appended}
use Rattle.text_hex.specs.declared.text.Text.{Text}

-- the buffer has room for n bytes more
abbrev pub Room : ℕ → Text → Type 0
Room n t = t.at + n ≤ length t.out.now

-- the text, of at most so many bytes, stands behind what stood there before, in the same buffer
pub record Added (before : Text) (text : List ℕ) (most : ℕ) (after : Text) : Type 0 where
  pub same_reference : after.out.ghost_name ≡ before.out.ghost_name
  pub size : length after.out.now ≡ length before.out.now
  pub appended : Appended before.out.now before.at text most after.out.now after.at
