-- `offset`: what the look-up lends is the row of the table, and past its end there is none.
use Rattle.std.proofs.Common.{sym, refl, ◌∙◌, ℕ, List, ◌≡◌, length, slice_get, Bor, Option, None, Some}
use Rattle.std.specs.Slice.{IsItemAt}
use Rattle.std.specs.Option.{option_copied}
use Rattle.std.proofs.lemmas.Option.{slice_get_past, slice_get_read}
use Rattle.regs.specs.Registers.{offsets}
use Rattle.regs.proofs.offset.Goals as goal

looked_up : (xs : List ℕ) (i : ℕ) (r : Option (Bor ℕ)) → IsItemAt xs i r → option_copied r ≡ slice_get xs i
looked_up xs i None at = sym (slice_get_past xs i at.3)
looked_up xs i (Some x) at = sym (slice_get_read xs (length xs) i x.now refl at.3.0 at.1)

pub returns : goal.returns
returns c = c.copied.ensures ∙ looked_up offsets c.args.row c.get.result c.get.ensures.lookup
