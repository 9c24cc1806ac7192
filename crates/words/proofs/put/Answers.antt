-- `put`: `refill` (proofs/Cells.antt) turns the twenty stores into a list of twenty words, as `sized` ensures
-- length 20. `held_written` (proofs/Kept.antt) then requires that each field is read back: `half_kept` and
-- `full_kept` say that a number of 16 or 32 bits is kept by its word.
use mathlib.Core.Path.{◌≡◌, refl}
use borrow.Author.Rules.{rules}
use lib.ListN.{length}
use Rattle.words.specs.Inner.Words.{place_in, who_in}
use Rattle.words.proofs.Cells.{refill}
use Rattle.words.proofs.Kept.{half_kept, full_kept, held_written}
use Rattle.words.proofs.put.Goals as goal

pub returns : goal.returns
unfolding place_in who_in
returns c = let h : length c.args.words.now ≡ 20 = c.sized.ensures in
    rw refill (held_written _ _
    (record {
      place = simp (
        full_kept c.from.ensures (search rules),
        half_kept c.from-2.ensures (search rules),
        half_kept c.from-3.ensures (search rules),
        half_kept c.from-4.ensures (search rules),
        half_kept c.from-5.ensures (search rules),
        half_kept c.from-6.ensures (search rules),
        half_kept c.from-7.ensures (search rules),
        full_kept c.from-8.ensures (search rules),
      ) c.from-place.ensures;
      form = c.form.ensures;
      stop = c.bit.ensures;
      address = half_kept c.from-9.ensures (search rules);
      len = half_kept c.from-10.ensures (search rules);
      at = refl;
      begun = refl;
      reads = refl;
      writes = refl;
    }))
