-- `celadonsaw_advance_pec`: the access that was made feeds the code as the definition says (`made_feeds`), and the words
-- are moved by `by_points`.
use Rattle.export_steps.proofs.Live.{made_feeds}
use Rattle.export_steps.proofs.celadonsaw_advance_pec.Goals as goal

pub returns-clause-moves : goal.returns-clause-moves
returns-clause-moves c = (
  c.by_points.ensures,
  made_feeds c.args.write.now c.args.words.now _ _ _ _ _ c.celadonsaw_next_access_pec-made.ensures c.half-address.ensures
      c.feed.ensures,
)
