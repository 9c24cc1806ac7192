-- `finish`: the test `is_begun` decides: inside a line, `finished_line` takes the end of the input for an LF,
-- which `line_feed` enters, and 13 of MOST_TEXT + 13 bytes are left for `end_input`; after whole lines
-- `finished` needs `end_input` alone.
use native.Mathlib.Omega.{arith}
use mathlib.Core.Path.{refl, sym, ◌∙◌}
use Rattle.replay_state.specs.Inner.Rest.{reader_of}
use Rattle.replay_state.proofs.Feeds.{at_begin, finished, finished_line}
use Rattle.replay_feed.proofs.finish.Goals.{then-is_begun, else-is_begun}
use Rattle.replay_feed.proofs.finish.Goals as goal

pub returns-clause-finished : goal.returns-clause-finished
returns-clause-finished c = let r = c.args.reader.now in
    elim c.if-is_begun.branch [
      | then-is_begun w ↦ finished_line (reader_of r) {out₀ = at_begin r.work.text} c.requires.sound refl
          (sym c.is_begun.ensures ∙ w.if-is_begun.true) c.requires.room
          w.line_feed.ensures.same.work.out_length
          w.line_feed.ensures.went (rw w.reader-is at c.end_input.ensures)
      | else-is_begun w ↦ finished (reader_of r) (at_begin r.work.text) refl
          (sym c.is_begun.ensures ∙ w.if-is_begun.false) (omega (arith, c.requires.room))
          (rw w.reader-is at c.end_input.ensures)
    ]
