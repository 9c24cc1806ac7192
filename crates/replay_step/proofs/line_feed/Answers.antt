-- `line_feed`: a case for each part of the line, by laws of the reader: `stays` where it has stopped,
-- `text_lf` on the contracts of `enter_line` and `end_line`, `long_lf` on `end_long`'s. `text_short` puts
-- `text[..n]` in range, `line_short` bounds the line for `enter_line`.
use mathlib.Core.Path.{refl, ◌∙◌}
use borrow.Author.Rules.{rules}
use Rattle.replay_session.specs.Inner.Enter.{arrays_of}
use Rattle.replay_state.proofs.Steps.{ended_same, fits_still, text_lf, long_lf}
use Rattle.replay_step.proofs.line_feed.Goals as goal

pub end_line-reader-requires : goal.end_line-reader-requires
end_line-reader-requires c = fits_still _ c.enter_line-entered.ensures.entered c.requires.room

pub returns-in-Long-clause-same : goal.returns-in-Long-clause-same
returns-in-Long-clause-same c =
    let r = c.args.reader.now in
    let b = ended_same r.state.line r.work.text c.end_long-reader.new.out c.end_long-reader.result _ c.end_long-reader.ensures in record {
      text = refl;
      lists = search rules;
      work =
          record {
            buffer = refl;
            log = refl;
            out = b.reference;
            buffer_length = refl;
            log_length = refl;
            out_length = b.size;
          };
    }

pub returns-in-Text-clause-went : goal.returns-in-Text-clause-went
returns-in-Text-clause-went c = let r = c.args.reader.now in
    let e = c.enter_line-entered.ensures in
    text_lf r.state r.text.now (arrays_of r.lists) r.work.buffer.now r.work.log.now c.requires.sound r.work.text
    _ c.in-Text.is _ _ _
    (e.same_space.buffer_length ∙ c.requires.sound.buffer)
    (e.same_space.log_length ∙ c.requires.sound.log) _ _ _ _
    e.entered c.end_line-reader.ensures

pub returns-in-Long-clause-went : goal.returns-in-Long-clause-went
returns-in-Long-clause-went c = let r = c.args.reader.now in
    long_lf r.state r.text.now (arrays_of r.lists) r.work.buffer.now r.work.log.now c.requires.sound r.work.text
    _ c.in-Long.is _ _ c.end_long-reader.ensures
