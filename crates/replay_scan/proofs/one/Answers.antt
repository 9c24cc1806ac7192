-- `one`: a case for each part of the line, by laws of the reader: `stays` where it has stopped, `text_byte`
-- on `keep`'s contract, `long_byte` on `skip`'s; the last two need that the byte is no LF.
use Rattle.replay_session.specs.Inner.Enter.{arrays_of}
use Rattle.replay_state.proofs.Steps.{text_byte, long_byte}
use Rattle.replay_scan.proofs.one.Goals as goal

pub returns-in-Text-clause-went : goal.returns-in-Text-clause-went
returns-in-Text-clause-went c = let r = c.args.reader.now in
    λ g. text_byte r.state r.text.now (arrays_of r.lists) r.work.buffer.now r.work.log.now g r.work.text
    _ c.args.x c.in-Text.is c.requires.no_end _ _ _ c.keep-reader.ensures

pub returns-in-Long-clause-went : goal.returns-in-Long-clause-went
returns-in-Long-clause-went c = let r = c.args.reader.now in
    λ g. long_byte r.state r.text.now (arrays_of r.lists) r.work.buffer.now r.work.log.now g r.work.text
    _ c.args.x c.in-Long.is c.requires.no_end _ _ c.skip-reader.ensures

pub returns-in-Text-clause-beside : goal.returns-in-Text-clause-beside
returns-in-Text-clause-beside c = let r = c.args.reader.now in
    λ lists buffer log g. text_byte r.state r.text.now lists buffer log g r.work.text
    _ c.args.x c.in-Text.is c.requires.no_end _ _ _ c.keep-reader.ensures

pub returns-in-Long-clause-beside : goal.returns-in-Long-clause-beside
returns-in-Long-clause-beside c = let r = c.args.reader.now in
    λ lists buffer log g. long_byte r.state r.text.now lists buffer log g r.work.text
    _ c.args.x c.in-Long.is c.requires.no_end _ _ c.skip-reader.ensures
