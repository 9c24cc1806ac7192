-- `line_or_bytes`: where `fresh_line` found a whole line, `ahead_short` bounds it for `enter_line`, and
-- `line_read` is the step; else it is `end_or_bytes`'s contract.
use mathlib.Core.Path.{◌∙◌}
use native.Mathlib.Omega.{arith}
use Rattle.replay_session.specs.Inner.Enter.{arrays_of}
use Rattle.replay_state.proofs.Steps.{fits_still, line_read}
use Rattle.replay_step.proofs.line_or_bytes.Goals as goal

pub end_line-reader-requires : goal.end_line-reader-requires
end_line-reader-requires c = fits_still _ c.enter_line-entered.ensures.entered c.requires.room

pub returns-clause-steps : goal.returns-clause-steps
returns-clause-steps c = let r = c.args.reader.now in
    let e = c.enter_line-entered.ensures in
    let d = line_read r.state r.text.now (arrays_of r.lists) r.work.buffer.now r.work.log.now c.requires.sound r.work.text
    c.in-Some.ensures.2 c.args.chunk.now c.in-Some.n c.in-Some.ensures.0 c.in-Some.ensures.1 _ _ _
    (e.same_space.buffer_length ∙ c.requires.sound.buffer)
    (e.same_space.log_length ∙ c.requires.sound.log) _ _ _ _
    e.entered c.end_line-reader.ensures in (
      d.0,
      d.1,
      omega arith,
      omega (arith, c.in-Some.ensures.0.inside c.in-Some.ensures.1),
    )
