-- `free`: the level decides. Over 16 no step is made; 16 is `none_free`; below 16, which the
-- first two tests leave, and INDEX below LEN is `some_to_fill` (proofs/WriteAsync.antt), and 16 - level does
-- not underflow. With no byte to send no step is made.
use native.Mathlib.Omega.{arith}
use mathlib.Core.Path.{◌≡◌, sym, ◌∙◌}
use Rattle.words_steps.proofs.WriteAsync.{none_free, some_to_fill}
use Rattle.words_steps.proofs.write_async.free.Goals as goal

pub returns-then-level-eq16 : goal.returns-then-level-eq16
returns-then-level-eq16 c = none_free c.args.v c.args.words.now c.sized.ensures
    c.requires.0 c.requires.1 (sym c.level_of-level.ensures ∙ c.if-level-eq16.true)

pub returns-then-words : goal.returns-then-words
returns-then-words c = simp c.level_of-level.ensures
    (some_to_fill c.args.v c.args.words.now c.sized.ensures
    c.requires.0 c.requires.1 (
      let ne : c.level_of-level.result ≡ 16 → ⊥ = c.if-level-eq16.false in omega (arith, ne),
      c.if-words.true,
    ))
