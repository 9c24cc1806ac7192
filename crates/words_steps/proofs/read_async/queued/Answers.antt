-- `queued`: `half` and `saturating_sub` give the words left and the new QUEUE, and the test left == 0
-- decides between `last_queued` and `word_queued` (proofs/ReadAsync.antt). The step is made in both cases.
use mathlib.Core.Path.{◌≡◌, sym, ◌∙◌}
use Prim.Native.Nat.{◌-◌, ◌%◌, ◌^◌}
use lib.ListN.{get_or}
use Rattle.words_steps.proofs.ReadAsync.{last_queued, word_queued}
use Rattle.words_steps.proofs.read_async.queued.Goals as goal

pub returns-then-left-eq0 : goal.returns-then-left-eq0
returns-then-left-eq0 c = let left : c.saturating_sub-left.result ≡ get_or c.args.words.now 5 0 % 2 ^ 16 - 1 =
    simp (c.saturating_sub-left.ensures, c.half.ensures) in
    simp (c.saturating_sub.ensures, c.half-2.ensures)
    (last_queued c.args.v c.args.words.now c.sized.ensures
    c.requires.0 c.requires.1 (sym left ∙ c.if-left-eq0.true))

pub returns : goal.returns
returns c = let left : c.saturating_sub-left.result ≡ get_or c.args.words.now 5 0 % 2 ^ 16 - 1 =
    simp (c.saturating_sub-left.ensures, c.half.ensures) in
    simp (left, c.saturating_sub.ensures, c.half-2.ensures)
    (word_queued c.args.v c.args.words.now c.sized.ensures
    c.requires.0 c.requires.1 (λ e. c.if-left-eq0.false (left ∙ e)))
