-- `fetched`: `half` and `saturating_sub` give the bytes left. Some left, it is `byte_fetched`; none left but
-- some remaining, `last_fetched` (proofs/ReadAsync.antt); none remaining, the end of the read is not made here
-- and the words are unchanged.
use mathlib.Core.Path.{◌≡◌, sym, ◌∙◌}
use Prim.Native.Nat.{◌-◌, ◌%◌, ◌^◌}
use lib.ListN.{get_or}
use Rattle.words_steps.proofs.ReadAsync.{byte_fetched, last_fetched}
use Rattle.words_steps.proofs.read_async.fetched.Goals as goal

pub returns-then-left-ne0 : goal.returns-then-left-ne0
returns-then-left-ne0 c = let left : c.saturating_sub-left.result ≡ get_or c.args.words.now 5 0 % 2 ^ 16 - 1 =
    simp (c.saturating_sub-left.ensures, c.half.ensures) in
    simp left
    (byte_fetched c.args.v c.args.words.now c.sized.ensures
    c.requires.0 c.requires.1 (λ e. c.if-left-ne0.true (left ∙ e)))

pub returns : goal.returns
returns c = let left : c.saturating_sub-left.result ≡ get_or c.args.words.now 5 0 % 2 ^ 16 - 1 =
    simp (c.saturating_sub-left.ensures, c.half.ensures) in
    last_fetched c.args.v c.args.words.now c.sized.ensures
    c.requires.0 c.requires.1 (sym left ∙ c.if-left-ne0.false, c.if-words-eq0.false)
