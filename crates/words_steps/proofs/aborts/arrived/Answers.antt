-- `arrived`: the two tests, that the level has reached the batch and that n is not 0, are the conditions of
-- `to_fetch` (proofs/NoAbort.antt); `half` and `min` give the numbers that it sets, and n ≤ remaining as
-- n is the smaller. Where a test fails the words are unchanged.
use native.Mathlib.Omega.{arith}
use mathlib.Core.Path.{◌≡◌, ◌∙◌}
use Rattle.words_steps.proofs.NoAbort.{to_fetch}
use Prim.Native.Nat.{◌%◌, ◌^◌, min}
use lib.ListN.{get_or}
use Rattle.words_steps.proofs.aborts.arrived.Goals as goal

pub returns : goal.returns
returns c = let least : c.min-n.result ≡ min (get_or c.args.words.now 5 0 % 2 ^ 16)
    (get_or c.args.words.now 6 0 % 2 ^ 16) =
    simp (c.min-n.ensures, c.half-level.ensures, c.half-remaining.ensures) in
    simp (least, c.half-remaining.ensures)
    (to_fetch c.args.v c.args.words.now c.sized.ensures
    c.requires.0.0 c.requires.0.1
    (c.requires.1, c.requires.2, omega arith, λ e. c.if-n-eq0.false (least ∙ e)))
