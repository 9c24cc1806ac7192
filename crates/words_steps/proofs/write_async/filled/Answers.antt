-- `filled`: with next ≤ len tested, the places left (COUNT less one, by `half` and `saturating_sub`) decide:
-- none is `last_filled`, some with next < len is `place_filled` (proofs/WriteAsync.antt). Past the last byte,
-- or at it with places left, no step is made.
use mathlib.Core.Path.{◌≡◌, sym, ◌∙◌}
use Prim.Native.Nat.{◌-◌, ◌%◌, ◌^◌}
use lib.ListN.{get_or}
use Rattle.words_steps.proofs.WriteAsync.{last_filled, place_filled}
use Rattle.words_steps.proofs.write_async.filled.Goals as goal

pub returns-then-left-eq0 : goal.returns-then-left-eq0
returns-then-left-eq0 c = let left : c.saturating_sub-left.result ≡ get_or c.args.words.now 5 0 % 2 ^ 16 - 1 =
    simp (c.saturating_sub-left.ensures, c.half.ensures) in
    last_filled c.args.v c.args.words.now c.sized.ensures
    c.requires.0 c.requires.1 (c.if-len-next.false, sym left ∙ c.if-left-eq0.true)

pub returns-then-next-len : goal.returns-then-next-len
returns-then-next-len c = let left : c.saturating_sub-left.result ≡ get_or c.args.words.now 5 0 % 2 ^ 16 - 1 =
    simp (c.saturating_sub-left.ensures, c.half.ensures) in
    simp left
    (place_filled c.args.v c.args.words.now c.sized.ensures
    c.requires.0 c.requires.1 (c.if-next-len.true, λ e. c.if-left-eq0.false (left ∙ e)))
