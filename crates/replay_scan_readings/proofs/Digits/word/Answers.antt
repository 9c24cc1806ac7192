-- `Digits::word`: the table gives 128 for a byte that is no digit, so a sum below 128 means eight digits; `eight`
-- (proofs/Words.antt) then gives the number that they write, and `eight_below` that it is below 2^32, for the
-- cast to u32.
use native.Mathlib.Omega.{arith}
use Rattle.replay_scan_readings.proofs.Words.{eight_below, eight}
use Rattle.replay_scan_readings.proofs.Digits.word.Goals as goal

pub overflow_cast-result : goal.overflow_cast-result
overflow_cast-result c = let l = eight_below _ _ c.pair-a.ensures c.pair-b.ensures
    c.pair-c.ensures c.pair-d.ensures c.if-a-b-lt128.true in
    omega arith

pub returns-then-a-b-lt128 : goal.returns-then-a-b-lt128
returns-then-a-b-lt128 c = eight _ _ c.pair-a.ensures c.pair-b.ensures
    c.pair-c.ensures c.pair-d.ensures c.if-a-b-lt128.true
