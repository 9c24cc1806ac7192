-- `run`: `moved_text` on `keep_ahead`'s contract and `moved_long` on `digits_ahead`'s (proofs/Moves.antt). For a
-- long line the test `k % 2 == 0` decides by `even_more` and `odd_more` whether the parity is kept or changed.
use mathlib.Core.Path.{refl}
use Rattle.replay_state.specs.declared.Part.TheVariants.{Long}
use Rattle.replay_scan.proofs.Moves.{moved_text, moved_long}
use Rattle.replay_scan.proofs.Skipped.{even_more, odd_more}
use Rattle.replay_scan.proofs.bytes.run.Goals as goal

pub returns-then-k-eq0 : goal.returns-then-k-eq0
returns-then-k-eq0 c =
    let o = c.in-Long.odd in
    rw c.in-Long.is (moved_long (Long o) _ _ _ o o refl (rw c.in-Long.is at c.requires) c.told-text
    c.digits_ahead-k.ensures (even_more o c.digits_ahead-k.result c.if-k-eq0.true) (λ z. refl))

pub returns-in-Text : goal.returns-in-Text
returns-in-Text c =
    moved_text _ _ _ _ _ _ c.in-Text.is (rw c.in-Text.is at c.requires) c.told-text c.keep_ahead-k.ensures

pub returns-else-k-eq0 : goal.returns-else-k-eq0
returns-else-k-eq0 c = moved_long _ _ _ _ _ _ c.in-Long.is c.requires c.told-text c.digits_ahead-k.ensures
    (odd_more c.in-Long.odd c.digits_ahead-k.result c.if-k-eq0.false)
    (λ z. absurd (c.if-k-eq0.false (rw z)))
