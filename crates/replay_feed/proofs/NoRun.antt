-- A run that is none.
use Prim.Native.Nat.{ℕ}
use mathlib.Core.List.{List}
use mathlib.Core.Path.{◌≡◌}
use Rattle.replay_state.specs.Inner.Rest.{Out, Whole, whole, Sound, Went}
use Rattle.replay_state.specs.declared.State.{State}

-- a run of no readings has stored none
pub stored_none : {s : State} {t ks ls bs rs rs' b l : List ℕ} {w : Whole} {out₀ out : Out} {before after : List ℕ} → rs' ≡ rs
    → Went (whole s t ks ls bs rs' b l) out₀ before w out after → Went (whole s t ks ls bs rs b l) out₀ before w out after
stored_none e d = rw e at d

-- and all is as sound behind it
pub still_sound : {s : State} {t ks ls bs rs rs' b l : List ℕ}
    → rs' ≡ rs
    → Sound (whole s t ks ls bs rs b l)
    → Sound (whole s t ks ls bs rs' b l)
still_sound e g = rw e g
