-- A run of a machine comes from one state to another: what is still to run from the later one is the rest of the run from the earlier one.
use Rattle.std.specs.Prelude.{ℕ, ◌/◌, ◌-◌, ◌<◌, ◌≤◌, ◌^◌, List, ◌≡◌, length}
use Rattle.regs.specs.Inner.Machine.{ran}
use Rattle.regs.specs.Steps.{Machine}

module _ (M : Machine) (readings : List ℕ) where
  -- from s₀, with e₀ entries and u₀ readings behind it, the log l₀ and the buffer b₀, to s
  pub record Reaches (s₀ : M.S) (e₀ u₀ : ℕ) (l₀ b₀ : List ℕ) (s : M.S) (e u : ℕ) (l b : List ℕ) : Type 0 where
    pub same : ran M readings (length l₀ / 2 - e) s e u l b ≡ ran M readings (length l₀ / 2 - e₀) s₀ e₀ u₀ l₀ b₀
    pub up : e₀ ≤ e
    pub room : e₀ ≤ length l₀ / 2 → e ≤ length l₀ / 2
    pub long : length l ≡ length l₀
    pub wide : length b ≡ length b₀
    pub fits : length l₀ < 2 ^ 64
