-- A machine that stands inside another: where each point of the one is a point of
-- the other, with the same access, store and state, and a step of it is a step
-- there, what agrees with a behaviour in the one agrees with it in the other.
use Prim.Native.Nat.{ℕ, zero, suc}
use mathlib.Core.List.{List}
use mathlib.Core.Path.{◌≡◌, ◌∙◌}
use lib.ListN.{set}
use Rattle.regs.specs.Program.{Behaviour, ends, reads, writes, marks, stores, asks, keeps, cut}
use Rattle.regs.specs.Steps.{Machine, stored_in}
use Rattle.regs.specs.declared.answers.Answer.{Answer}
use Rattle.regs.specs.declared.access.Next.{Next}
use Rattle.regs.specs.Store.{Store}
use Rattle.regs.proofs.Refine.{Agree, Steps}

module _ {K S S' : Type 0} (next : S → Next) (advance : S → ℕ → S) (store : S → ℕ → Store) (state : S → K)
    (next' : S' → Next) (advance' : S' → ℕ → S') (store' : S' → ℕ → Store) (state' : S' → K) where
  abbrev pub Inner : Machine
  Inner = record { S = S; K = K; next = next; advance = advance; store = store; state = state }

  abbrev pub Outer : Machine
  Outer = record { S = S'; K = K; next = next'; advance = advance'; store = store'; state = state' }

  module _ (f : S → S') (same_next : (s : S) → next' (f s) ≡ next s) (same_advance : (s : S) (v : ℕ) → advance' (f s) v ≡ f (advance s v))
      (same_store : (s : S) (v : ℕ) → store' (f s) v ≡ store s v) (same_state : (s : S) → state' (f s) ≡ state s) where
    steps_lift : (m : ℕ) (s : S) (b c : List ℕ) (z : K) (t : Behaviour K Answer) → Steps Inner m s b c z t → Steps Outer m (f s) b c z t
    steps_lift zero s b c z t g = tt
    steps_lift (suc m) s b c z (ends a) g = ((g.0.0, same_state s ∙ g.0.1), same_next s ∙ g.1)
    steps_lift (suc m) s b c z (reads r h) g = (
      (g.0.0, same_state s ∙ g.0.1),
      (
        same_next s ∙ g.1.0,
        λ v. rw (same_advance s v, same_store s v)
            (steps_lift m (advance s v) (stored_in b (store s v)) c z (h v) (g.1.1 v)),
      ),
    )
    steps_lift (suc m) s b c z (writes r v t) g = (
      (g.0.0, same_state s ∙ g.0.1),
      (
        same_next s ∙ g.1.0,
        rw (same_advance s 0, same_store s 0)
            (steps_lift m (advance s 0) (stored_in b (store s 0)) c z t g.1.1),
      ),
    )
    steps_lift (suc m) s b c z (marks x t) g = (
      (g.0.0, same_state s ∙ g.0.1),
      (
        same_next s ∙ g.1.0,
        rw (same_advance s 0, same_store s 0)
            (steps_lift m (advance s 0) (stored_in b (store s 0)) c z t g.1.1),
      ),
    )
    steps_lift (suc m) s b c z (stores i v t) g = steps_lift (suc m) s b (set c i v) z t g
    steps_lift (suc m) s b c z (asks h) g = steps_lift (suc m) s b c z (h z) g
    steps_lift (suc m) s b c z (keeps z' t) g = steps_lift (suc m) s b c z' t g
    steps_lift (suc m) s b c z cut g = g

    pub lift : {m : ℕ} {s : S} {b c : List ℕ} {z : K} {t : Behaviour K Answer} → Agree Inner m s b c z t → Agree Outer m (f s) b c z t
    lift {m} {s} {b} {c} {z} {t} g = record { steps = steps_lift m s b c z t g.steps }
