-- A watched machine does what the watched program does, over any machine and watcher. It rests on the agreement of the
-- machine and the program (`Agree`), and on a buffer that has no place where the watcher has none.
use Rattle.std.specs.Prelude.{None, Some}
use Prim.Native.Nat.{ℕ, zero, suc, ◌≤◌}
use native.Mathlib.Omega.{arith}
use mathlib.Core.Bool.{false}
use mathlib.Core.List.{List, [], ◌∷◌}
use mathlib.Core.Path.{◌≡◌, refl, sym, ap}
use lib.ListN.{length, set, length-set}
use Rattle.regs.specs.Program.{Behaviour, ends, reads, writes, marks, stores, asks, keeps, cut}
use Rattle.regs.specs.Steps.{Machine, stored_in}
use Rattle.regs.specs.Watched.{Watcher, watched_from}
use Rattle.regs.specs.Inner.Watched.{placed, watched_machine}
use Rattle.regs.specs.declared.access.Entry.{Entry}
use Rattle.regs.specs.Store.{Store}
use Rattle.regs.specs.declared.answers.Answer.{Answer}
use Rattle.regs.proofs.Refine.{Agree, Steps}
use Rattle.regs.proofs.Tests.{by_test}

-- past its end a list has no place
pub set_beyond : (b : List ℕ) (i v : ℕ) → length b ≤ i → set b i v ≡ b
set_beyond [] i v h = refl
set_beyond (x ∷ b) zero v h = absurd (omega arith)
set_beyond (x ∷ b) (suc i) v h = ap (λ (l : List ℕ). x ∷ l) (set_beyond b i v (omega arith))

module _ (O : Watcher) (M : Machine) where
  -- where the watcher has no place, a buffer of this length has none
  abbrev pub Placed : ℕ → Type 0
  Placed n = (i : ℕ) → O.has_place i ≡ false → n ≤ i

  placed_same : (b : List ℕ) (s : Store) → Placed (length b) → stored_in b (placed O s) ≡ stored_in b s
  placed_same b None h = refl
  placed_same b (Some (i, v)) h = by_test (O.has_place i) (λ e. rw e refl) (λ e. rw e (sym (set_beyond b i v (h i e))))

  stored_length : (b : List ℕ) (s : Store) → length (stored_in b s) ≡ length b
  stored_length b None = refl
  stored_length b (Some (i, v)) = length-set b i v

  steps_watched : (m : ℕ) (log : List Entry) (s : M.S) (b c : List ℕ) (z : M.K) (t : Behaviour M.K Answer)
      → Placed (length b)
      → Placed (length c)
      → Steps M m s b c z t
      → Steps (watched_machine O M) m (log, s) b c z (watched_from O ends log t)
  unfolding watched_from
  steps_watched zero log s b c z t h g e = tt
  steps_watched (suc m) log s b c z (ends a) h g e = (e.0, rw e.1)
  steps_watched (suc m) log s b c z (reads r f) h g e = (
    e.0,
    (
      rw e.1.0,
      λ v. rw (e.1.0, placed_same b (M.store s v) h)
          (steps_watched m _ (M.advance s v) _ c z (f v) (rw (stored_length b (M.store s v)) h) g (e.1.1 v)),
    ),
  )
  steps_watched (suc m) log s b c z (writes r x t) h g e = (
    e.0,
    (
      rw e.1.0,
      rw (e.1.0, placed_same b (M.store s 0) h)
          (steps_watched m _ (M.advance s 0) _ c z t (rw (stored_length b (M.store s 0)) h) g e.1.1),
    ),
  )
  steps_watched (suc m) log s b c z (marks x t) h g e = (
    e.0,
    (
      rw e.1.0,
      rw (e.1.0, placed_same b (M.store s 0) h)
          (steps_watched m _ (M.advance s 0) _ c z t (rw (stored_length b (M.store s 0)) h) g e.1.1),
    ),
  )
  steps_watched (suc m) log s b c z (stores i v t) h g e =
      by_test (O.has_place i)
      (λ q. rw q (steps_watched (suc m) log s b (set c i v) z t h (rw (length-set c i v) g) e))
      (λ q. rw q (steps_watched (suc m) log s b c z t h g (rw (set_beyond c i v (g i q)) at e)))
  steps_watched (suc m) log s b c z (asks f) h g e = steps_watched (suc m) log s b c z (f z) h g e
  steps_watched (suc m) log s b c z (keeps z' t) h g e = steps_watched (suc m) log s b c z' t h g e
  steps_watched (suc m) log s b c z cut h g e = absurd e

  pub watched_agrees : (m : ℕ) (log : List Entry) {s : M.S} {b c : List ℕ} {z : M.K} {t : Behaviour M.K Answer}
      → Placed (length b)
      → Placed (length c)
      → Agree M m s b c z t
      → Agree (watched_machine O M) m (log, s) b c z (watched_from O ends log t)
  watched_agrees m log {s} {b} {c} {z} {t} h g e = record { steps = steps_watched m log s b c z t h g e.steps }
