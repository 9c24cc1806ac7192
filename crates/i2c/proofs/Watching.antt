-- A watched machine does what the watched program does, from any buffer. What the watcher has no place for stays as it was,
-- so a watched buffer is the unwatched one over the first one.
use Prim.Native.Nat.{ℕ, zero, suc}
use mathlib.Core.Bool.{Bool, true, false}
use mathlib.Core.List.{List, [], ◌∷◌}
use mathlib.Core.Path.{◌≡◌, refl, ap}
use lib.ListN.{set}
use Rattle.regs.specs.Program.{Behaviour, ends, reads, writes, marks, stores, asks, keeps, cut}
use Rattle.std.specs.Prelude.{if◌then◌else◌, None, Some}
use Rattle.regs.specs.Steps.{Machine, stored_in}
use Rattle.regs.specs.Watched.{Watcher, watched_from}
use Rattle.regs.specs.Inner.Watched.{placed, watched_machine}
use Rattle.regs.specs.declared.access.Entry.{Entry}
use Rattle.regs.specs.Store.{Store}
use Rattle.regs.specs.declared.answers.Answer.{Answer}
use Rattle.regs.proofs.Refine.{Agree, Steps}
use Rattle.regs.proofs.Tests.{by_test}

-- b where there is a place, d elsewhere
abbrev over : (ℕ → Bool) → List ℕ → List ℕ → List ℕ
over has [] d = []
over has (x ∷ b) [] = []
over has (x ∷ b) (y ∷ d) = (if has 0 then x else y) ∷ over (λ i. has (suc i)) b d

over_itself : (has : ℕ → Bool) (b : List ℕ) → over has b b ≡ b
over_itself has [] = refl
over_itself has (x ∷ b) = by_test (has 0)
    (λ q. rw q (ap (λ (l : List ℕ). x ∷ l) (over_itself (λ i. has (suc i)) b)))
    (λ q. rw q (ap (λ (l : List ℕ). x ∷ l) (over_itself (λ i. has (suc i)) b)))

-- what is stored where there is a place, and where there is none
over_set : (has : ℕ → Bool) (b d : List ℕ) (i v : ℕ) → has i ≡ true → over has (set b i v) d ≡ set (over has b d) i v
over_set has [] d i v h = refl
over_set has (x ∷ b) [] zero v h = refl
over_set has (x ∷ b) [] (suc i) v h = refl
over_set has (x ∷ b) (y ∷ d) zero v h = rw h refl
over_set has (x ∷ b) (y ∷ d) (suc i) v h =
    ap (λ (l : List ℕ). (if has 0 then x else y) ∷ l) (over_set (λ i. has (suc i)) b d i v h)

over_kept : (has : ℕ → Bool) (b d : List ℕ) (i v : ℕ) → has i ≡ false → over has (set b i v) d ≡ over has b d
over_kept has [] d i v h = refl
over_kept has (x ∷ b) [] zero v h = refl
over_kept has (x ∷ b) [] (suc i) v h = refl
over_kept has (x ∷ b) (y ∷ d) zero v h = rw h refl
over_kept has (x ∷ b) (y ∷ d) (suc i) v h =
    ap (λ (l : List ℕ). (if has 0 then x else y) ∷ l) (over_kept (λ i. has (suc i)) b d i v h)

module _ (O : Watcher) (M : Machine) (d : List ℕ) where
  abbrev Over : List ℕ → List ℕ
  Over b = over O.has_place b d

  stored_over : (b : List ℕ) (s : Store) → stored_in (Over b) (placed O s) ≡ Over (stored_in b s)
  stored_over b None = refl
  stored_over b (Some (i, v)) = by_test (O.has_place i)
      (λ q. rw (q, over_set O.has_place b d i v q) refl)
      (λ q. rw (q, over_kept O.has_place b d i v q) refl)

  steps_over : (m : ℕ) (log : List Entry) (s : M.S) (b c : List ℕ) (z : M.K) (t : Behaviour M.K Answer)
      → Steps M m s b c z t
      → Steps (watched_machine O M) m (log, s) (Over b) (Over c) z (watched_from O ends log t)
  unfolding watched_from
  steps_over zero log s b c z t e = tt
  steps_over (suc m) log s b c z (ends a) e = ((ap Over e.0.0, e.0.1), rw e.1)
  steps_over (suc m) log s b c z (reads r f) e = (
    (ap Over e.0.0, e.0.1),
    (
      rw e.1.0,
      λ v. rw (e.1.0, stored_over b (M.store s v)) (steps_over m _ (M.advance s v) _ c z (f v) (e.1.1 v)),
    ),
  )
  steps_over (suc m) log s b c z (writes r x t) e = (
    (ap Over e.0.0, e.0.1),
    (rw e.1.0, rw (e.1.0, stored_over b (M.store s 0)) (steps_over m _ (M.advance s 0) _ c z t e.1.1)),
  )
  steps_over (suc m) log s b c z (marks x t) e = (
    (ap Over e.0.0, e.0.1),
    (rw e.1.0, rw (e.1.0, stored_over b (M.store s 0)) (steps_over m _ (M.advance s 0) _ c z t e.1.1)),
  )
  steps_over (suc m) log s b c z (stores i v t) e =
      let g = steps_over (suc m) log s b (set c i v) z t e in
      by_test (O.has_place i)
      (λ q. rw q (rw (over_set O.has_place c d i v q) at g))
      (λ q. rw q (rw (over_kept O.has_place c d i v q) at g))
  steps_over (suc m) log s b c z (asks f) e = steps_over (suc m) log s b c z (f z) e
  steps_over (suc m) log s b c z (keeps z' t) e = steps_over (suc m) log s b c z' t e
  steps_over (suc m) log s b c z cut e = absurd e

pub watched_anywhere : (O : Watcher) (M : Machine) (m : ℕ) (log : List Entry) (s : M.S) (b : List ℕ) (z : M.K)
    (t : Behaviour M.K Answer)
    → Agree M m s b b z t
    → Agree (watched_machine O M) m (log, s) b b z (watched_from O ends log t)
watched_anywhere O M m log s b z t e =
    record { steps = rw (over_itself O.has_place b) at (steps_over O M b m log s b b z t e.steps) }
