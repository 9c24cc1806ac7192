-- A machine with a running sum does what the machine with the log does, over any machine, sum and watcher; so it does
-- what the watched program does (`summed_left`, `summed_stepped`), where the machine alone agrees with the program.
use Prim.Native.Nat.{ℕ, zero, suc, ◌/◌, ◌≤◌}
use native.Mathlib.Nat.{le_refl}
use mathlib.Core.Bool.{Bool, false}
use mathlib.Core.List.{List, [], ◌∷◌, ◌++◌}
use mathlib.Core.Path.{◌≡◌, refl, sym, ap, ◌∙◌}
use lib.ListN.{length}
use Rattle.regs.specs.Program.{Behaviour, Program, ends, Outcome, just, logged, outcome}
use Rattle.std.specs.Prelude.{if◌then◌else◌, None, Some}
use Rattle.regs.specs.Steps.{Machine, stored_in, stepped, without_room, with_room, SteppedAs}
use Rattle.regs.specs.Watched.{Watcher, watched, watched_from}
use Rattle.regs.specs.Inner.Watched.{changed, longer_log, placed, watched_machine}
use Rattle.regs.specs.Inner.Summed.{Summer, changed_by, sum_after, summed_machine, SumOf}
use Rattle.regs.specs.declared.access.Entry.{Entry}
use Rattle.regs.specs.declared.access.Entry.TheVariants as E
use Rattle.regs.specs.declared.access.Next.{Next}
use Rattle.regs.specs.declared.access.Next.TheVariants.{Read, Write, Mark, Finished}
use Rattle.regs.specs.Store.{Store}
use Rattle.regs.specs.declared.answers.Answer.{Answer}
use Rattle.regs.specs.declared.answers.Reply.{Reply}
use Rattle.regs.specs.declared.answers.Reply.TheVariants.{Answered, LogFull, OutOfReadings}
use Rattle.regs.proofs.Refine.{Agree}
use Rattle.regs.proofs.Enough.{stepped_is}
use Rattle.regs.proofs.Tests.{false_true}
use Rattle.regs.proofs.Watched.{watched_agrees}

module _ {D : Type 0} (X : Summer D) (d : D) (sum : List Entry → D) (O : Watcher) (h : SumOf X d sum O) (M : Machine) where
  -- ---- the machine with the log

  stored_same : (b : List ℕ) (s : Store) → stored_in b (placed O s) ≡ stored_in b s
  stored_same b None = refl
  stored_same b (Some (i, v)) = ap (λ (q : Bool). stored_in b (if q then Some (i, v) else None)) (h.places i)

  -- at a point with this log, and at that with its sum
  abbrev by_log : ℕ → List Entry → M.S → List ℕ → List ℕ → Outcome M.K Reply
  by_log room log s rs b = stepped (watched_machine O M) room (log, s) rs b

  abbrev by_sum : ℕ → D → M.S → List ℕ → List ℕ → Outcome M.K Reply
  by_sum room e s rs b = stepped (summed_machine X M) room (e, s) rs b

  no_room : (n : Next) (log : List Entry) (b : List ℕ) (me : M.K)
      → without_room (changed_by X (sum log) n) b me ≡ without_room (changed O log n) b me
  unfolding without_room
  no_room (Read r) log b me = refl
  no_room (Write r x) log b me = refl
  no_room (Mark x) log b me = refl
  no_room (Finished a) log b me = ap (λ (z : Answer). just (Answered z) b me) (sym (h.told log a))

  -- f goes on from a sum, and g from a log
  module _ (f : D → ℕ → List ℕ → Outcome M.K Reply) (g : List Entry → ℕ → List ℕ → Outcome M.K Reply)
      (same : (log : List Entry) (v : ℕ) (rs : List ℕ) → f (sum log) v rs ≡ g log v rs) where
    after_entry : (log : List Entry) (e : Entry) (v : ℕ) (rs : List ℕ) → f (X.feed (sum log) e) v rs ≡ g (log ++ e ∷ []) v rs
    after_entry log e v rs = ap (λ (x : D). f x v rs) (sym (h.more log e)) ∙ same (log ++ e ∷ []) v rs

    some_room : (n : Next) (log : List Entry) (rs b : List ℕ) (me : M.K)
        → with_room (changed_by X (sum log) n) (λ v rs. f (sum_after X (sum log) n v) v rs) rs b me
        ≡ with_room (changed O log n) (λ v rs. g (longer_log O log n v) v rs) rs b me
    unfolding with_room
    some_room (Read r) log [] b me = refl
    some_room (Read r) log (v ∷ rs) b me = ap (logged (E.Read r v)) (after_entry log (E.Read r v) v rs)
    some_room (Write r x) log rs b me =
        let y : ℕ = O.value log r x in
        ap (λ (z : ℕ). logged (E.Write r z) (f (X.feed (sum log) (E.Write r z)) 0 rs)) (sym (h.value log r x))
        ∙ ap (logged (E.Write r y)) (after_entry log (E.Write r y) 0 rs)
    some_room (Mark x) log rs b me = ap (logged (E.Marked x)) (after_entry log (E.Marked x) 0 rs)
    some_room (Finished a) log rs b me = ap (λ (z : Answer). just (Answered z) b me) (sym (h.told log a))

  pub summed_steps : (room : ℕ) (log : List Entry) (s : M.S) (rs b : List ℕ)
      → by_sum room (sum log) s rs b ≡ by_log room log s rs b
  unfolding stepped
  summed_steps zero log s rs b = no_room (M.next s) log b (M.state s)
  summed_steps (suc room) log s rs b =
      some_room (λ e v rs. by_sum room e (M.advance s v) rs (stored_in b (M.store s v)))
      (λ log v rs. by_log room log (M.advance s v) rs (stored_in b (placed O (M.store s v))))
      (λ log v rs. summed_steps room log (M.advance s v) rs (stored_in b (M.store s v))
      ∙ ap (by_log room log (M.advance s v) rs) (sym (stored_same b (M.store s v))))
      (M.next s) log rs b (M.state s)

  -- ---- the watched program

  every_place : (n i : ℕ) → O.has_place i ≡ false → n ≤ i
  every_place n i q = absurd (false_true (sym q ∙ h.places i))

  -- from a point, a buffer and a state where the machine agrees with t, behind any log
  pub summed_left : (room : ℕ) (log : List Entry) {s : M.S} {b c : List ℕ} {z : M.K} {t : Behaviour M.K Answer}
      → Agree M (suc room) s b c z t
      → (rs : List ℕ)
      → stepped (summed_machine X M) room (sum log, s) rs b
      ≡ outcome Answered LogFull OutOfReadings (watched_from O ends log t) room rs c z
  summed_left room log {s} {b} {c} {z} {t} e rs =
      summed_steps room log s rs b
      ∙ stepped_is (watched_machine O M) room (log, s) (watched_from O ends log t) b c z
      (watched_agrees O M (suc room) log (every_place (length b)) (every_place (length c)) e).steps rs

  -- a call whose machine agrees with its definition is stepped, with the sum, as the watched definition says
  pub summed_stepped : (p : Program M.K Answer Answer) (start : M.K → M.S)
      → ((z : M.K) (b : List ℕ) (m n : ℕ) → m ≤ n → Agree M m (start z) b b z (p n ends))
      → SteppedAs (summed_machine X M) (λ z. (d, start z)) (watched O p)
  summed_stepped p start agrees log readings buffer z =
      let room : ℕ = length log / 2 in
      ap (λ (e : D). stepped (summed_machine X M) room (e, start z) readings buffer) (sym h.none)
      ∙ summed_left room [] (agrees z buffer (suc room) (suc room) (le_refl (suc room))) readings
