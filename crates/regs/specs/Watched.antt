-- A program that is watched: what it writes, stores and answers may be changed, by what its log has so far. It is the one
-- wrapper over programs; the same over the steps of a machine is in specs/Inner/Watched.antt.
use Rattle.std.specs.Prelude.{ℕ, Bool, List, [], ◌∷◌, ◌++◌, if◌then◌else◌}
use Rattle.regs.specs.Program.{Behaviour, ends, reads, writes, marks, stores, asks, keeps, cut, Program}
use Rattle.regs.specs.declared.access.Entry.{Entry}
use Rattle.regs.specs.declared.access.Entry.TheVariants.{Read, Write, Marked}
use Rattle.regs.specs.declared.answers.Answer.{Answer}

-- by the log so far: what is written to a register in place of a value, and what is answered in place of an answer;
-- and the places of the lent buffer that are stored to
pub record Watcher : Type 0 where
  pub value : List Entry → ℕ → ℕ → ℕ
  pub told : List Entry → Answer → Answer
  pub has_place : ℕ → Bool

module _ (O : Watcher) where
  unfoldable pub watched_from : {S : Type 0} → (Answer → Behaviour S Answer) → List Entry → Behaviour S Answer → Behaviour S Answer
  watched_from k log (ends a) = k (O.told log a)
  watched_from k log (reads r f) = reads r (λ v. watched_from k (log ++ Read r v ∷ []) (f v))
  watched_from k log (writes r x t) =
      writes r (O.value log r x) (watched_from k (log ++ Write r (O.value log r x) ∷ []) t)
  watched_from k log (marks x t) = marks x (watched_from k (log ++ Marked x ∷ []) t)
  watched_from k log (stores i b t) = if O.has_place i then stores i b (watched_from k log t) else watched_from k log t
  watched_from k log (asks f) = asks (λ s. watched_from k log (f s))
  watched_from k log (keeps s t) = keeps s (watched_from k log t)
  watched_from k log cut = cut

  -- a whole program, from its start
  abbrev pub watched : {S : Type 0} → Program S Answer Answer → Program S Answer Answer
  watched p = λ n k. watched_from k [] (p n ends)
