-- A machine that is watched (Watched.antt) by a watcher that looks at the log through a running sum only. Its points
-- have the sum in place of the log, so that code can carry it. That both do the same is proofs/Summed.antt.
use Rattle.std.specs.Prelude.{ℕ, true, List, [], ◌∷◌, ◌++◌, ◌≡◌}
use Rattle.regs.specs.Steps.{Machine}
use Rattle.regs.specs.Watched.{Watcher}
use Rattle.regs.specs.declared.access.Entry.{Entry}
use Rattle.regs.specs.declared.access.Entry.TheVariants as E
use Rattle.regs.specs.declared.access.Next.{Next}
use Rattle.regs.specs.declared.access.Next.TheVariants.{Read, Write, Mark, Finished}
use Rattle.regs.specs.declared.answers.Answer.{Answer}

-- a sum D of the log: what an entry makes of it, and by it what a `Watcher` says by the log; every place is stored to
pub record Summer (D : Type 0) : Type 0 where
  pub feed : D → Entry → D
  pub value : D → ℕ → ℕ → ℕ
  pub told : D → Answer → Answer

module _ {D : Type 0} (X : Summer D) where
  abbrev pub changed_by : D → Next → Next
  changed_by d (Read r) = Read r
  changed_by d (Write r x) = Write r (X.value d r x)
  changed_by d (Mark x) = Mark x
  changed_by d (Finished a) = Finished (X.told d a)

  -- the sum after the access, with what was read
  abbrev pub sum_after : D → Next → ℕ → D
  sum_after d (Read r) v = X.feed d (E.Read r v)
  sum_after d (Write r x) v = X.feed d (E.Write r (X.value d r x))
  sum_after d (Mark x) v = X.feed d (E.Marked x)
  sum_after d (Finished a) v = d

  abbrev pub summed_machine : Machine → Machine
  summed_machine M = record {
    S = D × M.S;
    K = M.K;
    next = λ p. changed_by p.0 (M.next p.1);
    advance = λ p v. (sum_after p.0 (M.next p.1) v, M.advance p.1 v);
    store = λ p v. M.store p.1 v;
    state = λ p. M.state p.1;
  }

  -- the sum of a log, from d on, says what the watcher says by the log
  pub record SumOf (d : D) (sum : List Entry → D) (O : Watcher) : Type 0 where
    pub none : sum [] ≡ d
    pub more : (log : List Entry) (e : Entry) → sum (log ++ e ∷ []) ≡ X.feed (sum log) e
    pub value : (log : List Entry) (r w : ℕ) → O.value log r w ≡ X.value (sum log) r w
    pub told : (log : List Entry) (a : Answer) → O.told log a ≡ X.told (sum log) a
    pub places : (i : ℕ) → O.has_place i ≡ true
