-- A machine that is watched, as a program is (specs/Watched.antt). Its points have the log so far.
use Rattle.std.specs.Prelude.{ℕ, List, [], ◌∷◌, ◌++◌, if◌then◌else◌, None, Some}
use Rattle.regs.specs.Steps.{Machine}
use Rattle.regs.specs.Watched.{Watcher}
use Rattle.regs.specs.declared.access.Entry.{Entry}
use Rattle.regs.specs.declared.access.Entry.TheVariants as E
use Rattle.regs.specs.declared.access.Next.{Next}
use Rattle.regs.specs.declared.access.Next.TheVariants.{Read, Write, Mark, Finished}
use Rattle.regs.specs.Store.{Store}

module _ (O : Watcher) where
  abbrev pub changed : List Entry → Next → Next
  changed log (Read r) = Read r
  changed log (Write r x) = Write r (O.value log r x)
  changed log (Mark x) = Mark x
  changed log (Finished a) = Finished (O.told log a)

  -- the log after the access, with what was read
  abbrev pub longer_log : List Entry → Next → ℕ → List Entry
  longer_log log (Read r) v = log ++ E.Read r v ∷ []
  longer_log log (Write r x) v = log ++ E.Write r (O.value log r x) ∷ []
  longer_log log (Mark x) v = log ++ E.Marked x ∷ []
  longer_log log (Finished a) v = log

  abbrev pub placed : Store → Store
  placed None = None
  placed (Some (i, b)) = if O.has_place i then Some (i, b) else None

  abbrev pub watched_machine : Machine → Machine
  watched_machine M = record {
    S = List Entry × M.S;
    K = M.K;
    next = λ p. changed p.0 (M.next p.1);
    advance = λ p v. (longer_log p.0 (M.next p.1) v, M.advance p.1 v);
    store = λ p v. placed (M.store p.1 v);
    state = λ p. M.state p.1;
  }
