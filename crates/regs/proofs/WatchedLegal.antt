-- A watched program is legal where the program is (Legal.antt), if the watcher leaves what disables the block and makes no
-- answer TxNotEmpty.
use Prim.Native.Nat.{ℕ}
use mathlib.Core.Bool.{Bool}
use mathlib.Core.List.{List, [], ◌∷◌, ◌++◌}
use mathlib.Core.Path.{◌≡◌, sym, subst}
use Rattle.regs.specs.Program.{Behaviour, ends}
use Rattle.regs.specs.Legality.{disabled_after}
use Rattle.regs.specs.Watched.{Watcher, watched_from}
use Rattle.regs.specs.declared.access.Entry.{Entry}
use Rattle.regs.specs.declared.access.Entry.TheVariants.{Write}
use Rattle.regs.specs.declared.answers.Answer.{Answer}
use Rattle.regs.proofs.Proper.{ProperAnswer}
use Rattle.regs.proofs.Legal.{LegalB, ends_legal, reads_legal, writes_legal, marks_legal, stores_legal, asks_legal}
use Rattle.regs.proofs.Legal.{keeps_legal, cut_legal, if_legal}

as_known : {S : Type 0} {d e : Bool} {t : Behaviour S Answer} → d ≡ e → LegalB e t → LegalB d t
as_known {t = t} p l = subst (λ (b : Bool). LegalB b t) (sym p) l

module _ {S : Type 0} (O : Watcher)
    (kept : (d : Bool) (log : List Entry) (r x : ℕ) → disabled_after d (Write r (O.value log r x)) ≡ disabled_after d (Write r x))
    (proper : (log : List Entry) (a : Answer) → ProperAnswer a → ProperAnswer (O.told log a)) where
  pub watched_legal : {d : Bool} {t : Behaviour S Answer} → LegalB d t → (log : List Entry) → LegalB d (watched_from O ends log t)
  unfolding watched_from
  watched_legal (ends_legal {a = a} h) log = ends_legal (proper log a h)
  watched_legal (reads_legal h l) log = reads_legal h (λ v. watched_legal (l v) _)
  watched_legal (writes_legal {d = d} {r = r} {v = x} h l) log =
      writes_legal h (as_known (kept d log r x) (watched_legal l (log ++ Write r (O.value log r x) ∷ [])))
  watched_legal (marks_legal h l) log = marks_legal h (watched_legal l _)
  watched_legal (stores_legal {i = i} l) log =
      if_legal (O.has_place i) (stores_legal (watched_legal l log)) (watched_legal l log)
  watched_legal (asks_legal l) log = asks_legal (λ s. watched_legal (l s) log)
  watched_legal (keeps_legal l) log = keeps_legal (watched_legal l log)
  watched_legal cut_legal log = cut_legal
