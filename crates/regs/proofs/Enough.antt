-- Of a behaviour that a machine agrees with:
--     stepped_is     stepping the machine leaves the behaviour's outcome
--     enough_from    how often a loop may turn does not show in the outcome, once that is more than the log has room for
use Prim.Native.Nat.{ℕ, zero, suc, ◌<◌, ◌≤◌}
use mathlib.Core.List.{List, [], ◌∷◌}
use mathlib.Core.Path.{◌≡◌, sym, ap, ◌∙◌}
use lib.ListN.{set}
use native.Mathlib.Nat.{le_refl}
use Rattle.regs.specs.Program.{Behaviour, ends, reads, writes, marks, stores, asks, keeps, cut, Program}
use Rattle.regs.specs.Program.{outcome, logged}
use Rattle.regs.specs.Steps.{stepped, without_room, with_room}
use Rattle.regs.specs.Steps.{Machine, stored_in}
use Rattle.regs.specs.declared.answers.Answer.{Answer}
use Rattle.regs.specs.declared.answers.Reply.TheVariants.{Answered, LogFull, OutOfReadings}
use Rattle.regs.specs.declared.access.Entry.TheVariants as E
use Rattle.regs.proofs.Refine.{Agree, Steps}

module _ (M : Machine) where
  pub stepped_is : (m : ℕ) (s : M.S) (t : Behaviour M.K Answer) (b c : List ℕ) (z : M.K)
      → Steps M (suc m) s b c z t
      → (rs : List ℕ)
      → stepped M m s rs b ≡ outcome Answered LogFull OutOfReadings t m rs c z
  unfolding stepped without_room with_room outcome
  stepped_is zero s (ends a) b c z g rs = rw (g.1, g.0.0, g.0.1)
  stepped_is (suc m) s (ends a) b c z g rs = rw (g.1, g.0.0, g.0.1)
  stepped_is zero s (reads r f) b c z g rs = rw (g.1.0, g.0.0, g.0.1)
  stepped_is (suc m) s (reads r f) b c z g [] = rw (g.1.0, g.0.0, g.0.1)
  stepped_is (suc m) s (reads r f) b c z g (v ∷ rs) = rw g.1.0
      (ap (logged (E.Read r v)) (stepped_is m (M.advance s v) (f v) (stored_in b (M.store s v)) c z (g.1.1 v) rs))
  stepped_is zero s (writes r v t) b c z g rs = rw (g.1.0, g.0.0, g.0.1)
  stepped_is (suc m) s (writes r v t) b c z g rs = rw g.1.0
      (ap (logged (E.Write r v)) (stepped_is m (M.advance s 0) t (stored_in b (M.store s 0)) c z g.1.1 rs))
  stepped_is zero s (marks x t) b c z g rs = rw (g.1.0, g.0.0, g.0.1)
  stepped_is (suc m) s (marks x t) b c z g rs = rw g.1.0
      (ap (logged (E.Marked x)) (stepped_is m (M.advance s 0) t (stored_in b (M.store s 0)) c z g.1.1 rs))
  stepped_is m s (stores i v t) b c z g rs = stepped_is m s t b (set c i v) z g rs
  stepped_is m s (asks f) b c z g rs = stepped_is m s (f z) b c z g rs
  stepped_is m s (keeps z' t) b c z g rs = stepped_is m s t b c z' g rs
  stepped_is zero s cut b c z g rs = absurd g
  stepped_is (suc m) s cut b c z g rs = absurd g

  -- of a program that a machine agrees with, from a state z
  pub enough_from : (s : M.S) (p : Program M.K Answer Answer) (b : List ℕ) (z : M.K)
      → ((m n : ℕ) → m ≤ n → Agree M m s b b z (p n ends))
      → (room n : ℕ)
      → room < n
      → (rs : List ℕ)
      → outcome Answered LogFull OutOfReadings (p n ends) room rs b z
      ≡ outcome Answered LogFull OutOfReadings (p (suc room) ends) room rs b z
  enough_from s p b z agrees room n h rs =
      sym (stepped_is room s (p n ends) b b z (agrees (suc room) n h).steps rs)
      ∙ stepped_is room s (p (suc room) ends) b b z (agrees (suc room) (suc room) (le_refl (suc room))).steps rs
