-- LogFull is the reply only where the log is full, and OutOfReadings only where the readings are used up.
use Prim.Native.Nat.{ℕ, zero, suc}
use native.Mathlib.Omega.{arith}
use mathlib.Core.List.{List, [], ◌∷◌}
use mathlib.Core.Path.{◌≡◌, refl, ap}
use lib.ListN.{length, set}
use Rattle.regs.specs.Program.{Behaviour, ends, reads, writes, marks, stores, asks, keeps, cut, outcome}
use Rattle.regs.specs.Log.{reads_in}
use Rattle.regs.specs.Steps.{Machine, stored_in}
use Rattle.regs.specs.declared.answers.Answer.{Answer}
use Rattle.regs.specs.declared.answers.Reply.TheVariants.{Answered, LogFull, OutOfReadings}
use Rattle.regs.proofs.Refine.{Steps}

not_full : {P : Type 0} (a : Answer) → Answered a ≡ LogFull → P
not_full a e = let z : ◌≡◌ {A = ℕ} 0 1 = cc in absurd (omega arith)

not_dry : {P : Type 0} → LogFull ≡ OutOfReadings → P
not_dry e = let z : ◌≡◌ {A = ℕ} 0 1 = cc in absurd (omega arith)

not_dry_told : {P : Type 0} (a : Answer) → Answered a ≡ OutOfReadings → P
not_dry_told a e = let z : ◌≡◌ {A = ℕ} 0 1 = cc in absurd (omega arith)

not_full_dry : {P : Type 0} → OutOfReadings ≡ LogFull → P
not_full_dry e = let z : ◌≡◌ {A = ℕ} 0 1 = cc in absurd (omega arith)

module _ (M : Machine) where
  pub full_only : (room : ℕ) (s : M.S) (t : Behaviour M.K Answer) (b c : List ℕ) (z : M.K)
      → Steps M (suc room) s b c z t
      → (rs : List ℕ)
      → (outcome Answered LogFull OutOfReadings t room rs c z).answer ≡ LogFull
      → length (outcome Answered LogFull OutOfReadings t room rs c z).log ≡ room
  unfolding outcome
  full_only room s (ends a) b c z g rs e = not_full a e
  full_only zero s (reads r f) b c z g rs e = refl
  full_only (suc room) s (reads r f) b c z g [] e = not_full_dry e
  full_only (suc room) s (reads r f) b c z g (v ∷ rs) e =
      ap suc (full_only room (M.advance s v) (f v) (stored_in b (M.store s v)) c z (g.1.1 v) rs e)
  full_only zero s (writes r v t) b c z g rs e = refl
  full_only (suc room) s (writes r v t) b c z g rs e =
      ap suc (full_only room (M.advance s 0) t (stored_in b (M.store s 0)) c z g.1.1 rs e)
  full_only zero s (marks x t) b c z g rs e = refl
  full_only (suc room) s (marks x t) b c z g rs e =
      ap suc (full_only room (M.advance s 0) t (stored_in b (M.store s 0)) c z g.1.1 rs e)
  full_only room s (stores i v t) b c z g rs e = full_only room s t b (set c i v) z g rs e
  full_only room s (asks f) b c z g rs e = full_only room s (f z) b c z g rs e
  full_only room s (keeps z' t) b c z g rs e = full_only room s t b c z' g rs e
  full_only room s cut b c z g rs e = absurd g

  pub dry_only : (room : ℕ) (s : M.S) (t : Behaviour M.K Answer) (b c : List ℕ) (z : M.K)
      → Steps M (suc room) s b c z t
      → (rs : List ℕ)
      → (outcome Answered LogFull OutOfReadings t room rs c z).answer ≡ OutOfReadings
      → reads_in (outcome Answered LogFull OutOfReadings t room rs c z).log ≡ length rs
  unfolding outcome
  dry_only room s (ends a) b c z g rs e = not_dry_told a e
  dry_only zero s (reads r f) b c z g rs e = not_dry e
  dry_only (suc room) s (reads r f) b c z g [] e = refl
  dry_only (suc room) s (reads r f) b c z g (v ∷ rs) e =
      ap suc (dry_only room (M.advance s v) (f v) (stored_in b (M.store s v)) c z (g.1.1 v) rs e)
  dry_only zero s (writes r v t) b c z g rs e = not_dry e
  dry_only (suc room) s (writes r v t) b c z g rs e = dry_only room (M.advance s 0) t (stored_in b (M.store s 0)) c z g.1.1 rs e
  dry_only zero s (marks x t) b c z g rs e = not_dry e
  dry_only (suc room) s (marks x t) b c z g rs e = dry_only room (M.advance s 0) t (stored_in b (M.store s 0)) c z g.1.1 rs e
  dry_only room s (stores i v t) b c z g rs e = dry_only room s t b (set c i v) z g rs e
  dry_only room s (asks f) b c z g rs e = dry_only room s (f z) b c z g rs e
  dry_only room s (keeps z' t) b c z g rs e = dry_only room s t b c z' g rs e
  dry_only room s cut b c z g rs e = absurd g
