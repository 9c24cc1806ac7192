-- Texts appended one after the other are appended as one.
use Prim.Native.Nat.{ℕ, ◌+◌, ◌<◌, ◌≤◌}
use native.Mathlib.Omega.{arith}
use native.Mathlib.Numerals.{add-one}
use mathlib.Core.List.{List, [], ◌∷◌, ◌++◌, append_assoc, append-nil}
use mathlib.Core.Path.{sym, ap, ◌∙◌}
use lib.ListN.{length, take, set}
use lib.Seq.{take-suc-set}
use Rattle.text_hex.specs.Appended.{Appended}

pub nothing : (out : List ℕ) (at most : ℕ) → Appended out at [] most out at
nothing out at most = record { same = sym (append-nil (take at out)); room = omega arith }

pub one : (out : List ℕ) (at c : ℕ) → at < length out → Appended out at (c ∷ []) 1 (set out at c) (at + 1)
one out at c h = record { same = rw (add-one, take-suc-set out at c h); room = omega arith }

pub then : {a b c s t : List ℕ} {i j k m n : ℕ} → Appended a i s m b j → Appended b j t n c k → Appended a i (s ++ t) (m + n) c k
then {a} {b} {c} {s} {t} {i} x y = record {
  same = y.same ∙ (ap (λ (l : List ℕ). l ++ t) x.same ∙ append_assoc (take i a) s t);
  room = omega arith;
}

-- the text may be shorter than is said of it
pub within : {a b t : List ℕ} {i j m : ℕ} (n : ℕ) → m ≤ n → Appended a i t m b j → Appended a i t n b j
within n h x = record { same = x.same; room = omega arith }
