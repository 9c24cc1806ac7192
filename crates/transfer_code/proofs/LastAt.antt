-- The search for the last access to DATA_CMD, from the last entry back: each step back leaves its result the same.
use Prim.Native.Nat.{ℕ, zero, suc, ◌-◌, ◌*◌, ◌<◌, ◌≤◌}
use native.Mathlib.Omega.{arith}
use mathlib.Core.List.{List}
use mathlib.Core.Path.{◌≡◌, sym, ◌∙◌}
use lib.Dec.{eqb}
use lib.ListN.{get_or}
use borrow.Author.Tests.{eq-eqb, ne_eqb}
use Rattle.std.specs.Prelude.{if◌then◌else◌, Option, None, Some}
use Rattle.transfer_code.specs.Inner.Settling.{last_at}
use Rattle.transfer_code.specs.declared.settle.DataAt.{DataAt}
use Rattle.transfer_code.specs.declared.settle.DataAt.TheVariants.{Got, Put}

module _ (log : List ℕ) where
  abbrev head : ℕ → ℕ
  head k = get_or log ((k - 1) * 2) 0

  by_head : (k : ℕ) → 0 < k
      → last_at log k
      ≡ (if eqb (head k) 0x110 then Some (Got (k - 1)) else (if eqb (head k) 0x210 then Some (Put (k - 1)) else last_at log (k - 1)))
  unfolding last_at
  by_head zero h = absurd (omega arith)
  by_head (suc k) h = let p : suc k - 1 ≡ k = omega arith in rw p

  -- what is looked for is among the first k entries, and is entry k - 1 or before it
  module _ (found : Option DataAt) (k : ℕ) (s : last_at log k ≡ found) (h : 0 < k) where
    pub got : head k ≡ 0x110 → Some (Got (k - 1)) ≡ found
    got e = sym (by_head k h ∙ rw (eq-eqb (head k) 0x110 e)) ∙ s

    pub put : (head k ≡ 0x110 → ⊥) → head k ≡ 0x210 → Some (Put (k - 1)) ≡ found
    put n e = sym (by_head k h ∙ rw (ne_eqb (head k) 0x110 n, eq-eqb (head k) 0x210 e)) ∙ s

    pub back : (head k ≡ 0x110 → ⊥) → (head k ≡ 0x210 → ⊥) → last_at log (k - 1) ≡ found
    back n m = sym (by_head k h ∙ rw (ne_eqb (head k) 0x110 n, ne_eqb (head k) 0x210 m)) ∙ s

  pub nowhere : (found : Option DataAt) (k : ℕ) → last_at log k ≡ found → k ≤ 0 → None ≡ found
  unfolding last_at
  nowhere found zero s h = s
  nowhere found (suc k) s h = absurd (omega arith)
