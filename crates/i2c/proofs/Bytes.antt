-- The bytes of a write that are still to send, in the one lent write buffer. Past its end there are zeros, which is how a
-- write may be one byte longer.
use Prim.Native.Nat.{ℕ, suc, ◌+◌, ◌<◌}
use native.Mathlib.Omega.{arith}
use mathlib.Core.List.{List, [], ◌∷◌}
use mathlib.Core.Path.{◌≡◌, sym, ap, ◌∙◌}
use lib.Dec.{eqb}
use lib.ListN.{length, get_or}
use borrow.Author.Tests.{eq-eqb, ne_eqb}
use Rattle.master.specs.Async.{is_empty}
use Rattle.transfer.specs.declared.Transfer.{Transfer}

module _ (bytes : List ℕ) where
  -- `rest` is what is left from byte i of the operation on
  pub record Held (t : Transfer) (rest : List ℕ) (i : ℕ) : Type 0 where
    pub same : (j : ℕ) → j < length rest → get_or bytes (t.operation.at + (i + j)) 0 ≡ get_or rest j 0
    pub sum : i + length rest ≡ t.operation.len

  -- the next byte, and what is left after it
  pub held_head : (t : Transfer) (byte : ℕ) (rest : List ℕ) (i : ℕ)
      → Held t (byte ∷ rest) i
      → (get_or bytes (t.operation.at + i) 0 ≡ byte) × (Held t rest (i + 1) × (i < t.operation.len))
  held_head t byte rest i h =
      let s : i + suc (length rest) ≡ t.operation.len = h.sum in
      let e : i + 0 ≡ i = omega arith in (
        rw e at (h.same 0 (omega arith)),
        (
          record {
            same = λ j l. ap (λ (x : ℕ). get_or bytes (t.operation.at + x) 0) (moved j) ∙ h.same (suc j) (omega arith);
            sum = omega arith;
          },
          omega arith,
        ),
      )
    where
      moved : (j : ℕ) → i + 1 + j ≡ i + suc j
      moved j = omega arith

  -- no byte is left at the end, and only there
  pub held_end : (t : Transfer) (i : ℕ) → Held t [] i → i ≡ t.operation.len
  held_end t i h = let s : i + 0 ≡ t.operation.len = h.sum in omega arith

  pub held_last : (t : Transfer) (byte : ℕ) (rest : List ℕ) (i : ℕ) → Held t (byte ∷ rest) i → is_empty rest ≡ eqb (i + 1) t.operation.len
  held_last t byte [] i h = let s : i + 1 ≡ t.operation.len = h.sum in sym (eq-eqb (i + 1) t.operation.len s)
  held_last t byte (x ∷ rest) i h =
      let s : i + suc (suc (length rest)) ≡ t.operation.len = h.sum in sym (ne_eqb (i + 1) t.operation.len (λ e. omega arith))
