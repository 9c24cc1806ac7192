-- The rule of the table, by one computation over all of it; and what it says of a register and a byte.
use Prim.Native.Nat.{ℕ, zero, suc, ◌+◌, ◌<◌}
use native.Mathlib.Nat.{add-suc, add-zero, suc-add, zero-add}
use native.Mathlib.Omega.{arith}
use mathlib.Core.List.{List, [], ◌∷◌}
use mathlib.Core.Path.{◌≡◌, sym, ap, ◌∙◌}
use lib.Bits.{bit_xor, xor_lt}
use lib.ListN.{get_or}
use Rattle.crc8.specs.Crc8.{after_byte}
use Rattle.crc8.specs.Inner.Codes.{Codes}
use Rattle.crc8.proofs.Linear.{from_zero, as_one}

-- the codes of n bytes, from i on
unfoldable pub codes : ℕ → ℕ → List ℕ
codes i zero = []
codes i (suc n) = after_byte 0 i ∷ codes (suc i) n

code_at : (i n k : ℕ) → k < n → get_or (codes i n) k 0 ≡ after_byte 0 (i + k)
unfolding codes
code_at i zero k h = absurd (omega arith)
code_at i (suc n) zero h = rw add-zero
code_at i (suc n) (suc k) h = rw (add-suc, ← suc-add) (code_at (suc i) n k (omega arith))

pub all_codes : (table : List ℕ) → table ≡ codes 0 256 → Codes table
all_codes table e =
    record { code = λ k h. ap (λ (t : List ℕ). get_or t k 0) e ∙ code_at 0 256 k h ∙ rw zero-add }

-- looked up at the xor of the two
pub looked_up : {table : List ℕ} → Codes table → (r x : ℕ) → r < 256 → x < 256 → get_or table (bit_xor r x) 0 ≡ after_byte r x
looked_up t r x h l =
    let k : bit_xor r x < 256 = xor_lt 8 r x h l in
    t.code (bit_xor r x) k ∙ sym (from_zero (bit_xor r x) k) ∙ sym (as_one r x h l)
