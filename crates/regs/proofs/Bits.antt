-- The laws of fields: a bit that is tested, fields put side by side, and a field that is replaced. One law for every bit and width.
use mathlib.Core.Path.{◌≡◌, refl, ap, ap₂, ◌∙◌, sym, subst}
use mathlib.Core.Bool.{Bool, true, false}
use Prim.Native.Nat.{ℕ, ◌+◌, ◌-◌, ◌*◌, ◌/◌, ◌%◌, ◌^◌, ◌≤◌, ◌<◌}
use native.Mathlib.Nat.{add_assoc, add_comm, add-mul, add-zero, le-add_left, mod-eq_of_lt, mod-lt, mul_assoc, one-mul}
use native.Mathlib.Omega.{arith}
use lib.Bits.{bit_and, bit_or, and_block, and_high, and_mask, or_block, or_comm, or_shifted, or_zero_r}
use lib.Pow.{ones_lt, ones_split, pow-add, pow_mono, pow_pos, shl_exact, shr_mod, shr-shr, split}
use lib.Dec.{eqb, lit<}
use Rattle.regs.specs.Fields.{b2n, bit, set_field}

-- a bit that is shifted down, masked and compared with 1
pub bit_at : (k w : ℕ) → eqb (bit_and (w / 2 ^ k) 1) 1 ≡ bit k w
bit_at k w = ap (λ (x : ℕ). eqb x 1) (and_mask (w / 2 ^ k) 1)

pub b2n_lt : (b : Bool) → b2n b < 2
b2n_lt true = omega arith
b2n_lt false = omega arith

-- a number is itself: it names the innermost operand of a chain of `|`, which `refl` does not
pub is : (a : ℕ) → a ≡ a
is a = refl

-- `|` adds, where the second number lies above the first
or_add : (k a b : ℕ) → a < 2 ^ k → b % 2 ^ k ≡ 0 → bit_or a b ≡ a + b
or_add k a b lt low =
    let e : b / 2 ^ k * 2 ^ k ≡ b = sym (add-zero (b / 2 ^ k * 2 ^ k)) ∙ ap (λ (x : ℕ). b / 2 ^ k * 2 ^ k + x) (sym low) ∙ split b k in
    or_comm a b ∙ ap (λ (x : ℕ). bit_or x a) (sym e) ∙ or_shifted (b / 2 ^ k) k a lt ∙ ap (λ (x : ℕ). x + a) e ∙ add_comm b a

-- the same of numbers that are known by equations, with what the sum is
pub or_up : (k : ℕ) {x y a b r : ℕ} → x ≡ a → y ≡ b → a < 2 ^ k → b % 2 ^ k ≡ 0 → a + b ≡ r → bit_or x y ≡ r
or_up k {a = a} {b = b} ex ey lt low e = ap₂ bit_or ex ey ∙ or_add k a b lt low ∙ e

-- a mask that keeps two parts: m₁ from bit k on, and m₂ below it
and_parts : (k n m₁ m₂ : ℕ) → m₂ < 2 ^ k → bit_and n (m₁ * 2 ^ k + m₂) ≡ bit_and (n / 2 ^ k) m₁ * 2 ^ k + bit_and (n % 2 ^ k) m₂
and_parts k n m₁ m₂ h =
    ap (λ (x : ℕ). bit_and x (m₁ * 2 ^ k + m₂)) (sym (split n k)) ∙ and_block k (n / 2 ^ k) m₁ (n % 2 ^ k) m₂ (mod-lt n (pow_pos k)) h

-- `1 << n` at 32 bits
one_shl : (n : ℕ) → n < 32 → 1 * 2 ^ n % 2 ^ 32 ≡ 2 ^ n
one_shl n h = shl_exact {a = 1} 1 n 32 (lit< tt) (omega arith) ∙ one-mul (2 ^ n)

-- a mask is not below 1
pub mask_fits : (n : ℕ) → n < 32 → 1 ≤ 1 * 2 ^ n % 2 ^ 32
mask_fits n h = rw (one_shl n h) (pow_pos n)

-- the mask with n bits clear from bit k on, of j + n + k bits
abbrev hole : ℕ → ℕ → ℕ → ℕ
hole j n k = (2 ^ (j + n + k) - 1) - (2 ^ n - 1) * 2 ^ k

-- what lies from bit k on, and k ones
hole_is : (j n k : ℕ) → hole j n k ≡ (2 ^ (j + n) - 2 ^ n) * 2 ^ k + (2 ^ k - 1)
hole_is j n k =
    let le : 2 ^ n ≤ 2 ^ (j + n) = pow_mono (le-add_left n j) in
    let pos : 0 < 2 ^ n = pow_pos n in
    let e : (2 ^ (j + n) - 2 ^ n) + (2 ^ n - 1) ≡ 2 ^ (j + n) - 1 = omega arith in
    omega (arith, ones_split (j + n) k, sym (add-mul (2 ^ (j + n) - 2 ^ n) (2 ^ n - 1) (2 ^ k)) ∙ ap (λ (z : ℕ). z * 2 ^ k) e)

cleared : (j n k w : ℕ) → w < 2 ^ (j + n + k) → bit_and w (hole j n k) ≡ w / 2 ^ (n + k) * 2 ^ n * 2 ^ k + w % 2 ^ k
cleared j n k w hw =
    let up : w / 2 ^ k / 2 ^ n % 2 ^ j ≡ w / 2 ^ (n + k) =
    ap (λ (z : ℕ). z % 2 ^ j) (shr-shr w k n ∙ ap (λ (z : ℕ). w / 2 ^ z) (add_comm k n))
    ∙ shr_mod j (n + k) (subst (λ (z : ℕ). w < 2 ^ z) (add_assoc j n k) hw)
    in
    ap (bit_and w) (hole_is j n k) ∙ and_parts k w (2 ^ (j + n) - 2 ^ n) (2 ^ k - 1) (ones_lt k)
    ∙ ap₂ (λ (y z : ℕ). y * 2 ^ k + z) (and_high (w / 2 ^ k) j n ∙ ap (λ (z : ℕ). z * 2 ^ n) up)
    (and_mask (w % 2 ^ k) k ∙ mod-eq_of_lt (mod-lt w (pow_pos k)))

replaced : (j n k w x : ℕ) → w < 2 ^ (j + n + k) → x < 2 ^ n → bit_or (bit_and w (hole j n k)) (x * 2 ^ k) ≡ set_field k n x w
unfolding set_field
replaced j n k w x hw hx =
    let H = w / 2 ^ (n + k) in
    ap₂ bit_or (cleared j n k w hw) (sym (add-zero (x * 2 ^ k))) ∙ or_block k (H * 2 ^ n) x (w % 2 ^ k) 0 (mod-lt w (pow_pos k)) (pow_pos k)
    ∙ ap₂ (λ (y z : ℕ). y * 2 ^ k + z) (or_shifted H n x hx) (or_zero_r (w % 2 ^ k))
    ∙ ap (λ (z : ℕ). z + w % 2 ^ k)
    (add-mul (H * 2 ^ n) x (2 ^ k)
    ∙ ap (λ (z : ℕ). z + x * 2 ^ k) (mul_assoc H (2 ^ n) (2 ^ k) ∙ ap (λ (z : ℕ). H * z) (sym (pow-add 2 n k))))

-- as code has it at 32 bits: `(w & !(((1 << n) - 1) << k)) | (x << k)`
pub field_replaced : (n k w x : ℕ) → n < 32 → n + k ≤ 32 → w < 2 ^ 32 → x < 2 ^ n
    → bit_or (bit_and w ((2 ^ 32 - 1) - (1 * 2 ^ n % 2 ^ 32 - 1) * 2 ^ k % 2 ^ 32)) (x * 2 ^ k % 2 ^ 32) ≡ set_field k n x w
field_replaced n k w x hn hk hw hx =
    let j = 32 - (n + k) in
    let e : j + n + k ≡ 32 = omega arith in
    ap₂ (λ (y z : ℕ). bit_or (bit_and w ((2 ^ 32 - 1) - y)) z)
    (ap (λ (y : ℕ). (y - 1) * 2 ^ k % 2 ^ 32) (one_shl n hn) ∙ shl_exact n k 32 (ones_lt n) hk)
    (shl_exact n k 32 hx hk)
    ∙ ap (λ (z : ℕ). bit_or (bit_and w ((2 ^ z - 1) - (2 ^ n - 1) * 2 ^ k)) (x * 2 ^ k)) (sym e)
    ∙ replaced j n k w x (subst (λ (z : ℕ). w < 2 ^ z) (sym e) hw) hx
