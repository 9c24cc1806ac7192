-- Laws of xor on numbers: it goes bit by bit, so it is associative and cancels.
use Prim.Native.Nat.{ℕ, zero, suc, ◌+◌, ◌*◌, ◌/◌, ◌%◌, ◌<◌}
use native.Mathlib.Nat.{add-zero}
use native.Mathlib.Omega.{arith}
use mathlib.Core.Path.{◌≡◌, refl, sym, ap, ap₂, ◌∙◌}
use lib.Arith.{bin_ind}
use lib.Bits.{bit_xor, differ, xor_step, xor_self, xor_comm}

differ_bit : (x y : ℕ) → x < 2 → y < 2 → differ x y < 2
differ_bit zero y h l = l
differ_bit (suc x) zero h l = h
differ_bit (suc zero) (suc zero) h l = omega arith
differ_bit (suc (suc x)) (suc y) h l = absurd (omega arith)
differ_bit (suc zero) (suc (suc y)) h l = absurd (omega arith)

differ_assoc : (x y z : ℕ) → x < 2 → y < 2 → z < 2 → differ (differ x y) z ≡ differ x (differ y z)
differ_assoc zero y z h l k = refl
differ_assoc (suc zero) zero z h l k = refl
differ_assoc (suc zero) (suc zero) zero h l k = refl
differ_assoc (suc zero) (suc zero) (suc zero) h l k = refl
differ_assoc (suc zero) (suc zero) (suc (suc z)) h l k = absurd (omega arith)
differ_assoc (suc zero) (suc (suc y)) z h l k = absurd (omega arith)
differ_assoc (suc (suc x)) y z h l k = absurd (omega arith)

-- the lowest bit of a xor, and the others
pub xor_low : (a b : ℕ) → bit_xor a b % 2 ≡ differ (a % 2) (b % 2)
xor_low a b =
    omega (arith, xor_step a b, differ_bit (a % 2) (b % 2) (omega arith) (omega arith))

pub xor_high : (a b : ℕ) → bit_xor a b / 2 ≡ bit_xor (a / 2) (b / 2)
xor_high a b =
    omega (arith, xor_step a b, differ_bit (a % 2) (b % 2) (omega arith) (omega arith))

pub xor_assoc : (a b c : ℕ) → bit_xor (bit_xor a b) c ≡ bit_xor a (bit_xor b c)
xor_assoc =
    bin_ind (λ (n : ℕ). (b c : ℕ) → bit_xor (bit_xor n b) c ≡ bit_xor n (bit_xor b c)) (λ b c. refl)
    (λ n ih b c.
    xor_step (bit_xor n b) c
    ∙ ap₂ (λ (x y : ℕ). x * 2 + y)
    (ap (λ (x : ℕ). bit_xor x (c / 2)) (xor_high n b) ∙ ih (b / 2) (c / 2)
    ∙ ap (bit_xor (n / 2)) (sym (xor_high b c)))
    (ap (λ (x : ℕ). differ x (c % 2)) (xor_low n b)
    ∙ differ_assoc (n % 2) (b % 2) (c % 2) (omega arith) (omega arith) (omega arith)
    ∙ ap (differ (n % 2)) (sym (xor_low b c)))
    ∙ sym (xor_step n (bit_xor b c)))

-- xor'ed twice with the same number
pub xor_twice : (a b : ℕ) → bit_xor a (bit_xor a b) ≡ b
xor_twice a b = sym (xor_assoc a a b) ∙ ap (λ (x : ℕ). bit_xor x b) (xor_self a)

pub xor_cancel : (a : ℕ) {b c : ℕ} → bit_xor a b ≡ bit_xor a c → b ≡ c
xor_cancel a {b} {c} e = sym (xor_twice a b) ∙ ap (bit_xor a) e ∙ xor_twice a c

-- the second and the third of four change places
pub xor_swap : (a b c d : ℕ) → bit_xor (bit_xor a b) (bit_xor c d) ≡ bit_xor (bit_xor a c) (bit_xor b d)
xor_swap a b c d =
    xor_assoc a b (bit_xor c d)
    ∙ ap (bit_xor a) (sym (xor_assoc b c d) ∙ ap (λ (x : ℕ). bit_xor x d) (xor_comm b c) ∙ xor_assoc c b d)
    ∙ sym (xor_assoc a c (bit_xor b d))

-- doubled numbers
pub xor_double : (a b : ℕ) → bit_xor (a * 2) (b * 2) ≡ bit_xor a b * 2
xor_double a b =
    let a2 : a * 2 / 2 ≡ a = omega arith in
    let b2 : b * 2 / 2 ≡ b = omega arith in
    let a0 : a * 2 % 2 ≡ 0 = omega arith in
    let b0 : b * 2 % 2 ≡ 0 = omega arith in
    xor_step (a * 2) (b * 2) ∙ rw (a2, b2, a0, b0) (add-zero (bit_xor a b * 2))
