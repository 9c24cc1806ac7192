-- A list of 20 words is its words one by one: what is to be shown of it is shown of those, where reading and setting a word computes.
use Prim.Native.Nat.{ℕ, zero, suc}
use mathlib.Core.Path.{◌≡◌, refl, sym, ap, subst}
use mathlib.Core.List.{List, [], ◌∷◌}
use lib.ListN.{length, get_or, set}

rest : List ℕ → List ℕ
rest [] = []
rest (x ∷ s) = s

cells : ℕ → List ℕ → List ℕ
cells zero s = []
cells (suc n) s = get_or s 0 0 ∷ cells n (rest s)

all_cells : (s : List ℕ) → s ≡ cells (length s) s
unfolding cells rest
all_cells [] = refl
all_cells (x ∷ s) = ap (◌∷◌ x) (all_cells s)

pub record Cells : Type 0 where
  pub w0 : ℕ
  pub w1 : ℕ
  pub w2 : ℕ
  pub w3 : ℕ
  pub w4 : ℕ
  pub w5 : ℕ
  pub w6 : ℕ
  pub w7 : ℕ
  pub w8 : ℕ
  pub w9 : ℕ
  pub w10 : ℕ
  pub w11 : ℕ
  pub w12 : ℕ
  pub w13 : ℕ
  pub w14 : ℕ
  pub w15 : ℕ
  pub w16 : ℕ
  pub w17 : ℕ
  pub w18 : ℕ
  pub w19 : ℕ

abbrev pub list_of : Cells → List ℕ
list_of a = a.w0 ∷ a.w1 ∷ a.w2 ∷ a.w3 ∷ a.w4 ∷ a.w5 ∷ a.w6 ∷ a.w7 ∷ a.w8 ∷ a.w9 ∷ a.w10 ∷ a.w11 ∷ a.w12
    ∷ a.w13 ∷ a.w14 ∷ a.w15 ∷ a.w16 ∷ a.w17 ∷ a.w18 ∷ a.w19 ∷ []

pub each : (P : List ℕ → Type 0) → ((a : Cells) → P (list_of a)) → (s : List ℕ) → length s ≡ 20 → P s
unfolding cells
each P f s h = subst P (sym (rw h at (all_cells s)))
    (f (record {
      w0 = _;
      w1 = _;
      w2 = _;
      w3 = _;
      w4 = _;
      w5 = _;
      w6 = _;
      w7 = _;
      w8 = _;
      w9 = _;
      w10 = _;
      w11 = _;
      w12 = _;
      w13 = _;
      w14 = _;
      w15 = _;
      w16 = _;
      w17 = _;
      w18 = _;
      w19 = _;
    }))

-- all words set in turn
pub refill : (x0 x1 x2 x3 x4 x5 x6 x7 x8 x9 x10 x11 x12 x13 x14 x15 x16 x17 x18 x19 : ℕ) (s : List ℕ)
    → length s ≡ 20
    → set (set (set (set (set
    (set (set (set (set (set
    (set (set (set (set (set (set (set (set (set (set s 0 x0) 1 x1) 2 x2) 3 x3) 4 x4) 5 x5) 6 x6) 7 x7) 8 x8) 9 x9)
    10 x10)
    11 x11)
    12 x12)
    13 x13)
    14 x14)
    15 x15)
    16 x16)
    17 x17)
    18 x18)
    19 x19 ≡ x0 ∷ x1 ∷ x2 ∷ x3 ∷ x4 ∷ x5 ∷ x6 ∷ x7 ∷ x8 ∷ x9 ∷ x10 ∷ x11 ∷ x12 ∷ x13 ∷ x14 ∷ x15 ∷ x16 ∷ x17 ∷ x18
    ∷ x19 ∷ []
refill x0 x1 x2 x3 x4 x5 x6 x7 x8 x9 x10 x11 x12 x13 x14 x15 x16 x17 x18 x19 = each
    (λ (s : List ℕ). set (set
    (set (set (set (set (set (set
    (set (set
    (set (set (set (set (set (set (set (set (set (set s 0 x0) 1 x1) 2 x2) 3 x3) 4 x4) 5 x5) 6 x6) 7 x7) 8 x8) 9 x9)
    10 x10)
    11 x11)
    12 x12)
    13 x13)
    14 x14)
    15 x15)
    16 x16)
    17 x17)
    18 x18)
    19 x19 ≡ x0 ∷ x1 ∷ x2 ∷ x3 ∷ x4 ∷ x5 ∷ x6 ∷ x7 ∷ x8 ∷ x9 ∷ x10 ∷ x11 ∷ x12 ∷ x13 ∷ x14 ∷ x15 ∷ x16 ∷ x17 ∷ x18
    ∷ x19 ∷ [])
    (λ a. refl)
