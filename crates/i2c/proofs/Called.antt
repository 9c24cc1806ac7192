-- What the calls leave: the outcome of the whole Rust call, where it is within the limits, and of number 20, where it is not.
use Prim.Native.Nat.{ℕ, ◌/◌, ◌≤◌}
use native.Mathlib.Omega.{arith}
use mathlib.Core.Bool.{Bool, true, false, ◌&&◌}
use mathlib.Core.List.{List, [], ◌∷◌}
use mathlib.Core.Path.{◌≡◌, refl}
use lib.Dec.{eqb, leb}
use lib.ListN.{length}
use borrow.Author.Tests.{leb-true, eqb-true}
use Rattle.regs.specs.Program.{outcome}
use Rattle.regs.specs.Log.{expected, Leaves, LeavesBuffer}
use Rattle.regs.specs.Inner.Machine.{final, ran}
use Rattle.regs.specs.declared.answers.Answer.{Answer}
use Rattle.regs.specs.declared.access.Ran.{Ran}
use Rattle.regs.proofs.Refine.{leaves, leaves_buffer}
use Rattle.master.specs.Driver.{Driver}
use Rattle.master.specs.Operations.{MOST_BYTES, fits, lists, total, known, READ, WRITE}
use Rattle.master.specs.Transfer.{within, read_call, write_call, write_read_call, transaction_call}
use Rattle.transfer.specs.Inner.Points.{with_point, mode_of}
use Rattle.transfer.specs.Inner.Machine.{machine, started}
use Rattle.transfer.specs.declared.Transfer.{Transfer}
use Rattle.transfer.specs.declared.Mode.{Mode}
use Rattle.transfer.specs.declared.Point.{Point}
use Rattle.i2c.specs.Inner.Limits.{refused_over}
use Rattle.i2c.proofs.Basics.{first, second, MOST}
use Rattle.i2c.proofs.Listed.{Left}
use Rattle.i2c.proofs.Transfers.{read_transfer, write_transfer, write_read_transfer, transaction_transfer}

-- over the limits nothing is done
module _ (limits : Bool) (p : Driver Answer) (readings before b₀ : List ℕ) {r : Ran} (q : limits ≡ false) (e : r ≡ refused_over) where
  pub refused : Leaves (expected (within limits p) before readings b₀ tt) before before r
  unfolding outcome
  refused = rw (q, e) (record { reply = refl; entries = refl; used = refl; log = refl })

  pub refused_buffer : LeavesBuffer (expected (within limits p) before readings b₀ tt) before before b₀ r
  unfolding outcome
  refused_buffer = rw (q, e) (record { ran = record { reply = refl; entries = refl; used = refl; log = refl }; buffer = refl })

-- what is within the limits leaves room for a byte more
pub fits_is : (n : ℕ) → fits n ≡ true → n ≤ MOST
fits_is n q = omega (arith, leb-true n MOST_BYTES q)

-- what the test of the limits says of kinds and lengths
pub all_left : (mode : Mode) (restart : Bool) (address : ℕ) (kinds lengths bytes : List ℕ) (room : ℕ)
    → lists kinds lengths (length bytes) room ≡ true
    → (p : Point)
    → Left kinds lengths bytes restart (with_point (started mode restart address kinds) p) kinds lengths
all_left mode restart address kinds lengths bytes room q p =
    let q₁ = second (eqb (length kinds) (length lengths)) _ q in
    let q₂ = second (leb (length kinds) 64) _ q₁ in
    let q₃ = second (known kinds) _ q₂ in
    let q₄ = second (eqb (total WRITE kinds lengths) (length bytes)) _ q₃ in
    let q₅ = second (eqb (total READ kinds lengths) room) _ q₄ in
    record {
      kinds_left = refl;
      lengths_left = refl;
      as_many = eqb-true (length kinds) (length lengths) (first _ _ q);
      all_known = first (known kinds) _ q₂;
      reads_fit = omega (
        arith,
        eqb-true (total READ kinds lengths) room (first _ _ q₄),
        leb-true room MOST_BYTES (second (fits (length bytes)) (fits room) q₅),
      );
      writes_fit = omega (arith, eqb-true (total WRITE kinds lengths) (length bytes) (first _ _ q₃));
      bytes_fit = leb-true (length bytes) MOST_BYTES (first (fits (length bytes)) (fits room) q₅);
      same_restart = refl;
    }

module _ (mode : Mode) (address : ℕ) (readings before after : List ℕ) {r : Ran} {t : Transfer} where
  pub read_leaves : (b₀ b : List ℕ) → fits (length b₀) ≡ true → t ≡ started mode true address (0 ∷ [])
      → final r.reply r.entries r.used after b tt
      ≡ ran (machine false (0 ∷ []) (length b₀ ∷ []) []) readings (length before / 2) t 0 0 before b₀
      → LeavesBuffer (expected (read_call (mode_of mode) address (length b₀)) before readings b₀ tt) before after b r
  read_leaves b₀ b q et e =
      leaves_buffer (machine false (0 ∷ []) (length b₀ ∷ []) []) t (read_call (mode_of mode) address (length b₀)) readings before after b₀ b tt r
      (λ m n h. rw (q, et) (read_transfer mode address (length b₀) (fits_is (length b₀) q) [] m n h b₀)) e

  pub write_leaves : (bytes b : List ℕ) → fits (length bytes) ≡ true → t ≡ started mode true address (1 ∷ [])
      → final r.reply r.entries r.used after b tt
      ≡ ran (machine false (1 ∷ []) (length bytes ∷ []) bytes) readings (length before / 2) t 0 0 before []
      → Leaves (expected (write_call (mode_of mode) address bytes) before readings [] tt) before after r
  write_leaves bytes b q et e =
      leaves (machine false (1 ∷ []) (length bytes ∷ []) bytes) t (write_call (mode_of mode) address bytes) readings before after [] b tt r
      (λ m n h. rw (q, et) (write_transfer mode address bytes m n h [])) e

  pub write_read_leaves : (bytes b₀ b : List ℕ)
      → (fits (length bytes) && fits (length b₀)) ≡ true
      → t ≡ started mode true address (1 ∷ 0 ∷ [])
      → final r.reply r.entries r.used after b tt
      ≡ ran (machine false (1 ∷ 0 ∷ []) (length bytes ∷ length b₀ ∷ []) bytes) readings (length before / 2) t 0 0
      before b₀
      → LeavesBuffer (expected (write_read_call (mode_of mode) address bytes (length b₀)) before readings b₀ tt) before after b r
  write_read_leaves bytes b₀ b q et e =
      leaves_buffer (machine false (1 ∷ 0 ∷ []) (length bytes ∷ length b₀ ∷ []) bytes) t
      (write_read_call (mode_of mode) address bytes (length b₀)) readings before after b₀ b tt r
      (λ m n h. rw (q, et) (write_read_transfer mode address bytes (length b₀)
      (fits_is (length b₀) (second (fits (length bytes)) (fits (length b₀)) q)) m n h b₀))
      e

  pub transaction_leaves : (kinds lengths bytes b₀ b : List ℕ)
      → lists kinds lengths (length bytes) (length b₀) ≡ true
      → t ≡ started mode false address kinds
      → final r.reply r.entries r.used after b tt ≡ ran (machine false kinds lengths bytes) readings (length before / 2) t 0 0 before b₀
      → LeavesBuffer
      (expected (transaction_call (mode_of mode) address kinds lengths bytes (length b₀)) before readings b₀ tt)
      before after b r
  transaction_leaves kinds lengths bytes b₀ b q et e =
      leaves_buffer (machine false kinds lengths bytes) t
      (transaction_call (mode_of mode) address kinds lengths bytes (length b₀)) readings before after b₀ b tt r
      (λ m n h. rw (q, et) (transaction_transfer mode address kinds lengths bytes
      (λ p. all_left mode false address kinds lengths bytes (length b₀) q p) m n h b₀))
      e
