-- The transfers with a packet error code, but for the code itself: from the first access to the answer the machine does what
-- the transfer does whose last operation is one byte longer, with 0 where the code goes. For both modes together, by
-- `coded_agree` (ListedCoded.antt).
use Prim.Native.Nat.{ℕ, suc, ◌≤◌}
use native.Mathlib.Omega.{arith}
use native.Mathlib.Nat.{add-zero}
use mathlib.Core.Bool.{Bool, true, false, ◌&&◌}
use mathlib.Core.List.{List, [], ◌∷◌}
use mathlib.Core.Path.{◌≡◌, refl, sym, ◌∙◌}
use lib.ListN.{length}
use lib.Seq.{take-length}
use borrow.Author.Tests.{eq-eqb, ne_eqb}
use Rattle.regs.specs.Program.{ends}
use Rattle.regs.specs.declared.answers.Answer.TheVariants.{Accepted}
use Rattle.regs.proofs.Refine.{ends_agree}
use Rattle.master.specs.Driver.{reason_of}
use Rattle.master.specs.Async.{is_empty}
use Rattle.master.specs.Operations.{operations_of, listed, lists, fits, total, known, READ, WRITE}
use Rattle.master.specs.Calls.{Lent, reads_into, writes_from, writes_then_reads, transacts, arguments, within_limits, bytes_in}
use Rattle.master.specs.Coded.{with_code, each_coded, longer_transfer, restarts}
use Rattle.transfer.specs.Inner.Points.{with_point, mode_of}
use Rattle.transfer.specs.Inner.Machine.{next_at, first_point, started, begun}
use Rattle.transfer.specs.declared.Mode.{Mode}
use Rattle.transfer.specs.declared.Mode.TheVariants.{Blocking, Async}
use Rattle.transfer.specs.declared.Point.{Point}
use Rattle.i2c.specs.Steps.{kinds_in, lengths_in, restart_in}
use Rattle.i2c.proofs.Basics.{M, Agrees}
use Rattle.i2c.proofs.Listed.{Left, last_listed}
use Rattle.i2c.proofs.ListedCoded.{still_some, coded_agree}
use Rattle.i2c.proofs.Transfers.{set_up}
use Rattle.i2c.proofs.Called.{all_left}

module _ (restart : Bool) (address : ℕ) where
  coded_next : (mode : Mode) (kinds lengths bytes : List ℕ)
      → ((p : Point) → Left kinds lengths bytes restart (with_point (started mode restart address kinds) p) kinds lengths)
      → (m n : ℕ) → m ≤ n → (p : Point) (b : List ℕ)
      → Agrees true kinds lengths bytes m (begun true kinds lengths (with_point (started mode restart address kinds) p)) b
      (each_coded reason_of (mode_of mode) restart 0 (with_code 0 (listed kinds lengths bytes)) n (λ _. ends Accepted))
  coded_next mode kinds lengths bytes left m n h p b =
      coded_agree kinds lengths bytes restart n kinds lengths (with_point (started mode restart address kinds) p) m h b (left p)

  from_left : (mode : Mode) (kinds lengths bytes : List ℕ)
      → ((p : Point) → Left kinds lengths bytes restart (with_point (started mode restart address kinds) p) kinds lengths)
      → (m n : ℕ) → m ≤ n → (b : List ℕ)
      → Agrees true kinds lengths bytes m (started mode restart address kinds) b
      (longer_transfer reason_of (mode_of mode) restart address (with_code 0 (listed kinds lengths bytes)) n ends)
  unfolding longer_transfer first_point listed with_code each_coded next_at
  from_left Blocking kinds lengths bytes left m n h b =
      set_up true kinds lengths bytes (started Blocking restart address kinds) m n b _
      (λ m₁ l₁ p. coded_next Blocking kinds lengths bytes left m₁ n (omega arith) p b)
  from_left Async [] lengths bytes left m n h b = ends_agree (M true [] lengths bytes) m refl
  from_left Async (kind ∷ kinds) lengths bytes left m n h b =
      let z : is_empty (listed (kind ∷ kinds) lengths bytes) ≡ false =
      sym (last_listed (kind ∷ kinds) 0 (kind ∷ kinds) lengths bytes refl (omega arith)
      (left (started Async restart address (kind ∷ kinds)).point).as_many)
      ∙ ne_eqb 0 (suc (length kinds)) (λ e. absurd (omega arith))
      in
      rw (still_some (listed (kind ∷ kinds) lengths bytes) z, ne_eqb (suc (length kinds)) 0 (λ e. absurd (omega arith)))
      (set_up true (kind ∷ kinds) lengths bytes (started Async restart address (kind ∷ kinds)) m n b _
      (λ m₁ l₁ p. coded_next Async (kind ∷ kinds) lengths bytes left m₁ n (omega arith) p b))

pub coded_transfer : (mode : Mode) (restart : Bool) (address : ℕ) (kinds lengths bytes : List ℕ) (room : ℕ)
    → lists kinds lengths (length bytes) room ≡ true
    → (m n : ℕ) → m ≤ n → (b : List ℕ)
    → Agrees true kinds lengths bytes m (started mode restart address kinds) b
    (longer_transfer reason_of (mode_of mode) restart address (with_code 0 (listed kinds lengths bytes)) n ends)
coded_transfer mode restart address kinds lengths bytes room q =
    from_left restart address mode kinds lengths bytes (λ p. all_left mode restart address kinds lengths bytes room q p)

-- the same of what is lent to a call, which keeps to the limits
read_lists : (len : ℕ) → fits len ≡ true → lists (READ ∷ []) (len ∷ []) 0 len ≡ true
unfolding total known
read_lists len q = rw (add-zero len, eq-eqb len len refl, q)

write_lists : (len : ℕ) → fits len ≡ true → lists (WRITE ∷ []) (len ∷ []) len 0 ≡ true
unfolding total known
write_lists len q = rw (add-zero len, eq-eqb len len refl, q)

both_lists : (w r : ℕ) → (fits w && fits r) ≡ true → lists (WRITE ∷ READ ∷ []) (w ∷ r ∷ []) w r ≡ true
unfolding total known
both_lists w r q = rw (add-zero w, add-zero r, eq-eqb w w refl, eq-eqb r r refl, q)

pub coded_lent : (mode : Mode) (address : ℕ) (l : Lent) → within_limits l ≡ true
    → (m n : ℕ) → m ≤ n → (b : List ℕ)
    → Agrees true (kinds_in l) (lengths_in l) (bytes_in l) m (started mode (restart_in l) address (kinds_in l)) b
    (longer_transfer reason_of (mode_of mode) (restarts (arguments l)) address (with_code 0 (operations_of (arguments l))) n ends)
unfolding listed
coded_lent mode address (reads_into buffer) q =
    coded_transfer mode true address (READ ∷ []) (length buffer ∷ []) [] (length buffer) (read_lists (length buffer) q)
coded_lent mode address (writes_from bytes) q =
    rw (take-length bytes) at
    (coded_transfer mode true address (WRITE ∷ []) (length bytes ∷ []) bytes 0 (write_lists (length bytes) q))
coded_lent mode address (writes_then_reads bytes buffer) q =
    rw (take-length bytes) at
    (coded_transfer mode true address (WRITE ∷ READ ∷ []) (length bytes ∷ length buffer ∷ []) bytes (length buffer)
    (both_lists (length bytes) (length buffer) q))
coded_lent mode address (transacts kinds lengths bytes buffer) q =
    coded_transfer mode false address kinds lengths bytes (length buffer) q
