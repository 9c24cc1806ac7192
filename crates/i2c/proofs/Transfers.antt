-- The eight transfers: from the first access to the answer, for both modes together.
use Prim.Native.Nat.{ℕ, suc, ◌<◌, ◌≤◌}
use native.Mathlib.Omega.{arith}
use native.Mathlib.Nat.{zero-add}
use mathlib.Core.Bool.{Bool, true, false}
use mathlib.Core.List.{List, [], ◌∷◌}
use mathlib.Core.Path.{◌≡◌, refl, sym, ◌∙◌}
use lib.Dec.{ltb}
use lib.ListN.{length}
use borrow.Author.Tests.{ne_eqb}
use Rattle.regs.proofs.Tests.{by_test}
use Rattle.regs.specs.Program.{Behaviour, ends}
use Rattle.regs.specs.declared.answers.Answer.{Answer}
use Rattle.regs.specs.declared.answers.Answer.TheVariants.{Accepted}
use Rattle.regs.proofs.Refine.{ends_agree}
use Rattle.master.specs.Driver.{setup, reason_of}
use Rattle.master.specs.Async.{is_empty}
use Rattle.master.specs.Operations.{read, write, write_read, transaction, listed}
use Rattle.master.specs.Transfer.{blocking_read, read_async, blocking_write, write_async, blocking_write_read}
use Rattle.master.specs.Transfer.{write_read_async, blocking_transaction, transaction_async, each_operation}
use Rattle.master.specs.Transfer.{read_internal, write_internal, transfer}
use Rattle.transfer.specs.Inner.Points.{with_point, mode_of}
use Rattle.transfer.specs.Inner.Machine.{next_at, first_point, tested_point, started, opened, opened_write, opened_read, length_for, begun}
use Rattle.transfer.specs.declared.Transfer.{Transfer}
use Rattle.transfer.specs.declared.Mode.{Mode}
use Rattle.transfer.specs.declared.Mode.TheVariants.{Blocking, Async}
use Rattle.transfer.specs.declared.Point.{Point}
use Rattle.i2c.proofs.Basics.{MOST, M, Agrees, setup_agrees}
use Rattle.i2c.proofs.Operations.{read_agrees, write_agrees}
use Rattle.i2c.proofs.Listed.{Left, last_listed, operations_agree}
use Rattle.i2c.proofs.Bytes.{Held}

-- `setup`, then k
module _ (coded : Bool) (kinds lengths bytes : List ℕ) (t : Transfer) (m n : ℕ) (b : List ℕ) (k : Unit {0} → Behaviour (Unit {0}) Answer)
    (next : (m' : ℕ) → m' < m → (p : Point) → Agrees coded kinds lengths bytes m' (begun coded kinds lengths (with_point t p)) b (k tt)) where
  refused : ltb t.address 0x80 ≡ false
      → Agrees coded kinds lengths bytes m (with_point t (tested_point t.address)) b (setup t.address n k)
  unfolding tested_point setup next_at
  refused q = rw q (ends_agree (M coded kinds lengths bytes) m refl)

  in_range : ltb t.address 0x80 ≡ true
      → Agrees coded kinds lengths bytes m (with_point t (tested_point t.address)) b (setup t.address n k)
  unfolding tested_point
  in_range q = rw q (setup_agrees coded kinds lengths bytes t m n b k q next)

  pub set_up : Agrees coded kinds lengths bytes m (with_point t (tested_point t.address)) b (setup t.address n k)
  set_up = by_test (ltb t.address 0x80) in_range refused

-- a transfer of one read
module _ (mode : Mode) (address len : ℕ) (fits : len ≤ MOST) (bytes : List ℕ) where
  read_next : (m n : ℕ) → m ≤ n → (p : Point) (b : List ℕ)
      → Agrees false (0 ∷ []) (len ∷ []) bytes m
      (begun false (0 ∷ []) (len ∷ []) (with_point (started mode true address (0 ∷ [])) p)) b
      (read_internal reason_of (mode_of mode) 0 len true true n (λ _. ends Accepted))
  unfolding begun length_for opened opened_read next_at
  read_next m n h p b =
      read_agrees false (0 ∷ []) (len ∷ []) bytes
      (opened_read (with_point (started mode true address (0 ∷ [])) p) 1 len true) (λ _. ends Accepted) n n m h
      h
      (λ m₁ h₁ p b. ends_agree (M false (0 ∷ []) (len ∷ []) bytes) m₁ refl) b mode true refl (omega arith)

pub read_transfer : (mode : Mode) (address len : ℕ) → len ≤ MOST → (bytes : List ℕ) (m n : ℕ) → m ≤ n → (b : List ℕ)
    → Agrees false (0 ∷ []) (len ∷ []) bytes m (started mode true address (0 ∷ [])) b
    (transfer reason_of (mode_of mode) address (read len) n ends)
unfolding blocking_read read_async first_point
read_transfer Blocking address len fits bytes m n h b =
    set_up false (0 ∷ []) (len ∷ []) bytes (started Blocking true address (0 ∷ [])) m n b _
    (λ m₁ l₁ p. read_next Blocking address len fits bytes m₁ n (omega arith) p b)
read_transfer Async address len fits bytes m n h b =
    set_up false (0 ∷ []) (len ∷ []) bytes (started Async true address (0 ∷ [])) m n b _
    (λ m₁ l₁ p. read_next Async address len fits bytes m₁ n (omega arith) p b)

-- a write of the whole lent buffer
whole_held : (t : Transfer) (bytes : List ℕ) (j : ℕ) (last : Bool)
    → t.writes ≡ 0
    → Held bytes (opened_write false t j (length bytes) last) bytes 0
unfolding opened_write
whole_held t bytes j last e = record { same = λ j l. rw (e, zero-add j, zero-add j); sum = omega arith }

-- of one write
module _ (mode : Mode) (address : ℕ) (bytes : List ℕ) where
  write_next : (m n : ℕ) → m ≤ n → (p : Point) (b : List ℕ)
      → Agrees false (1 ∷ []) (length bytes ∷ []) bytes m
      (begun false (1 ∷ []) (length bytes ∷ []) (with_point (started mode true address (1 ∷ [])) p)) b
      (write_internal reason_of (mode_of mode) bytes true n (λ _. ends Accepted))
  unfolding begun length_for opened opened_write next_at
  write_next m n h p b =
      write_agrees false (1 ∷ []) (length bytes ∷ []) bytes
      (opened_write false (with_point (started mode true address (1 ∷ [])) p) 1 (length bytes) true)
      (λ _. ends Accepted) n n m h h
      (λ m₁ h₁ p b. ends_agree (M false (1 ∷ []) (length bytes ∷ []) bytes) m₁ refl) b mode bytes
      (whole_held (with_point (started mode true address (1 ∷ [])) p) bytes 1 true refl) refl

pub write_transfer : (mode : Mode) (address : ℕ) (bytes : List ℕ) (m n : ℕ) → m ≤ n → (b : List ℕ)
    → Agrees false (1 ∷ []) (length bytes ∷ []) bytes m (started mode true address (1 ∷ [])) b
    (transfer reason_of (mode_of mode) address (write bytes) n ends)
unfolding blocking_write write_async first_point
write_transfer Blocking address bytes m n h b =
    set_up false (1 ∷ []) (length bytes ∷ []) bytes (started Blocking true address (1 ∷ [])) m n b _
    (λ m₁ l₁ p. write_next Blocking address bytes m₁ n (omega arith) p b)
write_transfer Async address bytes m n h b =
    set_up false (1 ∷ []) (length bytes ∷ []) bytes (started Async true address (1 ∷ [])) m n b _
    (λ m₁ l₁ p. write_next Async address bytes m₁ n (omega arith) p b)

-- of a write and a read
module _ (mode : Mode) (address : ℕ) (bytes : List ℕ) (len : ℕ) (fits : len ≤ MOST) where
  abbrev both_lengths : List ℕ
  both_lengths = length bytes ∷ len ∷ []

  abbrev first : Point → Transfer
  first p = opened_write false (with_point (started mode true address (1 ∷ 0 ∷ [])) p) 1 (length bytes) false

  then_read : (p q : Point) (m n : ℕ) → m ≤ n → (b : List ℕ)
      → Agrees false (1 ∷ 0 ∷ []) both_lengths bytes m (begun false (1 ∷ 0 ∷ []) both_lengths (with_point (first p) q)) b
      (read_internal reason_of (mode_of mode) 0 len true true n (λ _. ends Accepted))
  unfolding begun length_for opened opened_write opened_read next_at
  then_read p q m n h b =
      read_agrees false (1 ∷ 0 ∷ []) both_lengths bytes (opened_read (with_point (first p) q) 2 len true) (λ _. ends Accepted) n n m h h
      (λ m₁ h₁ p b. ends_agree (M false (1 ∷ 0 ∷ []) both_lengths bytes) m₁ refl) b mode true refl (omega arith)

  write_first : (m n : ℕ) → m ≤ n → (p : Point) (b : List ℕ)
      → Agrees false (1 ∷ 0 ∷ []) both_lengths bytes m (begun false (1 ∷ 0 ∷ []) both_lengths (with_point (started mode true address (1 ∷ 0 ∷ [])) p)) b
      (write_internal reason_of (mode_of mode) bytes false n
      (λ _. read_internal reason_of (mode_of mode) 0 len true true n (λ _. ends Accepted)))
  unfolding begun length_for opened opened_write
  write_first m n h p b =
      write_agrees false (1 ∷ 0 ∷ []) both_lengths bytes (first p) _ n n m h h
      (λ m₁ h₁ q b. then_read p q m₁ n h₁ b) b mode bytes
      (whole_held (with_point (started mode true address (1 ∷ 0 ∷ [])) p) bytes 1 false refl) refl

pub write_read_transfer : (mode : Mode) (address : ℕ) (bytes : List ℕ) (len : ℕ) → len ≤ MOST → (m n : ℕ) → m ≤ n → (b : List ℕ)
    → Agrees false (1 ∷ 0 ∷ []) (length bytes ∷ len ∷ []) bytes m (started mode true address (1 ∷ 0 ∷ [])) b
    (transfer reason_of (mode_of mode) address (write_read bytes len) n ends)
unfolding blocking_write_read write_read_async first_point
write_read_transfer Blocking address bytes len fits m n h b =
    set_up false (1 ∷ 0 ∷ []) (length bytes ∷ len ∷ []) bytes (started Blocking true address (1 ∷ 0 ∷ [])) m n b _
    (λ m₁ l₁ p. write_first Blocking address bytes len fits m₁ n (omega arith) p b)
write_read_transfer Async address bytes len fits m n h b =
    set_up false (1 ∷ 0 ∷ []) (length bytes ∷ len ∷ []) bytes (started Async true address (1 ∷ 0 ∷ [])) m n b _
    (λ m₁ l₁ p. write_first Async address bytes len fits m₁ n (omega arith) p b)

-- of the operations that kinds and lengths list
module _ (mode : Mode) (address : ℕ) (kinds lengths bytes : List ℕ)
    (left : (p : Point) → Left kinds lengths bytes false (with_point (started mode false address kinds) p) kinds lengths)
  where
    listed_next : (m n : ℕ) → m ≤ n → (p : Point) (b : List ℕ)
        → Agrees false kinds lengths bytes m (begun false kinds lengths (with_point (started mode false address kinds) p)) b
        (each_operation reason_of (mode_of mode) 0 (listed kinds lengths bytes) n (λ _. ends Accepted))
    listed_next m n h p b = operations_agree kinds lengths bytes n kinds lengths
        (with_point (started mode false address kinds) p) m h b (left p)

pub transaction_transfer : (mode : Mode) (address : ℕ) (kinds lengths bytes : List ℕ)
    → ((p : Point) → Left kinds lengths bytes false (with_point (started mode false address kinds) p) kinds lengths)
    → (m n : ℕ)
    → m ≤ n
    → (b : List ℕ)
    → Agrees false kinds lengths bytes m (started mode false address kinds) b
    (transfer reason_of (mode_of mode) address (transaction (listed kinds lengths bytes)) n ends)
unfolding blocking_transaction transaction_async first_point listed each_operation next_at
transaction_transfer Blocking address kinds lengths bytes left m n h b =
    set_up false kinds lengths bytes (started Blocking false address kinds) m n b _
    (λ m₁ l₁ p. listed_next Blocking address kinds lengths bytes left m₁ n (omega arith) p b)
transaction_transfer Async address [] lengths bytes left m n h b = ends_agree (M false [] lengths bytes) m refl
transaction_transfer Async address (kind ∷ kinds) lengths bytes left m n h b =
    let z : is_empty (listed (kind ∷ kinds) lengths bytes) ≡ false =
    sym (last_listed (kind ∷ kinds) 0 (kind ∷ kinds) lengths bytes refl (omega arith)
    (left (started Async false address (kind ∷ kinds)).point).as_many)
    ∙ ne_eqb 0 (suc (length kinds)) (λ e. absurd (omega arith))
    in
    rw (z, ne_eqb (suc (length kinds)) 0 (λ e. absurd (omega arith)))
    (set_up false (kind ∷ kinds) lengths bytes (started Async false address (kind ∷ kinds)) m n b _
    (λ m₁ l₁ p. listed_next Async address (kind ∷ kinds) lengths bytes left m₁ n (omega arith) p b))
