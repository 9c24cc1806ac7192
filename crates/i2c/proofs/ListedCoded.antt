-- The operations that kinds and lengths list, with a packet error code: an empty write is refused, and the last operation is
-- one byte longer. Past the lent bytes the machine sends 0, which stands where the code goes. By the lemmas of one operation
-- (Operations.antt).
use Prim.Native.Nat.{ℕ, zero, suc, ◌+◌, ◌%◌, ◌^◌, ◌≤◌}
use native.Mathlib.Omega.{arith}
use native.Mathlib.Nat.{zero-add}
use native.Mathlib.Numerals.{add-one}
use mathlib.Core.Bool.{Bool, true, false, true≢false}
use mathlib.Core.List.{List, [], ◌∷◌, ◌++◌}
use mathlib.Core.Path.{◌≡◌, refl, sym, ◌∙◌, subst}
use lib.Dec.{eqb}
use lib.ListN.{length, get_or, take, drop, length-drop, length-append}
use lib.Seq.{drop-drop, take-length, get_or-drop}
use borrow.Author.Tests.{lt-ltb, le-ltb, eq-eqb, ne_eqb}
use Rattle.regs.proofs.Tests.{by_test}
use Rattle.regs.specs.Program.{Behaviour, ends, exit, when}
use Rattle.regs.specs.declared.answers.Answer.{Answer}
use Rattle.regs.specs.declared.answers.Answer.TheVariants.{Accepted, Refused}
use Rattle.regs.specs.declared.answers.Refusal.TheVariants.{InvalidWriteBufferLength}
use Rattle.regs.proofs.Refine.{ends_agree}
use Rattle.master.specs.Driver.{reason_of}
use Rattle.master.specs.Async.{is_empty}
use Rattle.master.specs.Operations.{Operation, writes, reads, listed, total, WRITE}
use Rattle.master.specs.Transfer.{write_internal}
use Rattle.master.specs.Coded.{longer, with_code, each_coded}
use Rattle.transfer.specs.Inner.Points.{with_point, mode_of}
use Rattle.transfer.specs.Inner.Machine.{next_at, write_point, opened, opened_write, opened_read, longer_length, length_for, begun}
use Rattle.transfer.specs.declared.Transfer.{Transfer}
use Rattle.transfer.specs.declared.Mode.{Mode}
use Rattle.transfer.specs.declared.Mode.TheVariants.{Blocking, Async}
use Rattle.transfer.specs.declared.Point.{Point}
use Rattle.i2c.proofs.Basics.{sum_is, M, Agrees}
use Rattle.i2c.proofs.Bytes.{Held}
use Rattle.i2c.proofs.EndAsync.{Good}
use Rattle.i2c.proofs.Operations.{read_agrees, write_agrees}
use Rattle.i2c.proofs.Listed.{front, nothing, Left, write_left, read_left, held_front}

-- past its end a list of bytes reads 0
behind : (bytes : List ℕ) (i : ℕ) → get_or (bytes ++ 0 ∷ []) i 0 ≡ get_or bytes i 0
behind [] zero = refl
behind [] (suc i) = refl
behind (x ∷ bytes) zero = refl
behind (x ∷ bytes) (suc i) = behind bytes i

-- a listed operation is there
some_listed : (kind len : ℕ) (ks ls bs : List ℕ) → is_empty (listed (kind ∷ ks) (len ∷ ls) bs) ≡ false
unfolding listed
some_listed kind len ks ls bs = by_test (eqb kind WRITE) (λ q. rw q) (λ q. rw q)

-- with the code there are as many
pub still_some : (os : List (Operation ℕ)) → is_empty os ≡ false → is_empty (with_code 0 os) ≡ false
unfolding with_code
still_some [] e = e
still_some (o ∷ []) e = refl
still_some (o ∷ (p ∷ os)) e = refl

-- the code is with a later operation
code_later : (o : Operation ℕ) (os : List (Operation ℕ)) → is_empty os ≡ false → with_code 0 (o ∷ os) ≡ o ∷ with_code 0 os
unfolding with_code
code_later o [] e = absurd (true≢false e)
code_later o (p ∷ os) e = refl

module _ (kinds lengths bytes : List ℕ) where
  -- a write that may be empty
  module _ (t : Transfer) (k : Unit {0} → Behaviour (Unit {0}) Answer) (top n m : ℕ) (h : m ≤ top) (l : m ≤ n)
      (good : Good true kinds lengths bytes t k top) (b : List ℕ) where
    empty_write : (mode : Mode) → eqb t.operation.len 0 ≡ true
        → Agrees true kinds lengths bytes m (with_point t (write_point true mode t.operation.len)) b
        (ends (Refused InvalidWriteBufferLength))
    unfolding write_point next_at
    empty_write Blocking q = rw q (ends_agree (M true kinds lengths bytes) m refl)
    empty_write Async q = rw q (ends_agree (M true kinds lengths bytes) m refl)

    coded_write : (mode : Mode) (ws : List ℕ) → Held bytes t ws 0
        → Agrees true kinds lengths bytes m (with_point t (write_point true mode t.operation.len)) b
        (when (is_empty ws) (exit (Refused InvalidWriteBufferLength)) n
        (λ _. write_internal reason_of (mode_of mode) ws t.operation.send_stop n k))
    coded_write mode [] held = empty_write mode (eq-eqb t.operation.len 0 (omega (arith, held.sum)))
    coded_write mode (x ∷ ws) held = write_agrees true kinds lengths bytes t k top n m h l good b mode (x ∷ ws) held
        (ne_eqb t.operation.len 0 (λ z. omega (arith, held.sum)))

  -- the bytes of the last write, and the place of the code behind them
  held_longer : (t : Transfer) (len : ℕ) (last : Bool) → t.writes + len ≡ length bytes
      → Held bytes (opened_write true t (t.begun + 1) (len + 1) last) (take len (drop t.writes bytes) ++ 0 ∷ []) 0
  unfolding opened_write
  held_longer t len last h =
      let d : length (drop t.writes bytes) ≡ len = omega (arith, length-drop t.writes bytes) in
      let w : take len (drop t.writes bytes) ≡ drop t.writes bytes = rw d at (take-length (drop t.writes bytes)) in
      record {
        same = λ j l. rw (zero-add j, w) (sym (behind (drop t.writes bytes) j ∙ get_or-drop t.writes bytes j 0));
        sum = rw (w, zero-add (length (drop t.writes bytes ++ 0 ∷ [])), length-append (drop t.writes bytes) (0 ∷ []), d);
      }

  module _ (restart : Bool) (n : ℕ) where
    abbrev From : Transfer → ℕ → List (Operation ℕ) → Behaviour (Unit {0}) Answer
    From t offset os = each_coded reason_of (mode_of t.mode) restart offset os n (λ _. ends Accepted)

    -- none is left
    at_end : (t : Transfer) (m : ℕ) (b : List ℕ) (p : Point) → length kinds ≤ t.begun
        → Agrees true kinds lengths bytes m (begun true kinds lengths (with_point t p)) b (ends Accepted)
    unfolding begun next_at
    at_end t m b p h = rw (le-ltb t.begun (length kinds) h) (ends_agree (M true kinds lengths bytes) m refl)

    -- the last operation
    last_write : (t : Transfer) (len m : ℕ) → m ≤ n → (b : List ℕ)
        → t.writes + len ≡ length bytes
        → len ≤ 4096
        → length kinds ≤ t.begun + 1
        → (ws : List ℕ)
        → ws ≡ take len (drop t.writes bytes)
        → Agrees true kinds lengths bytes m (opened_write true t (t.begun + 1) (longer_length len) true) b
        (From t t.reads (longer 0 (writes ws) ∷ []))
    unfolding each_coded opened_write longer_length
    last_write t len m h b all small done [] e =
        let f = held_front kinds lengths bytes true t len true (omega (arith, all)) in
        let z : len ≡ 0 = omega (arith, rw (← e) at f.sum) in
        rw (eq-eqb len 0 z)
        (coded_write (opened_write true t (t.begun + 1) len true) (λ _. ends Accepted) n n m h h
        (λ m₁ h₁ p b. at_end (opened_write true t (t.begun + 1) len true) m₁ b p done) b t.mode [] (rw (← e) at f))
    last_write t len m h b all small done (x ∷ xs) e =
        let f = held_front kinds lengths bytes true t len true (omega (arith, all)) in
        let s : 0 + suc (length xs) ≡ len = rw (← e) at f.sum in
        rw (ne_eqb len 0 (λ z. omega arith), lt-ltb len 65535 (omega arith))
        (coded_write (opened_write true t (t.begun + 1) (len + 1) true) _ n n m h h
        (λ m₁ h₁ p b. at_end (opened_write true t (t.begun + 1) (len + 1) true) m₁ b p done) b t.mode
        (x ∷ (xs ++ 0 ∷ [])) (rw (← e) at (held_longer t len true all)))

    last_read : (t : Transfer) (len m : ℕ) → m ≤ n → (b : List ℕ)
        → t.reads + len ≤ 4096
        → length kinds ≤ t.begun + 1
        → t.operation.restart ≡ restart
        → Agrees true kinds lengths bytes m (opened_read t (t.begun + 1) (longer_length len) true) b
        (From t t.reads (longer 0 (reads len) ∷ []))
    unfolding each_coded opened_read longer_length
    last_read t zero m h b small done e =
        read_agrees true kinds lengths bytes (opened_read t (t.begun + 1) 0 true) _ n n m h h
        (λ m₁ h₁ p b. at_end (opened_read t (t.begun + 1) 0 true) m₁ b p done) b t.mode restart e (omega arith)
    last_read t (suc len) m h b small done e =
        rw (ne_eqb (suc len) 0 (λ z. omega arith), lt-ltb (suc len) 65535 (omega arith), add-one (suc len))
        (read_agrees true kinds lengths bytes (opened_read t (t.begun + 1) (suc (suc len)) true) _ n n m h h
        (λ m₁ h₁ p b. at_end (opened_read t (t.begun + 1) (suc (suc len)) true) m₁ b p done) b t.mode restart e (omega arith))

    -- an operation that others follow
    more_write : (t : Transfer) (len m : ℕ) (os : List (Operation ℕ)) → m ≤ n → (b : List ℕ)
        → t.writes + len ≤ length bytes
        → is_empty os ≡ false
        → ((m₁ : ℕ) → m₁ ≤ n → (p : Point) (b : List ℕ) → Agrees true kinds lengths bytes m₁
        (begun true kinds lengths (with_point (opened_write true t (t.begun + 1) len false) p)) b (From t t.reads (with_code 0 os)))
        → Agrees true kinds lengths bytes m (opened_write true t (t.begun + 1) len false) b
        (From t t.reads (with_code 0 (writes (take len (drop t.writes bytes)) ∷ os)))
    unfolding each_coded opened_write
    more_write t len m os h b room some next =
        rw (code_later (writes (take len (drop t.writes bytes))) os some, still_some os some)
        (coded_write (opened_write true t (t.begun + 1) len false) _ n n m h h next b t.mode
        (take len (drop t.writes bytes)) (held_front kinds lengths bytes true t len false room))

    more_read : (t : Transfer) (len m : ℕ) (os : List (Operation ℕ)) → m ≤ n → (b : List ℕ)
        → t.reads + len ≤ 4096
        → t.operation.restart ≡ restart
        → is_empty os ≡ false
        → ((m₁ : ℕ) → m₁ ≤ n → (p : Point) (b : List ℕ) → Agrees true kinds lengths bytes m₁
        (begun true kinds lengths (with_point (opened_read t (t.begun + 1) len false) p)) b (From t (t.reads + len) (with_code 0 os)))
        → Agrees true kinds lengths bytes m (opened_read t (t.begun + 1) len false) b
        (From t t.reads (with_code 0 (reads len ∷ os)))
    unfolding each_coded opened_read
    more_read t len m os h b room e some next =
        rw (code_later (reads len) os some, still_some os some)
        (read_agrees true kinds lengths bytes (opened_read t (t.begun + 1) len false) _ n n m h h next b t.mode restart e
        (omega arith))

    -- how an operation is opened, the last and another
    opens_last : (t : Transfer) (kind len : ℕ) → Left kinds lengths bytes restart t (kind ∷ []) (len ∷ [])
        → (begun true kinds lengths t ≡ opened true t (t.begun + 1) kind (longer_length len) true) × (length kinds ≤ t.begun + 1)
    unfolding begun length_for
    opens_last t kind len left =
        let f = front kinds t.begun kind [] left.kinds_left in
        let g = front lengths t.begun len [] left.lengths_left in
        let z : length kinds ≤ t.begun + 1 = nothing kinds (t.begun + 1) f.1.1 in (
          rw (lt-ltb t.begun (length kinds) f.0, f.1.0, g.1.0, eq-eqb (t.begun + 1) (length kinds) (omega (arith, f.0))),
          z,
        )

    opens_more : (t : Transfer) (kind kind₂ len len₂ : ℕ) (ks ls : List ℕ)
        → Left kinds lengths bytes restart t (kind ∷ (kind₂ ∷ ks)) (len ∷ (len₂ ∷ ls))
        → begun true kinds lengths t ≡ opened true t (t.begun + 1) kind len false
    unfolding begun length_for
    opens_more t kind kind₂ len len₂ ks ls left =
        let f = front kinds t.begun kind (kind₂ ∷ ks) left.kinds_left in
        let g = front lengths t.begun len (len₂ ∷ ls) left.lengths_left in
        let more = (front kinds (t.begun + 1) kind₂ ks f.1.1).0 in
        rw (
          lt-ltb t.begun (length kinds) f.0,
          f.1.0,
          g.1.0,
          ne_eqb (t.begun + 1) (length kinds) (λ z. omega (arith, more)),
        )

    -- from the next operation to the end
    pub coded_agree : (ks ls : List ℕ) (t : Transfer) (m : ℕ) → m ≤ n → (b : List ℕ) → Left kinds lengths bytes restart t ks ls
        → Agrees true kinds lengths bytes m (begun true kinds lengths t) b
        (From t t.reads (with_code 0 (listed ks ls (drop t.writes bytes))))
    unfolding listed with_code each_coded opened opened_write opened_read total
    coded_agree [] ls t m h b left = at_end t m b t.point (nothing kinds t.begun left.kinds_left)
    coded_agree (kind ∷ ks) [] t m h b left = absurd (omega (arith, left.as_many))
    coded_agree (kind ∷ []) (len ∷ (len₂ ∷ ls)) t m h b left = absurd (omega (arith, left.as_many))
    coded_agree (kind ∷ (kind₂ ∷ ks)) (len ∷ []) t m h b left = absurd (omega (arith, left.as_many))
    coded_agree (kind ∷ []) (len ∷ []) t m h b left =
        let o = opens_last t kind len left in
        by_test (eqb kind WRITE)
        (λ q.
        let room = (write_left kinds lengths bytes true restart t kind len [] [] true t.point left q).1 in
        rw (o.0, q)
        (last_write t len m h b (omega (arith, room)) (omega (arith, room, left.bytes_fit)) o.1
        (take len (drop t.writes bytes)) refl))
        (λ q.
        let room = (read_left kinds lengths bytes restart t kind len [] [] true t.point left q).1 in
        rw (o.0, q) (last_read t len m h b room o.1 left.same_restart))
    coded_agree (kind ∷ (kind₂ ∷ ks)) (len ∷ (len₂ ∷ ls)) t m h b left =
        by_test (eqb kind WRITE)
        (λ q.
        let room = (write_left kinds lengths bytes true restart t kind len (kind₂ ∷ ks) (len₂ ∷ ls) false t.point left q).1 in
        let same : drop ((t.writes + len) % 2 ^ 64) bytes ≡ drop len (drop t.writes bytes) =
        rw (sum_is t.writes len (omega (arith, room, left.bytes_fit))) (sym (drop-drop len t.writes bytes)) in
        rw (opens_more t kind kind₂ len len₂ ks ls left, q)
        (more_write t len m (listed (kind₂ ∷ ks) (len₂ ∷ ls) (drop len (drop t.writes bytes))) h b (omega (arith, room))
        (some_listed kind₂ len₂ ks ls (drop len (drop t.writes bytes)))
        (λ m₁ h₁ p b. subst (λ (xs : List ℕ). Agrees true kinds lengths bytes m₁
        (begun true kinds lengths (with_point (opened_write true t (t.begun + 1) len false) p)) b
        (From t t.reads (with_code 0 (listed (kind₂ ∷ ks) (len₂ ∷ ls) xs)))) same
        (coded_agree (kind₂ ∷ ks) (len₂ ∷ ls) (with_point (opened_write true t (t.begun + 1) len false) p) m₁ h₁ b
        (write_left kinds lengths bytes true restart t kind len (kind₂ ∷ ks) (len₂ ∷ ls) false p left q).0))))
        (λ q.
        let room = (read_left kinds lengths bytes restart t kind len (kind₂ ∷ ks) (len₂ ∷ ls) false t.point left q).1 in
        let same : (t.reads + len) % 2 ^ 64 ≡ t.reads + len = sum_is t.reads len (omega (arith, room)) in
        rw (opens_more t kind kind₂ len len₂ ks ls left, q)
        (more_read t len m (listed (kind₂ ∷ ks) (len₂ ∷ ls) (drop t.writes bytes)) h b room left.same_restart
        (some_listed kind₂ len₂ ks ls (drop t.writes bytes))
        (λ m₁ h₁ p b. subst (λ (x : ℕ). Agrees true kinds lengths bytes m₁
        (begun true kinds lengths (with_point (opened_read t (t.begun + 1) len false) p)) b
        (From t x (with_code 0 (listed (kind₂ ∷ ks) (len₂ ∷ ls) (drop t.writes bytes))))) same
        (coded_agree (kind₂ ∷ ks) (len₂ ∷ ls) (with_point (opened_read t (t.begun + 1) len false) p) m₁ h₁ b
        (read_left kinds lengths bytes restart t kind len (kind₂ ∷ ks) (len₂ ∷ ls) false p left q).0))))
