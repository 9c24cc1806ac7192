-- The operations that kinds and lengths list: a transaction's loop, for both modes together.
use Prim.Native.Nat.{ℕ, suc, ◌+◌, ◌%◌, ◌^◌, ◌<◌, ◌≤◌}
use native.Mathlib.Omega.{arith}
use native.Mathlib.Nat.{zero-add}
use native.Mathlib.Numerals.{add-one}
use mathlib.Core.Bool.{Bool, true, false, ◌||◌, true≢false}
use mathlib.Core.List.{List, [], ◌∷◌}
use mathlib.Core.Path.{◌≡◌, refl, sym, ap, ◌∙◌, subst}
use lib.Dec.{eqb}
use lib.ListN.{length, get_or, take, drop, length-drop}
use lib.Seq.{drop-cons, drop-drop, length-take-le, get_or-take, get_or-drop}
use borrow.Author.Tests.{lt-ltb, le-ltb, eq-eqb, ne_eqb, eqb-true}
use Rattle.regs.proofs.Tests.{by_test}
use Rattle.regs.specs.Program.{ends}
use Rattle.regs.specs.declared.answers.Answer.TheVariants.{Accepted}
use Rattle.regs.proofs.Refine.{ends_agree}
use Rattle.master.specs.Driver.{reason_of}
use Rattle.master.specs.Async.{is_empty}
use Rattle.master.specs.Operations.{listed, total, known, READ, WRITE}
use Rattle.master.specs.Transfer.{each_operation}
use Rattle.transfer.specs.Inner.Points.{with_point, mode_of}
use Rattle.transfer.specs.Inner.Machine.{next_at, opened, opened_write, opened_read, length_for, begun}
use Rattle.transfer.specs.declared.Transfer.{Transfer}
use Rattle.transfer.specs.declared.Point.{Point}
use Rattle.i2c.proofs.Basics.{first, second, sum_is, M, Agrees}
use Rattle.i2c.proofs.Bytes.{Held}
use Rattle.i2c.proofs.Operations.{read_agrees, write_agrees}

-- the front of what is left of a list
pub front : (xs : List ℕ) (j x : ℕ) (rest : List ℕ) → drop j xs ≡ x ∷ rest → (j < length xs) × ((get_or xs j 0 ≡ x) × (drop (j + 1) xs ≡ rest))
front xs j x rest e =
    let lt : j < length xs = omega (arith, ap (λ (l : List ℕ). length l) e, length-drop j xs) in
    let w : get_or xs j 0 ∷ drop (suc j) xs ≡ x ∷ rest = sym (drop-cons xs j 0 lt) ∙ e in
    (lt, ((cc), rw (add-one j) (cc)))

-- none is left
pub nothing : (xs : List ℕ) (j : ℕ) → drop j xs ≡ [] → length xs ≤ j
nothing xs j e = omega (arith, ap (λ (l : List ℕ). length l) e, length-drop j xs)

-- an operation is the last where no kind is left
pub last_listed : (kinds : List ℕ) (j : ℕ) (ks ls bs : List ℕ)
    → drop j kinds ≡ ks
    → j ≤ length kinds
    → length ks ≡ length ls
    → eqb j (length kinds) ≡ is_empty (listed ks ls bs)
unfolding listed
last_listed kinds j [] ls bs e le s = eq-eqb j (length kinds) (omega (arith, nothing kinds j e))
last_listed kinds j (kind ∷ ks) [] bs e le s = absurd (omega (arith, s))
last_listed kinds j (kind ∷ ks) (n ∷ ls) bs e le s = some (eqb kind WRITE) refl
  where
    some : (q : Bool) → eqb kind WRITE ≡ q → eqb j (length kinds) ≡ is_empty (listed (kind ∷ ks) (n ∷ ls) bs)
    some true q = rw q (ne_eqb j (length kinds) (λ z. omega (arith, (front kinds j kind ks e).0)))
    some false q = rw q (ne_eqb j (length kinds) (λ z. omega (arith, (front kinds j kind ks e).0)))

-- a transfer before its next operation: what is left of kinds and lengths, and the lengths fit the lent buffers;
-- the bytes to write are all of the lent ones
pub record Left (kinds lengths bytes : List ℕ) (restart : Bool) (t : Transfer) (ks ls : List ℕ) : Type 0 where
  pub kinds_left : drop t.begun kinds ≡ ks
  pub lengths_left : drop t.begun lengths ≡ ls
  pub as_many : length ks ≡ length ls
  pub all_known : known ks ≡ true
  pub reads_fit : t.reads + total READ ks ls ≤ 4096
  pub writes_fit : t.writes + total WRITE ks ls ≡ length bytes
  pub bytes_fit : length bytes ≤ 4096
  pub same_restart : t.operation.restart ≡ restart

-- a kind that is known and no write is a read
pub is_read : (kind : ℕ) → (eqb kind READ || eqb kind WRITE) ≡ true → eqb kind WRITE ≡ false → eqb kind READ ≡ true
is_read kind e q = by_test (eqb kind READ) (λ z. z) (λ z. absurd (true≢false (sym (rw (z, q) at e))))

pub not_read : (kind : ℕ) → eqb kind WRITE ≡ true → eqb kind READ ≡ false
not_read kind q = ne_eqb kind READ (λ z. absurd (omega (arith, eqb-true kind WRITE q)))

module _ (kinds lengths bytes : List ℕ) where
  -- after a write of `len` bytes, and after a read
  pub write_left : (coded restart : Bool) (t : Transfer) (kind len : ℕ) (ks ls : List ℕ) (last : Bool) (p : Point)
      → Left kinds lengths bytes restart t (kind ∷ ks) (len ∷ ls)
      → eqb kind WRITE ≡ true
      → Left kinds lengths bytes restart (with_point (opened_write coded t (t.begun + 1) len last) p) ks ls
      × (t.writes + len + total WRITE ks ls ≡ length bytes)
  unfolding opened_write total known
  write_left coded restart t kind len ks ls last p left q =
      let w : t.writes + (len + total WRITE ks ls) ≡ length bytes = rw q at left.writes_fit in
      let r : t.reads + total READ ks ls ≤ 4096 = rw (not_read kind q) at left.reads_fit in
      let f : length bytes ≤ 4096 = left.bytes_fit in (
        record {
          kinds_left = (front kinds t.begun kind ks left.kinds_left).1.1;
          lengths_left = (front lengths t.begun len ls left.lengths_left).1.1;
          as_many = omega (arith, left.as_many);
          all_known = second (eqb kind READ || eqb kind WRITE) (known ks) left.all_known;
          reads_fit = r;
          writes_fit = rw (sum_is t.writes len (omega arith)) (omega arith);
          bytes_fit = f;
          same_restart = left.same_restart;
        },
        omega arith,
      )

  pub read_left : (restart : Bool) (t : Transfer) (kind len : ℕ) (ks ls : List ℕ) (last : Bool) (p : Point)
      → Left kinds lengths bytes restart t (kind ∷ ks) (len ∷ ls)
      → eqb kind WRITE ≡ false
      → Left kinds lengths bytes restart (with_point (opened_read t (t.begun + 1) len last) p) ks ls × (t.reads + len ≤ 4096)
  unfolding opened_read total known
  read_left restart t kind len ks ls last p left q =
      let w : t.writes + total WRITE ks ls ≡ length bytes = rw q at left.writes_fit in
      let r : t.reads + (len + total READ ks ls) ≤ 4096 = rw
      (is_read kind (first (eqb kind READ || eqb kind WRITE) (known ks) left.all_known) q)
      at left.reads_fit in (
        record {
          kinds_left = (front kinds t.begun kind ks left.kinds_left).1.1;
          lengths_left = (front lengths t.begun len ls left.lengths_left).1.1;
          as_many = omega (arith, left.as_many);
          all_known = second (eqb kind READ || eqb kind WRITE) (known ks) left.all_known;
          reads_fit = rw (sum_is t.reads len (omega arith)) (omega arith);
          writes_fit = w;
          bytes_fit = left.bytes_fit;
          same_restart = left.same_restart;
        },
        omega arith,
      )

  -- the bytes of a write lie at the front of those that are left
  pub held_front : (coded : Bool) (t : Transfer) (len : ℕ) (last : Bool)
      → t.writes + len ≤ length bytes
      → Held bytes (opened_write coded t (t.begun + 1) len last) (take len (drop t.writes bytes)) 0
  unfolding opened_write
  held_front coded t len last h =
      let e : length (take len (drop t.writes bytes)) ≡ len =
      length-take-le len (drop t.writes bytes) (rw (length-drop t.writes bytes) (omega arith)) in
      record {
        same = λ j l. rw (zero-add j)
            (sym (get_or-take len (drop t.writes bytes) j 0 (rw e at l) ∙ get_or-drop t.writes bytes j 0));
        sum = rw e (omega arith);
      }

  -- from the next operation to the end
  pub operations_agree : (n : ℕ) (ks ls : List ℕ) (t : Transfer) (m : ℕ) → m ≤ n → (b : List ℕ) → Left kinds lengths bytes false t ks ls
      → Agrees false kinds lengths bytes m (begun false kinds lengths t) b
      (each_operation reason_of (mode_of t.mode) t.reads (listed ks ls (drop t.writes bytes)) n
      (λ _. ends Accepted))
  unfolding begun length_for listed each_operation opened opened_write opened_read next_at
  operations_agree n [] ls t m h b left = rw
      (le-ltb t.begun (length kinds) (nothing kinds t.begun left.kinds_left))
      (ends_agree (M false kinds lengths bytes) m refl)
  operations_agree n (kind ∷ ks) [] t m h b left = absurd (omega (arith, left.as_many))
  operations_agree n (kind ∷ ks) (len ∷ ls) t m h b left =
      let f = front kinds t.begun kind ks left.kinds_left in
      let g = front lengths t.begun len ls left.lengths_left in
      by_test (eqb kind WRITE)
      (λ q.
      let room = (write_left false false t kind len ks ls (is_empty (listed ks ls (drop len (drop t.writes bytes)))) t.point left q).1 in
      let same : drop ((t.writes + len) % 2 ^ 64) bytes ≡ drop len (drop t.writes bytes) =
      rw (sum_is t.writes len (omega (arith, room, left.bytes_fit))) (sym (drop-drop len t.writes bytes)) in
      rw (
        lt-ltb t.begun (length kinds) f.0,
        f.1.0,
        g.1.0,
        q,
        last_listed kinds (t.begun + 1) ks ls (drop len (drop t.writes bytes)) f.1.1 (omega (arith, f.0))
            (omega (arith, left.as_many)),
      )
      (write_agrees false kinds lengths bytes
      (opened_write false t (t.begun + 1) len (is_empty (listed ks ls (drop len (drop t.writes bytes))))) _ n n m
      h h
      (λ m₁ h₁ p b. subst (λ (xs : List ℕ). Agrees false kinds lengths bytes m₁
      (begun false kinds lengths (with_point
      (opened_write false t (t.begun + 1) len (is_empty (listed ks ls (drop len (drop t.writes bytes))))) p)) b
      (each_operation reason_of (mode_of t.mode) t.reads (listed ks ls xs) n (λ _. ends Accepted))) same
      (operations_agree n ks ls (with_point
      (opened_write false t (t.begun + 1) len (is_empty (listed ks ls (drop len (drop t.writes bytes))))) p) m₁ h₁
      b (write_left false false t kind len ks ls (is_empty (listed ks ls (drop len (drop t.writes bytes)))) p left
      q).0))
      b t.mode (take len (drop t.writes bytes))
      (held_front false t len (is_empty (listed ks ls (drop len (drop t.writes bytes)))) (omega (arith, room))) refl))
      (λ q.
      let room = (read_left false t kind len ks ls (is_empty (listed ks ls (drop t.writes bytes))) t.point left q).1 in
      let same : (t.reads + len) % 2 ^ 64 ≡ t.reads + len = sum_is t.reads len (omega (arith, room)) in
      rw (
        lt-ltb t.begun (length kinds) f.0,
        f.1.0,
        g.1.0,
        q,
        last_listed kinds (t.begun + 1) ks ls (drop t.writes bytes) f.1.1 (omega (arith, f.0))
            (omega (arith, left.as_many)),
      )
      (read_agrees false kinds lengths bytes (opened_read t (t.begun + 1) len (is_empty (listed ks ls (drop t.writes bytes)))) _ n n m h h
      (λ m₁ h₁ p b. subst (λ (x : ℕ). Agrees false kinds lengths bytes m₁
      (begun false kinds lengths (with_point
      (opened_read t (t.begun + 1) len (is_empty (listed ks ls (drop t.writes bytes)))) p)) b
      (each_operation reason_of (mode_of t.mode) x (listed ks ls (drop t.writes bytes)) n (λ _. ends Accepted)))
      same
      (operations_agree n ks ls (with_point
      (opened_read t (t.begun + 1) len (is_empty (listed ks ls (drop t.writes bytes)))) p) m₁ h₁ b
      (read_left false t kind len ks ls (is_empty (listed ks ls (drop t.writes bytes))) p left q).0))
      b t.mode false left.same_restart (omega (arith, room))))
