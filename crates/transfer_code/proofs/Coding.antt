-- The code computed operation by operation is the code of the transfer: what is in the register and the message of the
-- operations that are left make the code of the whole (`Going`), and an operation taken in changes nothing of that.
use Prim.Native.Nat.{ℕ, ◌+◌, ◌<◌, ◌≤◌}
use native.Mathlib.Numerals.{add-one}
use native.Mathlib.Omega.{arith}
use mathlib.Core.Bool.{true, false, ◌||◌}
use mathlib.Core.List.{List, ◌∷◌, ◌++◌}
use mathlib.Core.Path.{◌≡◌, refl, sym, ap, ◌∙◌}
use lib.Dec.{eqb, leb}
use lib.ListN.{length, get_or, take, drop, drop_of_length-le}
use lib.Seq.{drop-cons, drop-drop}
use borrow.Author.Tests.{ne_eqb, eqb-true}
use Rattle.std.specs.Prelude.{Option, None, Some}
use Rattle.std.specs.Option.{option_eq}
use Rattle.crc8.specs.Crc8.{after_byte, crc8_from}
use Rattle.crc8.proofs.Laws.{in_parts}
use Rattle.crc8.proofs.Back.{low_byte}
use Rattle.regs.proofs.Tests.{both_of, by_test, false_true}
use Rattle.master.specs.Operations.{listed, total, known, lists, READ, WRITE}
use Rattle.master.specs.Coded.{code_of}
use Rattle.master.specs.Inner.Message.{opened, message_from}
use Rattle.master.proofs.MessageFrom.{message_is}
use Rattle.transfer.specs.Inner.Operations.{direction_of, number}
use Rattle.transfer_code.specs.Inner.Coding.{last_number, low_address, over_nothing, Room, with_operation}
use Rattle.transfer_code.specs.declared.code.Coding.{Coding}
use Rattle.transfer.specs.declared.operations.Direction.{Direction}
use Rattle.transfer.specs.declared.operations.Direction.TheVariants.{Read, Write}
use Rattle.transfer.specs.contracts.operations.DirectionPartialEq.TheImpl as equality

-- behind an operation of the same direction there is no address byte
pub opened_same : (crc address : ℕ) (direction : Direction) (last : Option Direction)
    → option_eq (equality.eq-value).it last (Some direction) ≡ true
    → crc ≡ crc8_from crc (opened address (last_number last) (number direction))
unfolding crc8_from
opened_same crc address d None h = absurd (false_true h)
opened_same crc address Read (Some Read) h = refl
opened_same crc address Read (Some Write) h = absurd (false_true h)
opened_same crc address Write (Some Read) h = absurd (false_true h)
opened_same crc address Write (Some Write) h = refl

-- and else there is
pub opened_other : (crc address : ℕ) (direction : Direction) (last : Option Direction)
    → option_eq (equality.eq-value).it last (Some direction) ≡ false
    → after_byte crc (low_address address (number direction)) ≡ crc8_from crc (opened address (last_number last) (number direction))
unfolding crc8_from
opened_other crc address Read None h = low_byte crc _
opened_other crc address Write None h = low_byte crc _
opened_other crc address Read (Some Read) h = absurd (false_true (sym h))
opened_other crc address Read (Some Write) h = low_byte crc _
opened_other crc address Write (Some Read) h = low_byte crc _
opened_other crc address Write (Some Write) h = absurd (false_true (sym h))

-- the register before a part and the part behind it
behind : (r : ℕ) (a b m : List ℕ) → crc8_from r (a ++ (b ++ m)) ≡ crc8_from (crc8_from (crc8_from r a) b) m
behind r a b m = in_parts r a (b ++ m) ∙ in_parts (crc8_from r a) b m

module _ (address : ℕ) (kinds lengths write read : List ℕ) where
  -- the message of what is left
  abbrev left : Coding → ℕ → List ℕ
  left c i =
      message_from address (last_number c.last) (listed (drop i kinds) (drop i lengths) (drop c.sent write)) (drop c.came read)

  -- what holds after i operations
  pub record Going (c : Coding) (i : ℕ) : Type 0 where
    pub same : crc8_from c.crc (left c i) ≡ code_of address (listed kinds lengths write) read
    pub within : i ≤ length kinds
    pub as_many : length kinds ≡ length lengths
    pub all_known : known (drop i kinds) ≡ true
    pub writes_fit : c.sent + total WRITE (drop i kinds) (drop i lengths) ≤ length write
    pub reads_fit : c.came + total READ (drop i kinds) (drop i lengths) ≤ length read

  pub begun : lists kinds lengths (length write) (length read) ≡ true → Going over_nothing 0
  begun h =
      let p = both_of (eqb (length kinds) (length lengths)) _ h in
      let p₁ = both_of (leb (length kinds) 64) _ p.1 in
      let p₂ = both_of (known kinds) _ p₁.1 in
      let p₃ = both_of (eqb (total WRITE kinds lengths) (length write)) _ p₂.1 in
      let p₄ = both_of (eqb (total READ kinds lengths) (length read)) _ p₃.1 in
      record {
        same = ap (crc8_from 0) (sym (message_is address (listed kinds lengths write) read));
        within = omega arith;
        as_many = eqb-true (length kinds) (length lengths) p.0;
        all_known = p₂.0;
        writes_fit = omega (arith, eqb-true (total WRITE kinds lengths) (length write) p₃.0);
        reads_fit = omega (arith, eqb-true (total READ kinds lengths) (length read) p₄.0);
      }

  -- the operations that are left, of which this is the first
  kinds_left : (i : ℕ) → i < length kinds → drop i kinds ≡ get_or kinds i 0 ∷ drop (i + 1) kinds
  kinds_left i h = rw (add-one i) (drop-cons kinds i 0 h)

  lengths_left : (i : ℕ) → i < length lengths → drop i lengths ≡ get_or lengths i 0 ∷ drop (i + 1) lengths
  lengths_left i h = rw (add-one i) (drop-cons lengths i 0 h)

  module _ {c : Coding} {i : ℕ} (g : Going c i) (h : i < length kinds) where
    abbrev kind : ℕ
    kind = get_or kinds i 0

    abbrev n : ℕ
    n = get_or lengths i 0

    abbrev ks : List ℕ
    ks = drop (i + 1) kinds

    abbrev ls : List ℕ
    ls = drop (i + 1) lengths

    known_left : (eqb kind READ || eqb kind WRITE ≡ true) × (known ks ≡ true)
    unfolding known
    known_left = both_of (eqb kind READ || eqb kind WRITE) (known ks) (rw (kinds_left i h) at g.all_known)

    is_read : eqb kind WRITE ≡ false → eqb kind READ ≡ true
    is_read q = by_test (eqb kind READ) (λ z. z)
        (λ z. absurd (false_true (rw (z, q) at known_left.0)))

    not_read : eqb kind WRITE ≡ true → eqb kind READ ≡ false
    not_read q = ne_eqb kind READ (λ y. absurd (omega (arith, eqb-true kind WRITE q)))

    written : eqb kind WRITE ≡ true → c.sent + (n + total WRITE ks ls) ≤ length write
    unfolding total
    written q = rw (kinds_left i h, lengths_left i (omega (arith, g.as_many)), q) at g.writes_fit

    written_else : eqb kind WRITE ≡ false → c.sent + total WRITE ks ls ≤ length write
    unfolding total
    written_else q = rw (kinds_left i h, lengths_left i (omega (arith, g.as_many)), q) at g.writes_fit

    came : eqb kind WRITE ≡ false → c.came + (n + total READ ks ls) ≤ length read
    unfolding total
    came q = rw (kinds_left i h, lengths_left i (omega (arith, g.as_many)), is_read q) at g.reads_fit

    came_else : eqb kind WRITE ≡ true → c.came + total READ ks ls ≤ length read
    unfolding total
    came_else q = rw (kinds_left i h, lengths_left i (omega (arith, g.as_many)), not_read q) at g.reads_fit

    -- its bytes are there
    pub room : {m : ℕ} → m ≡ n → Room c (direction_of kind) m (length write) (length read)
    room e = by_test (eqb kind WRITE) (λ q. rw q (omega (arith, written q))) (λ q. rw q (omega (arith, came q)))

    -- the message of what is left, by its first operation
    left_write : eqb kind WRITE ≡ true
        → left c i ≡ opened address (last_number c.last) WRITE ++ (take n (drop c.sent write)
        ++ message_from address WRITE (listed ks ls (drop (c.sent + n) write)) (drop c.came read))
    unfolding listed message_from
    left_write q = rw (kinds_left i h, lengths_left i (omega (arith, g.as_many)), q, ← drop-drop n c.sent write)

    left_read : eqb kind WRITE ≡ false
        → left c i ≡ opened address (last_number c.last) READ ++ (take n (drop c.came read)
        ++ message_from address READ (listed ks ls (drop c.sent write)) (drop (c.came + n) read))
    unfolding listed message_from
    left_read q = rw (kinds_left i h, lengths_left i (omega (arith, g.as_many)), q, ← drop-drop n c.came read)

    -- it is taken in
    taken_in : Going (with_operation address c (direction_of kind) n write read) (i + 1)
    unfolding with_operation
    taken_in = by_test (eqb kind WRITE)
        (λ q. rw q (record {
          same = sym (behind c.crc (opened address (last_number c.last) WRITE) (take n (drop c.sent write)) _)
              ∙ ap (crc8_from c.crc) (sym (left_write q)) ∙ g.same;
          within = omega arith;
          as_many = g.as_many;
          all_known = known_left.1;
          writes_fit = omega (arith, written q);
          reads_fit = came_else q;
        }))
        (λ q. rw q (record {
          same = sym (behind c.crc (opened address (last_number c.last) READ) (take n (drop c.came read)) _)
              ∙ ap (crc8_from c.crc) (sym (left_read q)) ∙ g.same;
          within = omega arith;
          as_many = g.as_many;
          all_known = known_left.1;
          writes_fit = written_else q;
          reads_fit = omega (arith, came q);
        }))

    pub gone : {m : ℕ} {c' : Coding} → m ≡ n → c' ≡ with_operation address c (direction_of kind) m write read → Going c' (i + 1)
    gone e e' = rw (e', e) taken_in

  -- none is left
  pub ended : {c : Coding} {i : ℕ} → Going c i → length kinds ≤ i → c.crc ≡ code_of address (listed kinds lengths write) read
  unfolding crc8_from listed message_from
  ended {c} {i} g h = rw (drop_of_length-le kinds {i = i} h) at g.same
