-- The running code of a coded transfer (specs/Inner/Running.antt) and the code that the transfer is to have: along what it
-- spells (Spells.antt), the register is the code of the message so far. Running.antt has what the transfer leaves.
use Prim.Native.Nat.{ℕ, suc, ◌+◌, ◌*◌, ◌/◌, ◌%◌, ◌^◌, ◌≤◌, ◌<◌}
use native.Mathlib.Omega.{arith}
use mathlib.Core.Bool.{Bool, true, false, not, ◌&&◌, ◌||◌}
use mathlib.Core.List.{List, [], ◌∷◌, ◌++◌, append-nil, append_assoc}
use mathlib.Core.Path.{◌≡◌, refl, sym, ap, ap₂, ◌∙◌}
use lib.Dec.{eqb, ltb}
use lib.ListN.{length, get_or, length-append}
use lib.Seq.{get_or_at}
use borrow.Author.Tests.{eqb-true, eqb-false, eq-eqb, ne_eqb, lt-ltb}
use Rattle.crc8.specs.Crc8.{after_byte, crc8_from}
use Rattle.crc8.proofs.Laws.{is_byte, residue, only_residue}
use Rattle.regs.specs.declared.access.Entry.{Entry}
use Rattle.regs.specs.Fields.{command_word, cmd, stop, dat}
use Rattle.std.specs.Prelude.{if◌then◌else◌}
use Rattle.regs.proofs.Tests.{by_test}
use Rattle.master.specs.Operations.{Operation, writes, reads, READ, WRITE}
use Rattle.master.specs.Coded.{code_of, room_of, ends_in_read, is_right}
use Rattle.master.specs.Inner.Message.{opened, message_from}
use Rattle.master.specs.Inner.Running.{Sum, with_byte, feed, fed}
use Rattle.master.proofs.Spells.{ToCome, data_and_code, nothing}

-- ---- a register and a byte

byte_below : (c x : ℕ) → c < 256 → after_byte c x < 256
unfolding crc8_from
byte_below c x h = is_byte c (x ∷ []) h

own_code : (c : ℕ) → c < 256 → after_byte c c ≡ 0
unfolding crc8_from
own_code c h = residue c [] h

only_code : (c x : ℕ) → c < 256 → x < 256 → after_byte c x ≡ 0 → x ≡ c
unfolding crc8_from
only_code c x h l e = only_residue c x [] h l e

-- the byte is the register exactly where it leaves 0
right_byte : (c x : ℕ) → c < 256 → x < 256 → eqb x c ≡ eqb (after_byte c x) 0
right_byte c x h l =
    by_test (eqb x c)
    (λ q. q ∙ sym (eq-eqb (after_byte c x) 0 (ap (after_byte c) (eqb-true x c q) ∙ own_code c h)))
    (λ q. q ∙ sym (ne_eqb (after_byte c x) 0 (λ e. eqb-false x c q (only_code c x h l e))))

-- ---- words of a write

module _ (b : ℕ) (small : b < 256) where
  pub byte_dat : dat (command_word b false false false) ≡ b
  byte_dat = omega arith

  pub byte_cmd : cmd (command_word b false false false) ≡ false
  byte_cmd = let e : command_word b false false false / 2 ^ 8 % 2 ≡ 0 = omega arith in rw e

  pub byte_stop : stop (command_word b false false false) ≡ false
  byte_stop = let e : command_word b false false false / 2 ^ 9 % 2 ≡ 0 = omega arith in rw e

  pub code_dat : dat (command_word b false true false) ≡ b
  code_dat = omega arith

  pub code_cmd : cmd (command_word b false true false) ≡ false
  code_cmd = let e : command_word b false true false / 2 ^ 8 % 2 ≡ 0 = omega arith in rw e

-- a word that asks for a byte is not changed
pub asks_only : (s q : Bool) → q ≡ true → s && not q ≡ false
asks_only true q e = ap not e
asks_only false q e = refl

-- ---- operations

any_read : (m n : ℕ) (os : List (Operation ℕ)) → ends_in_read (reads m ∷ os) ≡ ends_in_read (reads n ∷ os)
unfolding ends_in_read
any_read m n [] = refl
any_read m n (o ∷ os) = refl

any_write : (a b : List ℕ) (os : List (Operation ℕ)) → ends_in_read (writes a ∷ os) ≡ ends_in_read (writes b ∷ os)
unfolding ends_in_read
any_write a b [] = refl
any_write a b (o ∷ os) = refl

module _ (address : ℕ) where
  -- ---- the sum

  abbrev address_for : ℕ → ℕ
  address_for kind = address * 2 + (if eqb kind WRITE then 0 else 1)

  module _ (s : Sum) (kind x : ℕ) where
    -- an address byte where the direction turns, and the byte
    opened_code : (last : ℕ) (xs : List ℕ) → s.last ≡ last
        → crc8_from s.crc (opened address last kind ++ (x ∷ xs)) ≡ crc8_from (with_byte address s kind x).crc xs
    unfolding crc8_from with_byte
    opened_code last xs e = rw (← e) (go (eqb s.last kind))
      where
        go : (q : Bool)
            → crc8_from s.crc ((if q then [] else address_for kind ∷ []) ++ (x ∷ xs))
            ≡ crc8_from (after_byte (if q then s.crc else after_byte s.crc (address_for kind)) x) xs
        go true = refl
        go false = refl

    sum_small : s.crc < 256 → (with_byte address s kind x).crc < 256
    unfolding with_byte
    sum_small h = byte_below _ x (go (eqb s.last kind))
      where
        go : (q : Bool) → (if q then s.crc else after_byte s.crc (address_for kind)) < 256
        go true = h
        go false = byte_below s.crc _ h

    same_kind : s.last ≡ kind → (with_byte address s kind x).crc ≡ after_byte s.crc x
    unfolding with_byte
    same_kind e = rw (eq-eqb s.last kind e)

    sum_last : (with_byte address s kind x).last ≡ kind
    unfolding with_byte
    sum_last = refl

  pub fed_more : (s : Sum) (seen : List Entry) (e : Entry) → fed address s (seen ++ e ∷ []) ≡ feed address (fed address s seen) e
  unfolding fed
  fed_more s [] e = refl
  fed_more s (x ∷ seen) e = fed_more (feed address s x) seen e

  module _ (os : List (Operation ℕ)) where
    -- before the code: the register and what is to come say the code, whatever bytes come
    pub record Coming (last : ℕ) (rest : List (Operation ℕ)) (i : ℕ) (s : Sum) (got : List ℕ) : Type 0 where
      pub direction : s.last ≡ last
      pub small : s.crc < 256
      pub count : length got ≡ i
      pub room : i + room_of rest ≡ room_of os
      pub end : ends_in_read rest ≡ ends_in_read os
      pub code : (came : List ℕ) → code_of address os (got ++ came) ≡ crc8_from s.crc (message_from address last rest came)

    -- behind it the register says whether the code is right
    abbrev pub Agrees : ToCome → ℕ → Sum → List ℕ → Type 0
    Agrees (data_and_code last rest) i s got = Coming last rest i s got
    Agrees nothing i s got = is_right address os got ≡ eqb s.crc 0

    module _ {i : ℕ} {s : Sum} {got : List ℕ} where
      pub got_byte : {last n : ℕ} {rest : List (Operation ℕ)} (x : ℕ) → Coming last (reads (suc n) ∷ rest) i s got
          → Coming READ (reads n ∷ rest) (suc i) (with_byte address s READ x) (got ++ x ∷ [])
      unfolding message_from room_of
      got_byte {last} {n} {rest} x h = record {
        direction = sum_last s READ x;
        small = sum_small s READ x h.small;
        count = omega (arith, length-append got (x ∷ []), h.count);
        room = omega (arith, h.room);
        end = any_read n (suc n) rest ∙ h.end;
        code = λ came. ap (code_of address os) (append_assoc got (x ∷ []) came) ∙ h.code (x ∷ came)
            ∙ opened_code s READ x last _ h.direction;
      }

      pub put_byte : {last b : ℕ} {bs : List ℕ} {rest : List (Operation ℕ)} → Coming last (writes (b ∷ bs) ∷ rest) i s got
          → Coming WRITE (writes bs ∷ rest) i (with_byte address s WRITE b) got
      unfolding message_from room_of
      put_byte {last} {b} {bs} {rest} h = record {
        direction = sum_last s WRITE b;
        small = sum_small s WRITE b h.small;
        count = h.count;
        room = h.room;
        end = any_write bs (b ∷ bs) rest ∙ h.end;
        code = λ came. h.code came ∙ opened_code s WRITE b last _ h.direction;
      }

      pub over_read : {o : Operation ℕ} {rest : List (Operation ℕ)} → Coming READ (reads 0 ∷ (o ∷ rest)) i s got
          → Coming READ (o ∷ rest) i s got
      unfolding message_from room_of ends_in_read
      over_read h = record {
        direction = h.direction;
        small = h.small;
        count = h.count;
        room = omega (arith, h.room);
        end = h.end;
        code = h.code;
      }

      pub over_write : {o : Operation ℕ} {rest : List (Operation ℕ)} → Coming WRITE (writes [] ∷ (o ∷ rest)) i s got
          → Coming WRITE (o ∷ rest) i s got
      unfolding message_from room_of ends_in_read
      over_write h = record {
        direction = h.direction;
        small = h.small;
        count = h.count;
        room = h.room;
        end = h.end;
        code = h.code;
      }

      -- the code that is due is the register, and then the register is 0
      pub due : Coming WRITE (writes [] ∷ []) i s got → code_of address os got ≡ s.crc
      unfolding message_from crc8_from
      due h = ap (code_of address os) (sym (append-nil got)) ∙ h.code []

      pub put_code : Coming WRITE (writes [] ∷ []) i s got
          → is_right address os got ≡ eqb (with_byte address s WRITE s.crc).crc 0
      unfolding ends_in_read
      put_code h =
          ap (λ (q : Bool). not q || eqb (get_or got (room_of os) 0) (code_of address os got)) (sym h.end)
          ∙ sym (ap (λ (c : ℕ). eqb c 0) (same_kind s WRITE s.crc h.direction ∙ own_code s.crc h.small))

      pub got_code : (x : ℕ) → x < 256 → Coming READ (reads 0 ∷ []) i s got
          → is_right address os (got ++ x ∷ []) ≡ eqb (with_byte address s READ x).crc 0
      unfolding message_from crc8_from room_of ends_in_read
      got_code x l h =
          let place : length got ≡ room_of os = omega (arith, h.count, h.room) in
          let byte : get_or (got ++ x ∷ []) (room_of os) 0 ≡ x = get_or_at got x [] 0 (room_of os) place in
          let code : code_of address os (got ++ x ∷ []) ≡ s.crc = h.code (x ∷ []) in
          ap (λ (q : Bool). not q || eqb (get_or (got ++ x ∷ []) (room_of os) 0) (code_of address os (got ++ x ∷ [])))
          (sym h.end)
          ∙ ap₂ eqb byte code
          ∙ right_byte s.crc x h.small l
          ∙ sym (ap (λ (c : ℕ). eqb c 0) (same_kind s READ x h.direction))

      -- the place of a byte is in the buffer, that of the code is past it
      pub has_place : {last n p : ℕ} {rest : List (Operation ℕ)} → p ≡ i → Coming last (reads (suc n) ∷ rest) i s got
          → ltb p (room_of os) ≡ true
      unfolding room_of
      has_place {p = p} e h = lt-ltb p (room_of os) (omega (arith, h.room))

      pub no_place : {p : ℕ} → p ≡ i → Coming READ (reads 0 ∷ []) i s got → room_of os ≤ p
      unfolding room_of
      no_place e h = omega (arith, h.room)
