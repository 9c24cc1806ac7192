-- A message and its code behind it, on the bus: the bytes of a sequence whose last operation is one byte longer.
use Prim.Native.Nat.{ℕ, zero, suc, ◌+◌, ◌<◌}
use native.Mathlib.Omega.{arith}
use mathlib.Core.Path.{◌≡◌, refl, ap, sym, ◌∙◌}
use mathlib.Core.Logic.{◌≢◌}
use mathlib.Core.Bool.{true, false}
use mathlib.Core.List.{List, [], ◌∷◌, ◌++◌, map, append_assoc, append-nil}
use lib.ListN.{get_or, replicate}
use borrow.Author.Tests.{eqb-true}
use Rattle.crc8.specs.Crc8.{crc8_from, crc8}
use Rattle.crc8.proofs.Laws.{is_byte, in_parts, residue}
use Rattle.std.specs.Prelude.{if◌then◌else◌, Option, Some, None}
use Rattle.regs.specs.Log.{Each}
use Rattle.regs.proofs.Tests.{by_test}
use Rattle.bus.specs.declared.Direction.{Direction}
use Rattle.bus.specs.declared.Direction.TheVariants.{Writing, Reading}
use Rattle.bus.specs.declared.Bus.{Bus}
use Rattle.bus.specs.declared.Bus.TheVariants.{Idle, Busy}
use Rattle.bus.specs.declared.Condition.{Condition}
use Rattle.bus.specs.declared.Condition.TheVariants as C
use Rattle.bus.specs.declared.Sign.{Sign}
use Rattle.bus.specs.declared.Sign.TheVariants.{Start, Restart, Stop, Address, Written, ReadSlot}
use Rattle.bus.specs.Bus.{opening}
use Rattle.master.specs.Operations.{Operation, writes, reads}
use Rattle.master.specs.Sequence.{joined, direction, payload, sequence}
use Rattle.master.specs.Coded.{message, code_of, with_code, room_of, ends_in_read, is_right}
use Rattle.master.specs.CodedLaws.{slots}
use Rattle.master.specs.Demand3.{NotEmpty}
use Rattle.master.proofs.Sequence.{opens, front, map_append, body, append_three, sequence_body}
use Rattle.master.proofs.Longer.{not_nil}

-- ---- the sequence: one sign more before STOP

abbrev code_sign : ℕ → List (Operation ℕ) → Sign
code_sign c os = if ends_in_read os then ReadSlot else Written c

slots_and : (n : ℕ) → replicate (suc n) ReadSlot ≡ replicate n ReadSlot ++ ReadSlot ∷ []
slots_and zero = refl
slots_and (suc n) = ap (λ (ss : List Sign). ReadSlot ∷ ss) (slots_and n)

-- behind the one operation
behind : (before old new : List Sign) (s : Sign) → new ≡ old ++ s ∷ []
    → before ++ (new ++ []) ≡ (before ++ (old ++ [])) ++ s ∷ []
behind before old new s e =
    ap (λ (ss : List Sign). before ++ ss) (append-nil new ∙ (e ∙ ap (λ (ss : List Sign). ss ++ s ∷ []) (sym (append-nil old))))
    ∙ sym (append_assoc before (old ++ []) (s ∷ []))

code_body : (bus : Bus) (a c : ℕ) (os : List (Operation ℕ)) → os ≢ [] → Each NotEmpty os
    → body bus a (with_code c os) ≡ body bus a os ++ code_sign c os ∷ []
unfolding body with_code ends_in_read
code_body bus a c [] some full = absurd (some refl)
code_body bus a c (writes [] ∷ []) some full = absurd full.0
code_body bus a c (writes (x ∷ xs) ∷ []) some full =
    behind (front bus a Writing false) (map Written (x ∷ xs)) (map Written (x ∷ (xs ++ c ∷ []))) (Written c)
    (map_append Written (x ∷ xs) (c ∷ []))
code_body bus a c (reads zero ∷ []) some full = absurd full.0
code_body bus a c (reads (suc n) ∷ []) some full =
    behind (front bus a Reading false) (replicate (suc n) ReadSlot) (replicate (suc (suc n)) ReadSlot) ReadSlot (slots_and (suc n))
code_body bus a c (o ∷ (p ∷ os)) some full =
    ap (λ (ss : List Sign). front bus a (direction o) false ++ (payload o ++ ss))
    (code_body (Busy (direction o)) a c (p ∷ os) (not_nil p os) full.1)
    ∙ sym (append_three (front bus a (direction o) false) (payload o) (body (Busy (direction o)) a (p ∷ os)) (code_sign c (p ∷ os) ∷ []))

code_sequence : (a c : ℕ) (os : List (Operation ℕ)) → os ≢ [] → Each NotEmpty os
    → sequence a (joined (with_code c os)) ≡ body Idle a os ++ (code_sign c os ∷ Stop ∷ [])
code_sequence a c os some full =
    sequence_body a (with_code c os)
    ∙ (ap (λ (ss : List Sign). ss ++ Stop ∷ []) (code_body Idle a c os some full)
    ∙ append_assoc (body Idle a os) (code_sign c os ∷ []) (Stop ∷ []))

-- ---- its read slots

opening_slots : (o : Option Condition) (a : ℕ) (d : Direction) (ss : List Sign) → slots (opening o a d ++ ss) ≡ slots ss
unfolding slots
opening_slots None a d ss = refl
opening_slots (Some C.Start) a d ss = refl
opening_slots (Some C.Restart) a d ss = refl

written_slots : (bs : List ℕ) (ss : List Sign) → slots (map Written bs ++ ss) ≡ slots ss
unfolding slots
written_slots [] ss = refl
written_slots (b ∷ bs) ss = written_slots bs ss

read_slots : (n : ℕ) (ss : List Sign) → slots (replicate n ReadSlot ++ ss) ≡ n + slots ss
unfolding slots
read_slots zero ss = omega arith
read_slots (suc n) ss = ap suc (read_slots n ss) ∙ omega arith

body_slots : (bus : Bus) (a : ℕ) (os : List (Operation ℕ)) → slots (body bus a os) ≡ room_of os
unfolding body room_of slots
body_slots bus a [] = refl
body_slots bus a (writes bs ∷ os) =
    opening_slots (opens bus Writing false) a Writing _
    ∙ (written_slots bs _ ∙ body_slots (Busy Writing) a os)
body_slots bus a (reads n ∷ os) =
    opening_slots (opens bus Reading false) a Reading _
    ∙ (read_slots n _ ∙ ap (λ (k : ℕ). n + k) (body_slots (Busy Reading) a os))

-- ---- the bytes: one more at the end

written_last : (c : ℕ) (ss : List Sign) (came : List ℕ)
    → message (ss ++ (Written c ∷ Stop ∷ [])) came ≡ message (ss ++ Stop ∷ []) came ++ c ∷ []
unfolding message
written_last c [] came = refl
written_last c (Start ∷ ss) came = written_last c ss came
written_last c (Restart ∷ ss) came = written_last c ss came
written_last c (Stop ∷ ss) came = written_last c ss came
written_last c (Address a ∷ ss) came = ap (λ (bs : List ℕ). a ∷ bs) (written_last c ss came)
written_last c (Written b ∷ ss) came = ap (λ (bs : List ℕ). b ∷ bs) (written_last c ss came)
written_last c (ReadSlot ∷ ss) [] = written_last c ss []
written_last c (ReadSlot ∷ ss) (b ∷ came) = ap (λ (bs : List ℕ). b ∷ bs) (written_last c ss came)

-- the byte that came at n, if one did
abbrev came_at : ℕ → List ℕ → List ℕ
came_at n [] = []
came_at zero (b ∷ came) = b ∷ []
came_at (suc n) (b ∷ came) = came_at n came

slot_last : (ss : List Sign) (came : List ℕ)
    → message (ss ++ (ReadSlot ∷ Stop ∷ [])) came ≡ message (ss ++ Stop ∷ []) came ++ came_at (slots ss) came
unfolding message slots
slot_last [] [] = refl
slot_last [] (b ∷ came) = refl
slot_last (Start ∷ ss) came = slot_last ss came
slot_last (Restart ∷ ss) came = slot_last ss came
slot_last (Stop ∷ ss) came = slot_last ss came
slot_last (Address a ∷ ss) came = ap (λ (bs : List ℕ). a ∷ bs) (slot_last ss came)
slot_last (Written b ∷ ss) came = ap (λ (bs : List ℕ). b ∷ bs) (slot_last ss came)
slot_last (ReadSlot ∷ ss) [] = slot_last ss []
slot_last (ReadSlot ∷ ss) (b ∷ came) = ap (λ (bs : List ℕ). b ∷ bs) (slot_last ss came)

-- where none came, a code that is right is 0
came_right : (r n : ℕ) (came : List ℕ) → r < 256 → get_or came n 0 ≡ r → crc8_from r (came_at n came) ≡ 0
unfolding crc8_from
came_right r n [] h e = sym e
came_right r zero (b ∷ came) h e = rw e (residue r [] h)
came_right r (suc n) (b ∷ came) h e = came_right r n came h e

-- ---- the code

module _ (ss : List Sign) (came : List ℕ) (c : ℕ) (is_code : c ≡ crc8 (message (ss ++ Stop ∷ []) came)) where
  written_right : crc8 (message (ss ++ (Written c ∷ Stop ∷ [])) came) ≡ 0
  written_right =
      let bytes : List ℕ = message (ss ++ Stop ∷ []) came in
      ap crc8 (written_last c ss came)
      ∙ (ap (λ (b : ℕ). crc8 (bytes ++ b ∷ [])) is_code ∙ residue 0 bytes (omega arith))

  slot_right : get_or came (slots ss) 0 ≡ c → crc8 (message (ss ++ (ReadSlot ∷ Stop ∷ [])) came) ≡ 0
  slot_right e =
      let bytes : List ℕ = message (ss ++ Stop ∷ []) came in
      ap crc8 (slot_last ss came)
      ∙ (in_parts 0 bytes (came_at (slots ss) came)
      ∙ came_right (crc8 bytes) (slots ss) came (is_byte 0 bytes (omega arith)) (e ∙ is_code))

-- a message with its code behind it, sent or fetched and found right, has the code 0
pub code_behind : (a : ℕ) (os : List (Operation ℕ)) (came : List ℕ) → os ≢ [] → Each NotEmpty os → is_right a os came ≡ true
    → crc8 (message (sequence a (joined (with_code (code_of a os came) os))) came) ≡ 0
code_behind a os came some full right =
    let c : ℕ = code_of a os came in
    let same : c ≡ crc8 (message (body Idle a os ++ Stop ∷ []) came) = ap (λ (ss : List Sign). crc8 (message ss came)) (sequence_body a os) in
    let rest : crc8 (message (body Idle a os ++ (code_sign c os ∷ Stop ∷ [])) came) ≡ 0 =
    by_test (ends_in_read os)
    (λ q. rw q (slot_right (body Idle a os) came c same
    (ap (λ (n : ℕ). get_or came n 0) (body_slots Idle a os) ∙ eqb-true (get_or came (room_of os) 0) c (rw q at right))))
    (λ q. rw q (written_right (body Idle a os) came c same))
    in
    ap (λ (ss : List Sign). crc8 (message ss came)) (code_sequence a c os some full) ∙ rest
