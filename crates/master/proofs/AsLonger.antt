-- `as_longer`: a coded transfer whose operations all have data leaves what the plain transfer on the longer operations
-- leaves, but for 22. The two are alike (Alike.antt), function by function (AlikeParts.antt).
use Prim.Native.Nat.{ℕ, zero, suc, ◌+◌, ◌/◌}
use mathlib.Core.Bool.{true, false}
use mathlib.Core.List.{List, [], ◌∷◌}
use mathlib.Core.Path.{◌≡◌, refl}
use lib.ListN.{length}
use Rattle.regs.specs.Log.{Each}
use Rattle.regs.specs.Left.{bytes_read}
use Rattle.regs.specs.declared.answers.Answer.TheVariants.{Accepted}
use Rattle.regs.specs.Program as P
use Rattle.master.specs.Driver.{setup, reason_of}
use Rattle.master.specs.Async.{is_empty}
use Rattle.master.specs.Operations.{Operation, writes, reads, Transfer, read, write, write_read, transaction, Mode, blocking, async}
use Rattle.master.specs.Operations.{operations_of}
use Rattle.master.specs.Transfer.{each_operation, blocking_read, blocking_write, blocking_write_read, blocking_transaction}
use Rattle.master.specs.Transfer.{read_async, write_async, write_read_async, transaction_async, transfer}
use Rattle.master.specs.Demand3.{NotEmpty}
use Rattle.master.specs.Coded.{code_of, longer, with_code, room_of, each_coded, longer_transfer, restarts}
use Rattle.master.specs.CodedLaws.{coded_left, plain_left, Small, longer_form, LongerLeft, AsLonger}
use Rattle.master.proofs.Emits.{Does}
use Rattle.master.proofs.Buffer.{operate}
use Rattle.master.proofs.Alike.{Alike, ends_alike, late}
use Rattle.master.proofs.AlikeLeft.{alike_left}
use Rattle.master.proofs.AlikeParts.{setup_same, read_same, same_sent, code_sent, write_alike}

pub some_left : (b : ℕ) (o : Operation ℕ) (os : List (Operation ℕ)) → is_empty (with_code b (o ∷ os)) ≡ false
unfolding with_code
some_left b o [] = refl
some_left b o (p ∷ os) = refl

module _ (c : ℕ) (mode : Mode) (n : ℕ) (k : Unit {0} → Does) (h : Alike c true (k tt) (k tt)) where
  last_alike : (offset : ℕ) (o : Operation ℕ) → NotEmpty o → Small o
      → Alike c false (each_coded reason_of mode false offset (longer 0 o ∷ []) n k)
      (each_operation reason_of mode offset (longer c o ∷ []) n k)
  unfolding each_coded each_operation
  last_alike offset (writes []) some small = absurd some
  last_alike offset (writes (x ∷ xs)) some small = late (write_alike c mode true x x _ _ (code_sent c x xs small) n _ _ h)
  last_alike offset (reads zero) some small = absurd some
  last_alike offset (reads (suc m)) some small = read_same mode offset _ false true c n _ _ (λ _. late h)

  operations_alike : (offset : ℕ) (os : List (Operation ℕ)) → Each NotEmpty os → Each Small os
      → Alike c false (each_coded reason_of mode false offset (with_code 0 os) n k)
      (each_operation reason_of mode offset (with_code c os) n k)
  unfolding each_coded each_operation with_code
  operations_alike offset [] some small = late h
  operations_alike offset (o ∷ []) some small = last_alike offset o some.0 small.0
  operations_alike offset (writes [] ∷ (p ∷ os)) some small = absurd some.0
  operations_alike offset (writes (x ∷ xs) ∷ (p ∷ os)) some small =
      rw (some_left 0 p os, some_left c p os) (write_alike c mode false x x xs xs (same_sent c (x ∷ xs) small.0) n _ _
      (operations_alike offset (p ∷ os) some.1 small.1))
  operations_alike offset (reads zero ∷ (p ∷ os)) some small = absurd some.0
  operations_alike offset (reads (suc m) ∷ (p ∷ os)) some small =
      rw (some_left 0 p os, some_left c p os) (read_same mode offset (suc m) false false c n _ _
      (λ _. operations_alike (offset + suc m) (p ∷ os) some.1 small.1))

-- what follows `setup`

abbrev coded_part : Mode → ℕ → Transfer ℕ → Does
coded_part mode n t = each_coded reason_of mode (restarts t) 0 (with_code 0 (operations_of t)) n (λ _. P.ends Accepted)

abbrev plain_part : ℕ → Mode → ℕ → Transfer ℕ → Does
plain_part c mode n t = operate mode (longer_form c t) n (λ _. P.ends Accepted)

pub part_alike : (c : ℕ) (mode : Mode) (n : ℕ) (t : Transfer ℕ) → Each NotEmpty (operations_of t) → Each Small (operations_of t)
    → Alike c false (coded_part mode n t) (plain_part c mode n t)
unfolding each_coded with_code
part_alike c mode n (read zero) some small = absurd some.0
part_alike c mode n (read (suc m)) some small = read_same mode 0 _ true true c n _ _ (λ _. ends_alike)
part_alike c mode n (write []) some small = absurd some.0
part_alike c mode n (write (x ∷ xs)) some small =
    late (write_alike c mode true x x _ _ (code_sent c x xs small.0) n _ _ ends_alike)
part_alike c mode n (write_read [] m) some small = absurd some.0
part_alike c mode n (write_read (x ∷ xs) zero) some small = absurd some.1.0
part_alike c mode n (write_read (x ∷ xs) (suc m)) some small =
    write_alike c mode false x x xs xs (same_sent c (x ∷ xs) small.0) n _ _ (read_same mode 0 _ true true c n _ _ (λ _. ends_alike))
part_alike c mode n (transaction os) some small = operations_alike c mode n (λ _. P.ends Accepted) ends_alike 0 os some small

set_up : (c address n : ℕ) (t u : Does) → Alike c false t u → Alike c false (setup address n (λ _. t)) (setup address n (λ _. u))
set_up c address n t u h = setup_same address c false n _ _ (λ _. h)

pub transfer_alike : (c : ℕ) (mode : Mode) (address n : ℕ) (t : Transfer ℕ) → Alike c false (coded_part mode n t) (plain_part c mode n t)
    → Alike c false (longer_transfer reason_of mode (restarts t) address (with_code 0 (operations_of t)) n P.ends)
    (transfer reason_of mode address (longer_form c t) n P.ends)
unfolding longer_transfer with_code blocking_read blocking_write blocking_write_read blocking_transaction read_async write_async
    write_read_async transaction_async each_coded each_operation
transfer_alike c blocking address n (read m) h = set_up c address n _ _ h
transfer_alike c blocking address n (write []) h = set_up c address n _ _ h
transfer_alike c blocking address n (write (x ∷ xs)) h = set_up c address n _ _ h
transfer_alike c blocking address n (write_read bs m) h = set_up c address n _ _ h
transfer_alike c blocking address n (transaction os) h = set_up c address n _ _ h
transfer_alike c async address n (read m) h = set_up c address n _ _ h
transfer_alike c async address n (write []) h = set_up c address n _ _ h
transfer_alike c async address n (write (x ∷ xs)) h = set_up c address n _ _ h
transfer_alike c async address n (write_read bs m) h = set_up c address n _ _ h
transfer_alike c async address n (transaction []) h = h
transfer_alike c async address n (transaction (o ∷ [])) h = set_up c address n _ _ h
transfer_alike c async address n (transaction (o ∷ (p ∷ os))) h = set_up c address n _ _ h

-- ---- the law

longer_left : (c : ℕ) (mode : Mode) (address : ℕ) (t : Transfer ℕ) (log readings buffer : List ℕ)
    → Each NotEmpty (operations_of t)
    → Each Small (operations_of t)
    → length buffer ≡ room_of (operations_of t)
    → c ≡ code_of address (operations_of t) (bytes_read (coded_left mode address t log readings buffer).log)
    → LongerLeft address (operations_of t) (coded_left mode address t log readings buffer)
    (plain_left mode address (longer_form c t) log readings buffer)
longer_left c mode address t log readings buffer some small size e =
    let n : ℕ = suc (length log / 2) in
    let f = alike_left address (operations_of t) (transfer_alike c mode address n t (part_alike c mode n t some small))
    [] (length log / 2) readings buffer size e in
    record { log = f.log; buffer = f.buffer; answer = f.answer }

pub as_longer : AsLonger
as_longer mode address t log readings buffer some small size =
    longer_left _ mode address t log readings buffer some small size refl
