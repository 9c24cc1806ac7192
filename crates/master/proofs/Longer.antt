-- Operations with a code behind them: those of the longer transfer, none of them empty, all of bytes; and what is lent to
-- a call within its limits is as long as its data.
use Prim.Native.Nat.{ℕ, zero, suc, ◌+◌, ◌<◌}
use native.Mathlib.Omega.{arith}
use mathlib.Core.Path.{◌≡◌, refl, ap, sym, ◌∙◌}
use mathlib.Core.Logic.{◌≢◌}
use mathlib.Core.Bool.{true}
use mathlib.Core.List.{List, [], ◌∷◌, ◌++◌}
use lib.ListN.{length}
use Rattle.regs.specs.Log.{Each}
use Rattle.master.specs.Operations.{Operation, writes, reads, Transfer, read, write, write_read, transaction}
use Rattle.master.specs.Operations.{operations_of, listed}
use Rattle.master.specs.Coded.{longer, with_code, room_of}
use Rattle.master.specs.CodedLaws.{longer_form}
use Rattle.master.specs.Calls.{Lent, reads_into, writes_from, writes_then_reads, transacts}
use Rattle.master.specs.Calls.{within_limits, buffer_in, operations_in}
use Rattle.master.specs.Demand3.{NotEmpty}
use Rattle.master.proofs.Sequence.{Bytes, OfBytes}
use Rattle.master.proofs.Buffer.{reads_in, reads_listed, lists_room}

pub not_nil : {A : Type 0} (x : A) (xs : List A) → x ∷ xs ≢ []
not_nil x xs e = let z : ◌≡◌ {A = ℕ} 0 1 = cc in omega arith

pub longer_operations : (c : ℕ) (t : Transfer ℕ) → operations_of (longer_form c t) ≡ with_code c (operations_of t)
unfolding with_code
longer_operations c (read zero) = refl
longer_operations c (read (suc n)) = refl
longer_operations c (write []) = refl
longer_operations c (write (x ∷ xs)) = refl
longer_operations c (write_read bytes zero) = refl
longer_operations c (write_read bytes (suc n)) = refl
longer_operations c (transaction os) = refl

pub longer_some : (c : ℕ) (os : List (Operation ℕ)) → os ≢ [] → with_code c os ≢ []
unfolding with_code
longer_some c [] some = some
longer_some c (o ∷ []) some = not_nil _ _
longer_some c (o ∷ (p ∷ os)) some = not_nil _ _

longer_not_empty : (c : ℕ) (o : Operation ℕ) → NotEmpty o → NotEmpty (longer c o)
longer_not_empty c (writes []) full = full
longer_not_empty c (writes (x ∷ xs)) full = full
longer_not_empty c (reads zero) full = full
longer_not_empty c (reads (suc n)) full = full

pub longer_full : (c : ℕ) (os : List (Operation ℕ)) → Each NotEmpty os → Each NotEmpty (with_code c os)
unfolding with_code
longer_full c [] full = tt
longer_full c (o ∷ []) full = (longer_not_empty c o full.0, tt)
longer_full c (o ∷ (p ∷ os)) full = (full.0, longer_full c (p ∷ os) full.1)

bytes_and : (bs : List ℕ) (c : ℕ) → c < 256 → Bytes bs → Bytes (bs ++ c ∷ [])
bytes_and [] c h small = (h, tt)
bytes_and (b ∷ bs) c h small = (small.0, bytes_and bs c h small.1)

longer_of_bytes : (c : ℕ) (o : Operation ℕ) → c < 256 → OfBytes o → OfBytes (longer c o)
longer_of_bytes c (writes []) h small = small
longer_of_bytes c (writes (x ∷ xs)) h small = (small.0, bytes_and xs c h small.1)
longer_of_bytes c (reads zero) h small = small
longer_of_bytes c (reads (suc n)) h small = small

pub longer_small : (c : ℕ) (os : List (Operation ℕ)) → c < 256 → Each OfBytes os → Each OfBytes (with_code c os)
unfolding with_code
longer_small c [] h small = tt
longer_small c (o ∷ []) h small = (longer_of_bytes c o h small.0, tt)
longer_small c (o ∷ (p ∷ os)) h small = (small.0, longer_small c (p ∷ os) h small.1)

pub room_reads : (os : List (Operation ℕ)) → room_of os ≡ reads_in os
unfolding room_of
room_reads [] = refl
room_reads (writes bytes ∷ os) = room_reads os
room_reads (reads n ∷ os) = ap (λ (k : ℕ). n + k) (room_reads os)

pub room_lent : (lent : Lent) → within_limits lent ≡ true → length (buffer_in lent) ≡ room_of (operations_in lent)
unfolding room_of
room_lent (reads_into buffer) e = omega arith
room_lent (writes_from bytes) e = refl
room_lent (writes_then_reads bytes buffer) e = omega arith
room_lent (transacts kinds lengths bytes buffer) e =
    let l = lists_room kinds lengths (length bytes) (length buffer) e in
    sym (room_reads (listed kinds lengths bytes) ∙ (reads_listed kinds lengths bytes l.0 ∙ l.1))
