-- What each of the five calls leaves: `call_whole`. A reset and the responses read no byte from DATA_CMD, keep the pending
-- byte, and answer with a number of no access only before their first access; by the rules of regs/proofs/Quiet.antt.
use Prim.Native.Nat.{ℕ, zero, suc, ◌/◌}
use mathlib.Core.Bool.{Bool, false, not}
use mathlib.Core.List.{List, [], ◌∷◌}
use mathlib.Core.Path.{◌≡◌, refl}
use lib.Dec.{eqb, ltb, T}
use lib.ListN.{length}
use Rattle.regs.proofs.Tests.{by_test}
use Rattle.regs.proofs.Proper.{InTurn}
use Rattle.regs.proofs.Stores.{Stores, reads_stores, writes_stores, marks_stores, cut_stores, Late, Opens, refuses, begins}
use Rattle.regs.proofs.Stores.{Whole, whole, any}
use Rattle.regs.proofs.Quiet.{Quiet, quiet, ends_late}
use Rattle.regs.specs.Left.{no_access}
use Rattle.regs.specs.Registers.{INTR_MASK}
use Rattle.regs.specs.Program.{Behaviour, ends, put, rounds, polled, pending, ready, Result, ok, err, Turn, again, done, by_turn, ◌>>=◌, return}
use Rattle.regs.specs.declared.answers.AbortReason.{AbortReason}
use Rattle.regs.specs.declared.answers.AbortReason.TheVariants as A
use Rattle.regs.specs.declared.answers.Answer.{Answer}
use Rattle.regs.specs.declared.answers.Answer.TheVariants.{Accepted, Responded, Refused}
use Rattle.regs.specs.declared.answers.ReadStatus.{ReadStatus}
use Rattle.regs.specs.declared.answers.ReadStatus.TheVariants.{Done, NeedMoreBytes, LeftoverBytes}
use Rattle.regs.specs.declared.answers.Refusal.{Refusal}
use Rattle.regs.specs.declared.answers.Reply.{Reply}
use Rattle.regs.specs.declared.answers.Reply.TheVariants.{Answered}
use Rattle.slave.specs.I2cSlave.{RespondedTo, answer, is_empty, reset, reset_call, send_chunk}
use Rattle.slave.specs.I2cSlave.{respond_chunk, respond_abort, respond_poll, respond_mask, respond_to_read, till_stop}
use Rattle.slave.specs.I2cSlave.{fill_bytes, respond_till_stop, filled, and_fill, respond_and_fill, respond_to_read_call}
use Rattle.slave.specs.I2cSlave.{respond_till_stop_call, respond_and_fill_call}
use Rattle.slave.specs.Calls.{Call, resets, listens, responds, fills, responds_and_fills, buffer_in, left_by_call}
use Rattle.slave.specs.Counts.{kept, Tells}
use Rattle.slave.specs.declared.SlaveState.{SlaveState}
use Rattle.slave.proofs.Stores.{listen_whole}

-- nothing is stored, and the pending byte is kept
abbrev Rests : SlaveState → Behaviour SlaveState Answer → Type 0
Rests me t = Stores kept (Late any) 0 0 (kept me) me t

-- a result that is no refusal of no access
abbrev Fine : {B : Type 0} → Result B Refusal → Type 0
Fine (ok b) = Unit {0}
Fine (err e) = T (not (no_access (Answered (Refused e))))

till_fine : (r : Result ReadStatus Refusal) → Fine r → InTurn Fine (till_stop r)
till_fine (ok NeedMoreBytes) fine = tt
till_fine (ok Done) fine = tt
till_fine (ok (LeftoverBytes c)) fine = tt
till_fine (err e) fine = fine

send_chunk_quiet : (chunk : List ℕ) → Quiet kept (Late any) (send_chunk chunk)
unfolding send_chunk
send_chunk_quiet [] = search quiet
send_chunk_quiet (byte ∷ rest) = let ih = send_chunk_quiet rest in search quiet

module _ (me : SlaveState) (n : ℕ) where
  module _ (k : RespondedTo → Behaviour SlaveState Answer) (waits : (rest : List ℕ) → Rests me (k (pending rest)))
      (comes : (r : Result ReadStatus Refusal) → Fine r → Rests me (k (ready r))) where
    chunk_rests : (stat : ℕ) (rest : List ℕ) → Rests me (respond_chunk stat rest n k)
    chunk_rests stat rest = search (quiet, send_chunk_quiet) depth 20

    abort_rests : (r : Result (Unit {0}) AbortReason) (stat : ℕ) (rest : List ℕ) → Rests me (respond_abort r (respond_chunk stat rest) n k)
    abort_rests (ok _) stat rest = chunk_rests stat rest
    abort_rests (err A.NoAcknowledge) stat rest = comes _ tt
    abort_rests (err A.ArbitrationLoss) stat rest = comes _ tt
    abort_rests (err (A.TxNotEmpty bytes)) stat rest = reads_stores refl refl (λ v. comes _ tt)
    abort_rests (err (A.Other w)) stat rest = comes _ tt
    abort_rests (err (A.DataNotAcknowledged w)) stat rest = comes _ tt

    poll_rests : (rest : List ℕ) → Rests me (respond_poll rest n k)
    poll_rests rest =
        let chunks : (stat : ℕ) → Rests me (respond_chunk stat rest n k) = λ stat. chunk_rests stat rest in
        let aborts : (r : Result (Unit {0}) AbortReason) (stat : ℕ) → Rests me (respond_abort r (respond_chunk stat rest) n k) =
        λ r stat. abort_rests r stat rest in
        search quiet depth 20

  module _ (k : Result ReadStatus Refusal → Behaviour SlaveState Answer)
      (comes : (r : Result ReadStatus Refusal) → Fine r → Rests me (k r)) where
    rounds_rest : (left : ℕ) (rest : List ℕ)
        → Rests me (rounds left n (λ y. respond_poll y >>= polled (put INTR_MASK respond_mask)) rest k)
    unfolding rounds
    rounds_rest zero rest = cut_stores refl
    rounds_rest (suc left) rest =
        poll_rests (λ r. polled (put INTR_MASK respond_mask) r n (λ t. by_turn t _ k))
        (λ rest. writes_stores refl (marks_stores refl (rounds_rest left rest))) comes rest

    read_rests : (bytes : List ℕ) → is_empty bytes ≡ false → Rests me (respond_to_read bytes n k)
    unfolding respond_to_read
    read_rests bytes e = rw e (rounds_rest n bytes)

  module _ (fill : ℕ) (k : Result (Unit {0}) Refusal → Behaviour SlaveState Answer)
      (comes : (r : Result (Unit {0}) Refusal) → Fine r → Rests me (k r)) where
    abbrev filling : ℕ → Behaviour SlaveState Answer
    filling left = rounds left n (λ _. respond_to_read (fill_bytes fill) >>= (λ r. return (till_stop r))) tt k

    turn_rests : (left : ℕ) → Rests me (filling left) → (t : Turn (Unit {0}) (Result (Unit {0}) Refusal)) → InTurn Fine t
        → Rests me (by_turn t (λ _. filling left) k)
    turn_rests left ih (again _) fine = ih
    turn_rests left ih (done r) fine = comes r fine

    filling_rests : (left : ℕ) → Rests me (filling left)
    unfolding rounds
    filling_rests zero = cut_stores refl
    filling_rests (suc left) =
        read_rests (λ r. by_turn (till_stop r) (λ _. filling left) k)
        (λ r fine. turn_rests left (filling_rests left) (till_stop r) (till_fine r fine)) (fill_bytes fill) refl

  and_fill_rests : (fill : ℕ) (k : Result ReadStatus Refusal → Behaviour SlaveState Answer)
      → ((r : Result ReadStatus Refusal) → Fine r → Rests me (k r))
      → (r : Result ReadStatus Refusal) → Fine r → Rests me (and_fill fill r n k)
  unfolding respond_till_stop
  and_fill_rests fill k comes (ok NeedMoreBytes) fine = filling_rests fill _ filled_rests n
    where
      filled_rests : (r : Result (Unit {0}) Refusal) → Fine r → Rests me (k (filled r))
      filled_rests (ok _) fine = comes _ tt
      filled_rests (err e) fine = comes (err e) fine
  and_fill_rests fill k comes (ok Done) fine = comes (ok Done) tt
  and_fill_rests fill k comes (ok (LeftoverBytes c)) fine = comes (ok (LeftoverBytes c)) tt
  and_fill_rests fill k comes (err e) fine = comes (err e) fine

  answered : {B : Type 0} (accepted : B → Answer) → ((b : B) → T (not (no_access (Answered (accepted b)))))
      → (r : Result B Refusal) → Fine r → Rests me (ends (answer accepted r))
  answered accepted late (ok b) fine = ends_late refl (late b)
  answered accepted late (err e) fine = ends_late refl fine

-- ---- the calls

-- of a call other than `listen`
abbrev Calls : SlaveState → Behaviour SlaveState Answer → Type 0
Calls me t = Opens kept any 0 me t

reset_rests : (address : ℕ) (general_call : Bool) (me : SlaveState) (n : ℕ) → Rests me (reset address general_call n (λ _. ends Accepted))
unfolding reset
reset_rests address general_call me n = search quiet depth 20

reset_opens : (address : ℕ) (general_call : Bool) (me : SlaveState) (n : ℕ) → Calls me (reset_call address general_call n ends)
unfolding reset_call
reset_opens address general_call me n =
    by_test (eqb address 0)
    (λ q. rw q (search (refuses, begins, quiet)))
    (λ q. rw q (begins (reset_rests address general_call me n)))

respond_opens : (bytes : List ℕ) (me : SlaveState) (n : ℕ) → Calls me (respond_to_read_call bytes n ends)
unfolding respond_to_read_call respond_to_read
respond_opens [] me n = refuses tt
respond_opens (b ∷ bs) me n =
    by_test (ltb 4096 (length (b ∷ bs)))
    (λ q. rw q (refuses tt))
    (λ q. rw q (begins (read_rests me n _ (answered me n Responded (λ _. tt)) (b ∷ bs) refl)))

till_stop_opens : (fill : ℕ) (me : SlaveState) (n : ℕ) → Calls me (respond_till_stop_call fill n ends)
unfolding respond_till_stop_call respond_till_stop
till_stop_opens fill me n = begins (filling_rests me n fill _ (answered me n (λ _. Accepted) (λ _. tt)) n)

filled_up_opens : (bytes : List ℕ) (fill : ℕ) (me : SlaveState) (n : ℕ)
    → Calls me (respond_and_fill bytes fill n (λ r. ends (answer Responded r)))
unfolding respond_and_fill respond_to_read
filled_up_opens [] fill me n = refuses tt
filled_up_opens (b ∷ bs) fill me n =
    begins (read_rests me n _ (and_fill_rests me n fill _ (answered me n Responded (λ _. tt))) (b ∷ bs) refl)

and_fill_opens : (bytes : List ℕ) (fill : ℕ) (me : SlaveState) (n : ℕ) → Calls me (respond_and_fill_call bytes fill n ends)
unfolding respond_and_fill_call
and_fill_opens bytes fill me n =
    by_test (ltb 4096 (length bytes)) (λ q. rw q (refuses tt)) (λ q. rw q (filled_up_opens _ fill me n))

-- what the answer says of the bytes stored, where there is a buffer
abbrev pub Told : Call → Reply → ℕ → Type 0
Told (resets address general_call) = any
Told (listens buffer) = Tells (length buffer)
Told (responds bytes) = any
Told (fills fill) = any
Told (responds_and_fills bytes fill) = any

pub call_whole : (c : Call) (log readings : List ℕ) (me : SlaveState)
    → Whole kept (Told c) (buffer_in c) me (left_by_call c log readings me)
call_whole (resets address general_call) log readings me =
    whole kept any (λ _. tt) (λ _. tt) (reset_opens address general_call me _) (length log / 2) readings [] refl
call_whole (listens buffer) log readings me = listen_whole buffer log readings me
call_whole (responds bytes) log readings me =
    whole kept any (λ _. tt) (λ _. tt) (respond_opens bytes me _) (length log / 2) readings [] refl
call_whole (fills fill) log readings me =
    whole kept any (λ _. tt) (λ _. tt) (till_stop_opens fill me _) (length log / 2) readings [] refl
call_whole (responds_and_fills bytes fill) log readings me =
    whole kept any (λ _. tt) (λ _. tt) (and_fill_opens bytes fill me _) (length log / 2) readings [] refl
