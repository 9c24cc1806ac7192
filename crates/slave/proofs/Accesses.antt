-- Every access of every call is legal, SAR and CON are written only while the block is disabled, and no refusal is
-- TxNotEmpty: found along each function (`legal`).
use Prim.Native.Nat.{ℕ, zero, suc, ◌+◌, ◌-◌}
use mathlib.Core.Bool.{Bool, false}
use mathlib.Core.List.{List, [], ◌∷◌}
use lib.ListN.{length}
use Rattle.std.specs.Prelude.{Option, Some, None}
use Rattle.regs.specs.Registers.{INTR_MASK}
use Rattle.regs.specs.Legality.{LegalCall, DisabledCall, NoTxNotEmpty}
use Rattle.regs.specs.Program.{put, Result, ok, err}
use Rattle.regs.specs.declared.answers.AbortReason.{AbortReason}
use Rattle.regs.specs.declared.answers.AbortReason.TheVariants as A
use Rattle.regs.specs.declared.answers.ReadStatus.{ReadStatus}
use Rattle.regs.specs.declared.answers.ReadStatus.TheVariants.{Done, NeedMoreBytes, LeftoverBytes}
use Rattle.regs.specs.declared.answers.Refusal.{Refusal}
use Rattle.regs.specs.declared.answers.Answer.{Answer}
use Rattle.regs.proofs.Proper.{ProperAnswer, ProperResult, InPoll, InTurn}
use Rattle.regs.proofs.Legal.{LegalB, LegalP, LegalWith, legal, reads_legal, writes_legal, stores_legal, asks_legal}
use Rattle.regs.proofs.Legal.{keeps_legal, rounds_with, wait_on_with, legal_call, disabled_call, proper_call}
use Rattle.slave.specs.I2cSlave.{Driver, RespondedTo, reset, reset_call, drain_pending}
use Rattle.slave.specs.I2cSlave.{drain_places, drain_fifo, listen_poll, listen_mask, listen, listen_call}
use Rattle.slave.specs.I2cSlave.{send_chunk, respond_chunk, respond_abort, respond_poll, respond_mask}
use Rattle.slave.specs.I2cSlave.{respond_to_read, till_stop, respond_till_stop, filled, and_fill, respond_and_fill, answer}
use Rattle.slave.specs.I2cSlave.{respond_to_read_call, respond_till_stop_call, respond_and_fill_call}
use Rattle.slave.specs.Calls.{Call, resets, listens, responds, fills, responds_and_fills, program}

reset_legal : (address : ℕ) (g : Bool) → LegalP (reset address g)
unfolding reset
reset_legal address g = search legal depth 20

reset_call_legal : (address : ℕ) (g : Bool) → LegalWith ProperAnswer (reset_call address g)
unfolding reset_call
reset_call_legal address g = search (legal, reset_legal) depth 20

drain_places_legal : (places offset : ℕ) → LegalP (drain_places places offset)
unfolding drain_places
drain_places_legal zero offset n k h = h offset
drain_places_legal (suc places) offset n k h =
    let more : (o : ℕ) → LegalP (drain_places places o) = drain_places_legal places in
    search (legal, more) depth 20

drain_fifo_legal : (length len : ℕ) → LegalP (drain_fifo length len)
drain_fifo_legal length len n k h = asks_legal (λ me. keeps_legal (go me.pending_byte))
  where
    go : (p : Option ℕ) → LegalB false (drain_pending p len n (λ offset. drain_places (length - offset) offset n k))
    go None = drain_places_legal (length - len) len n k h
    go (Some b) = stores_legal (drain_places_legal (length - (len + 1)) (len + 1) n k h)

listen_poll_legal : (length len : ℕ) → LegalWith (InPoll ProperResult) (listen_poll length len)
listen_poll_legal length len = search (legal, drain_fifo_legal) depth 30

listen_legal : (length : ℕ) → LegalWith ProperResult (listen length)
unfolding listen
listen_legal length n k h = writes_legal tt
    (wait_on_with ℕ _ ProperResult 0 (listen_poll length) (put INTR_MASK listen_mask) (listen_poll_legal length)
    (λ n k h. writes_legal tt (h tt)) n k h)

answer_proper : {B : Type 0} (f : B → Answer) → ((b : B) → ProperAnswer (f b)) → (r : Result B Refusal)
    → ProperResult r
    → ProperAnswer (answer f r)
answer_proper f g (ok b) c = g b
answer_proper f g (err e) c = c

listen_call_legal : (length : ℕ) → LegalWith ProperAnswer (listen_call length)
unfolding listen_call
listen_call_legal length = search (legal, listen_legal, answer_proper) depth 20

send_chunk_legal : (chunk : List ℕ) → LegalP (send_chunk chunk)
unfolding send_chunk
send_chunk_legal [] n k h = h tt
send_chunk_legal (byte ∷ rest) n k h = reads_legal tt (λ v. writes_legal tt (send_chunk_legal rest n k h))

respond_chunk_legal : (stat : ℕ) (rest : List ℕ) → LegalWith (InPoll ProperResult) (respond_chunk stat rest)
respond_chunk_legal stat rest = search (legal, send_chunk_legal) depth 20

respond_abort_legal : (r : Result (Unit {0}) AbortReason) (p : Driver RespondedTo)
    → LegalWith (InPoll ProperResult) p
    → LegalWith (InPoll ProperResult) (respond_abort r p)
respond_abort_legal (ok _) p l n k h = l n k h
respond_abort_legal (err A.NoAcknowledge) p l n k h = h _ tt
respond_abort_legal (err A.ArbitrationLoss) p l n k h = h _ tt
respond_abort_legal (err (A.TxNotEmpty bytes)) p l n k h = reads_legal tt (λ v. h _ tt)
respond_abort_legal (err (A.Other w)) p l n k h = h _ tt
respond_abort_legal (err (A.DataNotAcknowledged w)) p l n k h = h _ tt

respond_poll_legal : (rest : List ℕ) → LegalWith (InPoll ProperResult) (respond_poll rest)
respond_poll_legal rest = search (legal, respond_chunk_legal, respond_abort_legal) depth 20

respond_to_read_legal : (buffer : List ℕ) → LegalWith ProperResult (respond_to_read buffer)
unfolding respond_to_read
respond_to_read_legal [] n k h = h _ tt
respond_to_read_legal (x ∷ xs) n k h = wait_on_with (List ℕ) _ ProperResult (x ∷ xs) respond_poll (put INTR_MASK respond_mask)
    respond_poll_legal (λ n k h. writes_legal tt (h tt)) n k h

till_proper : (r : Result ReadStatus Refusal) → ProperResult r → InTurn ProperResult (till_stop r)
till_proper (ok NeedMoreBytes) c = tt
till_proper (ok Done) c = tt
till_proper (ok (LeftoverBytes n)) c = tt
till_proper (err e) c = c

respond_till_stop_legal : (fill : ℕ) → LegalWith ProperResult (respond_till_stop fill)
unfolding respond_till_stop
respond_till_stop_legal fill n k h = rounds_with (Unit {0}) _ ProperResult n n _ tt k
    (λ y n k h. respond_to_read_legal _ n _ (λ r c. h (till_stop r) (till_proper r c))) h

filled_proper : (r : Result (Unit {0}) Refusal) → ProperResult r → ProperResult (filled r)
filled_proper (ok u) c = tt
filled_proper (err e) c = c

and_fill_legal : (fill : ℕ) (r : Result ReadStatus Refusal) → ProperResult r → LegalWith ProperResult (and_fill fill r)
and_fill_legal fill (ok NeedMoreBytes) c n k h = respond_till_stop_legal fill n _ (λ r e. search filled_proper)
and_fill_legal fill (ok Done) c n k h = h _ tt
and_fill_legal fill (ok (LeftoverBytes m)) c n k h = h _ tt
and_fill_legal fill (err e) c n k h = h _ c

respond_and_fill_legal : (buffer : List ℕ) (fill : ℕ) → LegalWith ProperResult (respond_and_fill buffer fill)
unfolding respond_and_fill
respond_and_fill_legal buffer fill = search (legal, respond_to_read_legal, respond_till_stop_legal, and_fill_legal)

respond_to_read_call_legal : (buffer : List ℕ) → LegalWith ProperAnswer (respond_to_read_call buffer)
unfolding respond_to_read_call
respond_to_read_call_legal buffer = search (legal, respond_to_read_legal, answer_proper) depth 20

respond_till_stop_call_legal : (fill : ℕ) → LegalWith ProperAnswer (respond_till_stop_call fill)
unfolding respond_till_stop_call
respond_till_stop_call_legal fill = search (legal, respond_till_stop_legal, answer_proper) depth 20

respond_and_fill_call_legal : (buffer : List ℕ) (fill : ℕ) → LegalWith ProperAnswer (respond_and_fill_call buffer fill)
unfolding respond_and_fill_call
respond_and_fill_call_legal buffer fill = search (legal, respond_and_fill_legal, answer_proper) depth 20

-- ---- every call

call_legal : (c : Call) → LegalWith ProperAnswer (program c)
call_legal (resets address general_call) = reset_call_legal address general_call
call_legal (listens buffer) = listen_call_legal (length buffer)
call_legal (responds bytes) = respond_to_read_call_legal bytes
call_legal (fills fill) = respond_till_stop_call_legal fill
call_legal (responds_and_fills bytes fill) = respond_and_fill_call_legal bytes fill

pub every_access_legal : (c : Call) → LegalCall (program c)
every_access_legal c = legal_call _ (call_legal c)

pub only_while_disabled : (c : Call) → DisabledCall (program c)
only_while_disabled c = disabled_call _ (call_legal c)

pub never_tx_not_empty : (c : Call) → NoTxNotEmpty (program c)
never_tx_not_empty c = proper_call _ (call_legal c)
