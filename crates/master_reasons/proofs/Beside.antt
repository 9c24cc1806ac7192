-- `reasons_by_word`, `same_but_reasons` and `beside_rust`: the words for which this driver's reasons differ from the Rust's,
-- and that nothing else of a call does. A call with two reasons is twins (TwinParts.antt), also where it is watched for
-- its packet error code; `twin_left` of Twins.antt says what they leave.
use Prim.Native.Nat.{ℕ, suc, ◌+◌, ◌/◌}
use mathlib.Core.Bool.{Bool, true, false, not, ◌&&◌, ◌||◌}
use mathlib.Core.List.{List, [], ◌∷◌}
use mathlib.Core.Path.{◌≡◌, refl, sym, ap, subst}
use lib.ListN.{length}
use Rattle.regs.specs.declared.access.Entry.{Entry}
use Rattle.regs.specs.declared.answers.AbortReason.{AbortReason}
use Rattle.regs.specs.declared.answers.AbortReason.TheVariants.{NoAcknowledge, ArbitrationLoss, Other, DataNotAcknowledged}
use Rattle.regs.specs.declared.answers.Answer.{Answer}
use Rattle.regs.specs.declared.answers.Answer.TheVariants.{Accepted, Heard, Responded, Refused}
use Rattle.regs.specs.declared.answers.Refusal.TheVariants.{Abort}
use Rattle.regs.specs.declared.answers.Reply.{Reply}
use Rattle.regs.specs.declared.answers.Reply.TheVariants.{Answered}
use Rattle.regs.specs.Fields.{no_acknowledge, txdata_noack, arb_lost}
use Rattle.regs.specs.Program.{ends, Outcome}
use Rattle.std.specs.Prelude.{if◌then◌else◌}
use Rattle.regs.specs.Log.{expected}
use Rattle.regs.specs.Watched.{watched_from}
use Rattle.regs.proofs.Tests.{false_true}
use Rattle.master.specs.Driver.{Driver, Reasons, rust_reason, reason_of}
use Rattle.master.specs.Async.{is_empty}
use Rattle.master.specs.Operations.{Operation, writes, reads, Transfer, read, write, write_read, transaction, Mode, blocking, async}
use Rattle.master.specs.Operations.{operations_of}
use Rattle.master.specs.Transfer.{each_operation, blocking_read, blocking_write, blocking_write_read, blocking_transaction}
use Rattle.master.specs.Transfer.{read_async, write_async, write_read_async, transaction_async, transfer, within}
use Rattle.master.specs.Coded.{tested, coder, each_coded, is_blocking, longer_transfer, with_code, restarts}
use Rattle.master.specs.Calls.{Call, Lent, program_by, within_limits, arguments, buffer_in}
use Rattle.master.proofs.Emits.{Does}
use Rattle.master.proofs.Lent.{same_arguments}
use Rattle.master_reasons.specs.Reasons.{data_refused, ReasonsByWord, transfer_with, program_with}
use Rattle.master_reasons.specs.Reasons.{OwnReasons, left_with, is_abort, ToldBy, unaborted, aborted, cut_dry, cut_full}
use Rattle.master_reasons.specs.Reasons.{SameBut, SameButReasons, BesideRust, BesideRustCalls}
use Rattle.master_reasons.proofs.Twins.{Twin, ends_twin, abort_twin, reads_twin, source_twin, writes_twin, marks_twin}
use Rattle.master_reasons.proofs.Twins.{stores_twin, cut_twin, SameAt, if_twin, when_twin, twin_left}
use Rattle.master_reasons.proofs.TwinParts.{setup_same, read_same, write_same}

-- ---- a call

module _ (f g : Reasons) where
  each_same : (mode : Mode) (os : List (Operation ℕ)) (offset : ℕ)
      → SameAt f g 0 (each_operation f mode offset os) (each_operation g mode offset os)
  unfolding each_operation
  each_same mode [] offset n k l h = h tt
  each_same mode (reads len ∷ os) offset n k l h =
      read_same f g mode offset len false (is_empty os) n _ _ (λ _. each_same mode os (offset + len) n k l h)
  each_same mode (writes bytes ∷ os) offset n k l h =
      write_same f g mode bytes (is_empty os) n _ _ (λ _. each_same mode os offset n k l h)

  coded_same : (mode : Mode) (restart : Bool) (os : List (Operation ℕ)) (offset : ℕ)
      → SameAt f g 0 (each_coded f mode restart offset os) (each_coded g mode restart offset os)
  unfolding each_coded
  coded_same mode restart [] offset n k l h = h tt
  coded_same mode restart (reads len ∷ os) offset n k l h =
      read_same f g mode offset len restart (is_empty os) n _ _ (λ _. coded_same mode restart os (offset + len) n k l h)
  coded_same mode restart (writes bytes ∷ os) offset n k l h =
      when_twin _ _ n _ _ (is_empty bytes) (ends_twin refl)
      (write_same f g mode bytes (is_empty os) n _ _ (λ _. coded_same mode restart os offset n k l h))

  accepted : Twin f g 0 (ends Accepted) (ends Accepted)
  accepted = ends_twin refl

  -- a plain transfer
  transfer_same : (mode : Mode) (address : ℕ) (t : Transfer ℕ) (n : ℕ)
      → Twin f g 0 (transfer f mode address t n ends) (transfer g mode address t n ends)
  unfolding blocking_read blocking_write blocking_write_read blocking_transaction read_async write_async write_read_async
      transaction_async
  transfer_same blocking address (read len) n =
      setup_same f g address n _ _ (λ _. read_same f g blocking 0 len true true n _ _ (λ _. accepted))
  transfer_same blocking address (write bytes) n =
      setup_same f g address n _ _ (λ _. write_same f g blocking bytes true n _ _ (λ _. accepted))
  transfer_same blocking address (write_read bytes len) n =
      setup_same f g address n _ _ (λ _. write_same f g blocking bytes false n _ _
      (λ _. read_same f g blocking 0 len true true n _ _ (λ _. accepted)))
  transfer_same blocking address (transaction os) n =
      setup_same f g address n _ _ (λ _. each_same blocking os 0 n _ _ (λ _. accepted))
  transfer_same async address (read len) n =
      setup_same f g address n _ _ (λ _. read_same f g async 0 len true true n _ _ (λ _. accepted))
  transfer_same async address (write bytes) n =
      setup_same f g address n _ _ (λ _. write_same f g async bytes true n _ _ (λ _. accepted))
  transfer_same async address (write_read bytes len) n =
      setup_same f g address n _ _ (λ _. write_same f g async bytes false n _ _
      (λ _. read_same f g async 0 len true true n _ _ (λ _. accepted)))
  transfer_same async address (transaction os) n =
      when_twin _ _ n _ _ (not (is_empty os)) (setup_same f g address n _ _ (λ _. on)) on
    where
      on : Twin f g 0 (each_operation f async 0 os n (λ _. ends Accepted)) (each_operation g async 0 os n (λ _. ends Accepted))
      on = each_same async os 0 n _ _ (λ _. accepted)

  -- one with a packet error code: what it answers is watched, and a reason stays as it is
  tested_none : (right : Bool) (a : Answer) → is_abort a ≡ false → is_abort (tested right a) ≡ false
  tested_none true Accepted q = refl
  tested_none false Accepted q = refl
  tested_none right (Heard c) q = q
  tested_none right (Responded s) q = q
  tested_none right (Refused why) q = q

  watched_twin : (address : ℕ) (os : List (Operation ℕ)) {had : ℕ} {t u : Does} → Twin f g had t u → (seen : List Entry)
      → Twin f g had (watched_from (coder address os) ends seen t) (watched_from (coder address os) ends seen u)
  unfolding watched_from
  watched_twin address os (ends_twin {a = a} q) seen = ends_twin (tested_none _ a q)
  watched_twin address os (abort_twin q) seen = abort_twin q
  watched_twin address os (reads_twin q l) seen = reads_twin q (λ v. watched_twin address os (l v) _)
  watched_twin address os (source_twin l) seen = source_twin (λ v. watched_twin address os (l v) _)
  watched_twin address os (writes_twin l) seen = writes_twin (watched_twin address os l _)
  watched_twin address os (marks_twin l) seen = marks_twin (watched_twin address os l _)
  watched_twin address os (stores_twin {i = i} l) seen =
      if_twin ((coder address os).has_place i) (stores_twin (watched_twin address os l seen)) (watched_twin address os l seen)
  watched_twin address os cut_twin seen = cut_twin

  longer_same : (mode : Mode) (restart : Bool) (address : ℕ) (os : List (Operation ℕ)) (n : ℕ)
      → Twin f g 0 (longer_transfer f mode restart address os n ends) (longer_transfer g mode restart address os n ends)
  unfolding longer_transfer
  longer_same mode restart address os n =
      when_twin _ _ n _ _ (is_blocking mode || not (is_empty os)) (setup_same f g address n _ _ (λ _. on)) on
    where
      on : Twin f g 0 (each_coded f mode restart 0 os n (λ _. ends Accepted)) (each_coded g mode restart 0 os n (λ _. ends Accepted))
      on = coded_same mode restart os 0 n _ _ (λ _. accepted)

  with_same : (pec : Bool) (mode : Mode) (address : ℕ) (t : Transfer ℕ) (n : ℕ)
      → Twin f g 0 (transfer_with f pec mode address t n ends) (transfer_with g pec mode address t n ends)
  with_same false mode address t n = transfer_same mode address t n
  with_same true mode address t n =
      watched_twin address (operations_of t) (longer_same mode (restarts t) address (with_code 0 (operations_of t)) n) []

  program_same : (c : Call) (n : ℕ) → Twin f g 0 (program_with f c n ends) (program_with g c n ends)
  program_same c n =
      when_twin _ _ n _ _ (not (within_limits c.lent)) (ends_twin refl)
      (with_same c.pec c.mode c.address (arguments c.lent) n)

pub same_but_reasons : SameButReasons
same_but_reasons f g c log readings =
    let left = twin_left f g (program_same f g c (suc (length log / 2))) (length log / 2) readings (buffer_in c.lent) in
    record { log = left.log; buffer = left.buffer; answer = left.answer }

-- ---- a word

pub reasons_by_word : ReasonsByWord
reasons_by_word w = record {
  own = own (no_acknowledge w) (txdata_noack w) (arb_lost w);
  rust = rust (no_acknowledge w) (txdata_noack w) (arb_lost w);
  same = same (no_acknowledge w) (txdata_noack w) (arb_lost w);
}
  where
    own : (none third lost : Bool) → third && not none ≡ true
        → (if none then NoAcknowledge else (if third then DataNotAcknowledged w else (if lost then ArbitrationLoss else Other w)))
        ≡ DataNotAcknowledged w
    own true true lost q = absurd (false_true q)
    own true false lost q = absurd (false_true q)
    own false true lost q = refl
    own false false lost q = absurd (false_true q)

    rust : (none third lost : Bool) → third && not none ≡ true
        → (if none then NoAcknowledge else (if lost then ArbitrationLoss else Other w))
        ≡ (if lost then ArbitrationLoss else Other w)
    rust true true lost q = absurd (false_true q)
    rust true false lost q = absurd (false_true q)
    rust false true lost q = refl
    rust false false lost q = absurd (false_true q)

    same : (none third lost : Bool) → third && not none ≡ false
        → (if none then NoAcknowledge else (if third then DataNotAcknowledged w else (if lost then ArbitrationLoss else Other w)))
        ≡ (if none then NoAcknowledge else (if lost then ArbitrationLoss else Other w))
    same true third lost q = refl
    same false true lost q = absurd (false_true (sym q))
    same false false lost q = refl

-- ---- beside the Rust's call

own_by : (pec : Bool) (mode : Mode) (address : ℕ) (lent : Lent)
    → program_by pec mode address lent ≡ within (within_limits lent) (transfer_with reason_of pec mode address (arguments lent))
own_by false mode address lent = same_arguments mode address lent
own_by true mode address lent = refl

pub own_reasons : OwnReasons
own_reasons c = own_by c.pec c.mode c.address c.lent

same_told : (w : ℕ) (here rust : Reply) → data_refused w ≡ false → ToldBy reason_of rust_reason w here rust → here ≡ rust
same_told w here rust q (unaborted z n) = refl
same_told w here rust q (aborted z) = ap (λ (r : AbortReason). Answered (Refused (Abort r))) ((reasons_by_word w).same q)
same_told w here rust q cut_dry = refl
same_told w here rust q cut_full = refl

own_told : (w : ℕ) (here rust : Reply) → data_refused w ≡ true → ToldBy reason_of rust_reason w here rust
    → ToldBy DataNotAcknowledged rust_reason w here rust
own_told w here rust q (unaborted z n) = unaborted z n
own_told w here rust q (aborted z) =
    subst (λ (r : AbortReason). ToldBy DataNotAcknowledged rust_reason w (Answered (Refused (Abort r)))
    (Answered (Refused (Abort (rust_reason w)))))
    (sym ((reasons_by_word w).own q)) (aborted z)
own_told w here rust q cut_dry = cut_dry
own_told w here rust q cut_full = cut_full

beside : {here rust : Outcome (Unit {0}) Reply} → SameBut reason_of rust_reason here rust → BesideRust here rust
beside b = record {
  log = b.log;
  buffer = b.buffer;
  same = λ q. same_told _ _ _ q b.answer;
  differs = λ q. own_told _ _ _ q b.answer;
}

pub beside_rust : BesideRustCalls
beside_rust c log readings =
    subst (λ (p : Driver Answer). BesideRust (expected p log readings (buffer_in c.lent) tt) (left_with rust_reason c log readings))
    (sym (own_reasons c)) (beside (same_but_reasons reason_of rust_reason c log readings))
