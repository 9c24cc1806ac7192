-- A transfer with a packet error code that has an empty operation: `EmptyRead` and `EmptyWrite` of specs/CodedLaws.antt.
-- Both transfers do what is before the empty operation, `upto`, and watching changes nothing there (NoStop.antt).
use Prim.Native.Nat.{ℕ, zero, suc, ◌+◌, ◌/◌, ◌≤◌}
use native.Mathlib.Omega.{arith}
use mathlib.Core.Bool.{Bool, true, false, not, ◌||◌}
use mathlib.Core.List.{List, [], ◌∷◌, ◌++◌}
use mathlib.Core.Path.{◌≡◌, refl, sym, ap, subst, ◌∙◌}
use lib.Dec.{eqb, T}
use lib.ListN.{length, set}
use borrow.Author.Tests.{lt-ltb}
use Rattle.regs.specs.declared.access.Entry.{Entry}
use Rattle.regs.specs.declared.access.Entry.TheVariants.{Read, Write, Marked}
use Rattle.regs.specs.declared.answers.Answer.{Answer}
use Rattle.regs.specs.declared.answers.Answer.TheVariants.{Accepted, Refused}
use Rattle.regs.specs.declared.answers.Refusal.{Refusal}
use Rattle.regs.specs.declared.answers.Refusal.TheVariants.{InvalidReadBufferLength, InvalidWriteBufferLength}
use Rattle.regs.specs.declared.answers.Reply.{Reply}
use Rattle.regs.specs.declared.answers.Reply.TheVariants.{Answered, OutOfReadings, LogFull}
use Rattle.regs.specs.Answers.{refusal_number}
use Rattle.regs.specs.Fields.{command_word}
use Rattle.regs.specs.Left.{bytes_read}
use Rattle.regs.specs.Log.{Each}
use Rattle.regs.specs.Program as P
use Rattle.regs.specs.Program.{when, Outcome, just, logged, outcome}
use Rattle.std.specs.Prelude.{if◌then◌else◌}
use Rattle.regs.specs.Watched.{watched_from}
use Rattle.master.specs.Driver.{setup, reason_of}
use Rattle.master.specs.Blocking.{read_blocking_internal}
use Rattle.master.specs.Async.{is_empty, read_async_internal}
use Rattle.master.specs.Operations.{Operation, writes, reads, Mode, blocking, async}
use Rattle.master.specs.Operations.{Transfer, read, write, write_read, transaction, operations_of}
use Rattle.master.specs.Transfer.{read_internal, write_internal, each_operation, transfer}
use Rattle.master.specs.Transfer.{blocking_read, blocking_write, blocking_write_read, blocking_transaction}
use Rattle.master.specs.Transfer.{read_async, write_async, write_read_async, transaction_async}
use Rattle.master.specs.Demand3.{NotEmpty}
use Rattle.master.specs.Coded.{code_of, longer, with_code, room_of, coder, is_blocking, each_coded, longer_transfer, restarts}
use Rattle.master.specs.CodedLaws.{Small, eight_reply, EmptyRead, EmptyWrite}
use Rattle.master.proofs.Emits.{Does}
use Rattle.master.proofs.NoStop.{stops, Alike, last_alike, refused_alike, reads_alike, writes_alike, marks_alike}
use Rattle.master.proofs.NoStop.{stores_alike, cut_alike, setup_kept, read_kept, write_kept}

-- ---- watching changes nothing

as_it_was : (q : Bool) (x w : ℕ) → T (not q) → (if q then x else w) ≡ w
as_it_was true x w h = absurd h
as_it_was false x w h = refl

-- what a behaviour leaves
abbrev left_by : Does → ℕ → List ℕ → List ℕ → Outcome (Unit {0}) Reply
left_by t room rs c = outcome Answered LogFull OutOfReadings t room rs c tt

-- with another reply
abbrev changed : (Reply → Reply) → Outcome (Unit {0}) Reply → Outcome (Unit {0}) Reply
changed f o = record { answer = f o.answer; log = o.log; buffer = o.buffer; state = o.state }

-- where f leaves all replies as they are but the last
module _ (f : Reply → Reply) (full : f LogFull ≡ LogFull) (dry : f OutOfReadings ≡ OutOfReadings)
    (other : (why : Refusal) → T (not (eqb (refusal_number why) 7)) → f (Answered (Refused why)) ≡ Answered (Refused why))
    (y : Refusal) (b : Answer) (last : f (Answered b) ≡ Answered (Refused y)) (address : ℕ) (os : List (Operation ℕ)) where
  abbrev ended : List ℕ → Reply → Outcome (Unit {0}) Reply
  ended c r = just r c tt

  abbrev watching : List Entry → Does → Does
  watching log t = watched_from (coder address os) P.ends log t

  watched_same : {t u : Does} → Alike (Refused y) b (room_of os) t u → (log : List Entry) (room : ℕ) (rs c : List ℕ)
      → left_by (watching log t) room rs c ≡ changed f (left_by u room rs c)
  unfolding outcome watched_from
  watched_same last_alike log room rs c = ap (ended c) (sym last)
  watched_same (refused_alike {why = why} q) log room rs c = ap (ended c) (sym (other why q))
  watched_same (reads_alike h) log zero rs c = ap (ended c) (sym full)
  watched_same (reads_alike h) log (suc room) [] c = ap (ended c) (sym dry)
  watched_same (reads_alike {r = r} h) log (suc room) (v ∷ rs) c = ap (logged (Read r v)) (watched_same (h v) _ room rs c)
  watched_same (writes_alike q h) log zero rs c = ap (ended c) (sym full)
  watched_same (writes_alike {r = r} {w = w} {t = t} q h) log (suc room) rs c =
      ap (λ (z : ℕ). left_by (P.writes r z (watching (log ++ Write r z ∷ []) t)) (suc room) rs c)
      (as_it_was (stops r w) (command_word (code_of address os (bytes_read log)) false true false) w q)
      ∙ ap (logged (Write r w)) (watched_same h _ room rs c)
  watched_same (marks_alike h) log zero rs c = ap (ended c) (sym full)
  watched_same (marks_alike {x = x} h) log (suc room) rs c = ap (logged (Marked x)) (watched_same h _ room rs c)
  watched_same (stores_alike {i = i} {v = v} {t = t} l h) log room rs c =
      ap (λ (q : Bool). left_by (if q then P.stores i v (watching log t) else watching log t) room rs c) (lt-ltb i (room_of os) l)
      ∙ watched_same h log room rs (set c i v)
  watched_same cut_alike log room rs c = ap (ended c) (sym full)

-- ---- what is before the empty operation

-- the operations one after the other, none of them the last, and then the answer
unfoldable upto : Mode → Bool → Answer → ℕ → ℕ → List (Operation ℕ) → Does
upto mode restart a n offset [] = P.ends a
upto mode restart a n offset (reads len ∷ os) =
    read_internal reason_of mode offset len restart false n (λ _. upto mode restart a n (offset + len) os)
upto mode restart a n offset (writes bytes ∷ os) = write_internal reason_of mode bytes false n (λ _. upto mode restart a n offset os)

abbrev begun : Mode → Bool → ℕ → Answer → ℕ → List (Operation ℕ) → Does
begun mode restart address a n os = setup address n (λ _. upto mode restart a n 0 os)

upto_alike : (mode : Mode) (restart : Bool) (a b : Answer) (L n : ℕ) (os : List (Operation ℕ)) (offset : ℕ)
    → Each NotEmpty os
    → Each Small os
    → offset + room_of os ≤ L
    → Alike a b L (upto mode restart a n offset os) (upto mode restart b n offset os)
unfolding upto room_of
upto_alike mode restart a b L n [] offset some small most = last_alike
upto_alike mode restart a b L n (reads zero ∷ os) offset some small most = absurd some.0
upto_alike mode restart a b L n (reads (suc m) ∷ os) offset some small most =
    read_kept a b L mode offset m restart false (omega arith) n _ _
    (λ _. upto_alike mode restart a b L n os (offset + suc m) some.1 small.1 (omega arith))
upto_alike mode restart a b L n (writes bytes ∷ os) offset some small most =
    write_kept a b L mode bytes small.0 n _ _ (λ _. upto_alike mode restart a b L n os offset some.1 small.1 most)

begun_alike : (mode : Mode) (restart : Bool) (address : ℕ) (a b : Answer) (L n : ℕ) (os : List (Operation ℕ))
    → Each NotEmpty os
    → Each Small os
    → room_of os ≤ L
    → Alike a b L (begun mode restart address a n os) (begun mode restart address b n os)
begun_alike mode restart address a b L n os some small most =
    setup_kept a b L address n _ _ (λ _. upto_alike mode restart a b L n os 0 some small (omega arith))

room_before : (os after : List (Operation ℕ)) → room_of os ≤ room_of (os ++ after)
unfolding room_of
room_before [] after = omega arith
room_before (reads m ∷ os) after = omega (arith, room_before os after)
room_before (writes bytes ∷ os) after = room_before os after

-- ---- the coded transfer up to the empty operation

not_last : (os : List (Operation ℕ)) (e : Operation ℕ) (after : List (Operation ℕ)) → is_empty (os ++ e ∷ after) ≡ false
not_last [] e after = refl
not_last (o ∷ os) e after = refl

sets_up : (mode : Mode) → is_blocking mode || true ≡ true
sets_up blocking = refl
sets_up async = refl

-- an empty operation is not made longer
module _ (e : Operation ℕ) (short : longer 0 e ≡ e) where
  code_behind : (before after : List (Operation ℕ)) → with_code 0 (before ++ e ∷ after) ≡ before ++ e ∷ with_code 0 after
  unfolding with_code
  code_behind [] [] = ap (λ (o : Operation ℕ). o ∷ []) short
  code_behind [] (o ∷ after) = refl
  code_behind (o ∷ []) after = ap (λ (l : List (Operation ℕ)). o ∷ l) (code_behind [] after)
  code_behind (o ∷ (p ∷ before)) after = ap (λ (l : List (Operation ℕ)). o ∷ l) (code_behind (p ∷ before) after)

-- a is answered where e is reached
module _ (e : Operation ℕ) (a : Answer) (mode : Mode) (restart : Bool) (n : ℕ) (k : Unit {0} → Does)
    (stopped : (offset : ℕ) (os : List (Operation ℕ)) → each_coded reason_of mode restart offset (e ∷ os) n k ≡ P.ends a) where
  coded_upto : (before after : List (Operation ℕ)) (offset : ℕ) → Each NotEmpty before
      → each_coded reason_of mode restart offset (before ++ e ∷ after) n k ≡ upto mode restart a n offset before
  unfolding each_coded upto
  coded_upto [] after offset some = stopped offset after
  coded_upto (reads len ∷ os) after offset some =
      ap (λ (q : Bool). read_internal reason_of mode offset len restart q n
      (λ _. each_coded reason_of mode restart (offset + len) (os ++ e ∷ after) n k))
      (not_last os e after)
      ∙ ap (λ (t : Does). read_internal reason_of mode offset len restart false n (λ _. t)) (coded_upto os after (offset + len) some.1)
  coded_upto (writes [] ∷ os) after offset some = absurd some.0
  coded_upto (writes (x ∷ xs) ∷ os) after offset some =
      ap (λ (q : Bool). write_internal reason_of mode (x ∷ xs) q n
      (λ _. each_coded reason_of mode restart offset (os ++ e ∷ after) n k)) (not_last os e after)
      ∙ ap (λ (t : Does). write_internal reason_of mode (x ∷ xs) false n (λ _. t)) (coded_upto os after offset some.1)

  set_up : (address : ℕ) (before after : List (Operation ℕ)) → Each NotEmpty before
      → when (is_blocking mode || not (is_empty (before ++ e ∷ after))) (setup address) n
      (λ _. each_coded reason_of mode restart 0 (before ++ e ∷ after) n k)
      ≡ begun mode restart address a n before
  set_up address before after some =
      ap (λ (q : Bool). when (is_blocking mode || not q) (setup address) n
      (λ _. each_coded reason_of mode restart 0 (before ++ e ∷ after) n k))
      (not_last before e after)
      ∙ ap (λ (q : Bool). when q (setup address) n (λ _. each_coded reason_of mode restart 0 (before ++ e ∷ after) n k)) (sets_up mode)
      ∙ ap (λ (t : Does). setup address n (λ _. t)) (coded_upto before after 0 some)

abbrev accepted : Unit {0} → Does
accepted _ = P.ends Accepted

read_stopped : (mode : Mode) (restart : Bool) (n : ℕ) (k : Unit {0} → Does) (offset : ℕ) (os : List (Operation ℕ))
    → each_coded reason_of mode restart offset (reads 0 ∷ os) n k ≡ P.ends (Refused InvalidReadBufferLength)
unfolding each_coded read_blocking_internal read_async_internal
read_stopped blocking restart n k offset os = refl
read_stopped async restart n k offset os = refl

write_stopped : (mode : Mode) (restart : Bool) (n : ℕ) (k : Unit {0} → Does) (offset : ℕ) (os : List (Operation ℕ))
    → each_coded reason_of mode restart offset (writes [] ∷ os) n k ≡ P.ends (Refused InvalidWriteBufferLength)
unfolding each_coded
write_stopped mode restart n k offset os = refl

longer_read : (mode : Mode) (restart : Bool) (address n : ℕ) (before after : List (Operation ℕ)) → Each NotEmpty before
    → longer_transfer reason_of mode restart address (before ++ reads 0 ∷ after) n P.ends
    ≡ begun mode restart address (Refused InvalidReadBufferLength) n before
unfolding longer_transfer
longer_read mode restart address n before after some =
    set_up (reads 0) _ mode restart n accepted (read_stopped mode restart n accepted) address before after some

longer_write : (mode : Mode) (restart : Bool) (address n : ℕ) (before after : List (Operation ℕ)) → Each NotEmpty before
    → longer_transfer reason_of mode restart address (before ++ writes [] ∷ after) n P.ends
    ≡ begun mode restart address (Refused InvalidWriteBufferLength) n before
unfolding longer_transfer
longer_write mode restart address n before after some =
    set_up (writes []) _ mode restart n accepted (write_stopped mode restart n accepted) address before after some

-- ---- the plain transfer up to an empty read

plain_upto : (mode : Mode) (n : ℕ) (k : Unit {0} → Does) (before after : List (Operation ℕ)) (offset : ℕ)
    → each_operation reason_of mode offset (before ++ reads 0 ∷ after) n k ≡ upto mode false
    (Refused InvalidReadBufferLength) n offset before
unfolding each_operation upto read_blocking_internal read_async_internal
plain_upto blocking n k [] after offset = refl
plain_upto async n k [] after offset = refl
plain_upto mode n k (reads len ∷ os) after offset =
    ap (λ (q : Bool). read_internal reason_of mode offset len false q n
    (λ _. each_operation reason_of mode (offset + len) (os ++ reads 0 ∷ after) n k))
    (not_last os (reads 0) after)
    ∙ ap (λ (t : Does). read_internal reason_of mode offset len false false n (λ _. t)) (plain_upto mode n k os after (offset + len))
plain_upto mode n k (writes bytes ∷ os) after offset =
    ap (λ (q : Bool). write_internal reason_of mode bytes q n (λ _. each_operation reason_of mode offset (os ++ reads 0 ∷ after) n k))
    (not_last os (reads 0) after)
    ∙ ap (λ (t : Does). write_internal reason_of mode bytes false n (λ _. t)) (plain_upto mode n k os after offset)

plain_transaction : (mode : Mode) (address n : ℕ) (before after : List (Operation ℕ))
    → transfer reason_of mode address (transaction (before ++ reads 0 ∷ after)) n P.ends
    ≡ begun mode false address (Refused InvalidReadBufferLength) n before
unfolding blocking_transaction transaction_async
plain_transaction blocking address n before after =
    ap (λ (t : Does). setup address n (λ _. t)) (plain_upto blocking n accepted before after 0)
plain_transaction async address n before after =
    ap (λ (q : Bool). when (not q) (setup address) n (λ _. each_operation reason_of async 0 (before ++ reads 0 ∷ after) n accepted))
    (not_last before (reads 0) after)
    ∙ ap (λ (t : Does). setup address n (λ _. t)) (plain_upto async n accepted before after 0)

-- ---- the forms

-- what comes first
abbrev first : List (Operation ℕ) → Operation ℕ
first [] = reads 0
first (o ∷ os) = o

abbrev others : List (Operation ℕ) → List (Operation ℕ)
others [] = []
others (o ∷ os) = os

abbrev IsWrite : Operation ℕ → Type 0
IsWrite (writes bytes) = Unit {0}
IsWrite (reads n) = ⊥

-- an empty write is not before the first empty operation, where that is a read
no_empty_write : (os before after : List (Operation ℕ)) → writes [] ∷ os ≡ before ++ reads 0 ∷ after → Each NotEmpty before → ⊥
no_empty_write os [] after e some = subst (λ (l : List (Operation ℕ)). IsWrite (first l)) e tt
no_empty_write os (o ∷ before) after e some = subst NotEmpty (ap first (sym e)) some.0

longer_form_read : (mode : Mode) (address n : ℕ) (os before after : List (Operation ℕ))
    → os ≡ before ++ reads 0 ∷ after
    → Each NotEmpty before
    → longer_transfer reason_of mode true address os n P.ends ≡ begun mode true address (Refused InvalidReadBufferLength) n before
longer_form_read mode address n os before after e some =
    ap (λ (l : List (Operation ℕ)). longer_transfer reason_of mode true address l n P.ends) e
    ∙ longer_read mode true address n before after some

-- with no empty write a plain transfer is the longer one on its own operations
plain_form : (mode : Mode) (address n : ℕ) (t : Transfer ℕ) (before after : List (Operation ℕ))
    → operations_of t ≡ before ++ reads 0 ∷ after
    → Each NotEmpty before
    → transfer reason_of mode address t n P.ends ≡ begun mode (restarts t) address (Refused InvalidReadBufferLength) n before
unfolding blocking_read blocking_write blocking_write_read read_async write_async write_read_async longer_transfer each_coded
plain_form blocking address n (read len) before after e some = longer_form_read blocking address n _ before after e some
plain_form async address n (read len) before after e some = longer_form_read async address n _ before after e some
plain_form mode address n (write []) before after e some = absurd (no_empty_write _ before after e some)
plain_form blocking address n (write (x ∷ xs)) before after e some = longer_form_read blocking address n _ before after e some
plain_form async address n (write (x ∷ xs)) before after e some = longer_form_read async address n _ before after e some
plain_form mode address n (write_read [] len) before after e some = absurd (no_empty_write _ before after e some)
plain_form blocking address n (write_read (x ∷ xs) len) before after e some =
    longer_form_read blocking address n _ before after e some
plain_form async address n (write_read (x ∷ xs) len) before after e some =
    longer_form_read async address n _ before after e some
plain_form mode address n (transaction os) before after e some =
    ap (λ (l : List (Operation ℕ)). transfer reason_of mode address (transaction l) n P.ends) e
    ∙ plain_transaction mode address n before after

-- no list ends before one of its operations
too_few : (os after : List (Operation ℕ)) → [] ≡ os ++ writes [] ∷ after → ⊥
too_few [] after e = let l : 0 ≡ suc (length after) = ap length e in omega arith
too_few (o ∷ os) after e = let l : 0 ≡ suc (length (os ++ writes [] ∷ after)) = ap length e in omega arith

-- before an empty write there is no read but in a transaction, whose reads do not ask for RESTART
same_restart : (mode : Mode) (address n : ℕ) (t : Transfer ℕ) (before after : List (Operation ℕ)) (a : Answer)
    → operations_of t ≡ before ++ writes [] ∷ after
    → begun mode (restarts t) address a n before ≡ begun mode false address a n before
unfolding upto
same_restart mode address n (read len) [] after a e = refl
same_restart mode address n (read len) (o ∷ before) after a e = absurd (too_few before after (ap others e))
same_restart mode address n (write bytes) [] after a e = refl
same_restart mode address n (write bytes) (o ∷ before) after a e = absurd (too_few before after (ap others e))
same_restart mode address n (write_read bytes len) [] after a e = refl
same_restart mode address n (write_read bytes len) (o ∷ []) after a e =
    absurd (subst (λ (l : List (Operation ℕ)). IsWrite (first (others l))) (sym e) tt)
same_restart mode address n (write_read bytes len) (o ∷ (p ∷ before)) after a e =
    absurd (too_few before after (ap (λ (l : List (Operation ℕ)). others (others l)) e))
same_restart mode address n (transaction os) before after a e = refl

-- ---- the laws

-- the places of the operations before are among those of all
room_enough : (os before after : List (Operation ℕ)) → os ≡ before ++ after → room_of before ≤ room_of os
room_enough os before after e = rw e (room_before before after)

pub empty_read : EmptyRead
empty_read mode address t before after log readings buffer e some small =
    let room = length log / 2 in
    let n = suc room in
    let os = operations_of t in
    let refusal : Answer = Refused InvalidReadBufferLength in
    let coded_is : longer_transfer reason_of mode (restarts t) address (with_code 0 os) n P.ends ≡ begun mode
    (restarts t) address refusal n before =
    ap (λ (l : List (Operation ℕ)). longer_transfer reason_of mode (restarts t) address (with_code 0 l) n P.ends) e
    ∙ ap (λ (l : List (Operation ℕ)). longer_transfer reason_of mode (restarts t) address l n P.ends)
    (code_behind (reads 0) refl before after)
    ∙ longer_read mode (restarts t) address n before (with_code 0 after) some
    in
    ap (λ (u : Does). left_by (watched_from (coder address os) P.ends [] u) room readings buffer) coded_is
    ∙ watched_same (λ r. r) refl refl (λ _ _. refl) InvalidReadBufferLength refusal refl address os
    (begun_alike mode (restarts t) address refusal refusal (room_of os) n before some small (room_enough os before _ e))
    [] room readings buffer
    ∙ ap (λ (u : Does). left_by u room readings buffer) (sym (plain_form mode address n t before after e some))

-- 8 is told for 7 alone
other_than_7 : (why : Refusal) → T (not (eqb (refusal_number why) 7)) → eight_reply (Answered (Refused why)) ≡ Answered (Refused why)
other_than_7 why h = go (eqb (refusal_number why) 7) h
  where
    go : (q : Bool) → T (not q)
        → (if q then Answered (Refused InvalidWriteBufferLength) else Answered (Refused why)) ≡ Answered (Refused why)
    go true h = absurd h
    go false h = refl

pub empty_write : EmptyWrite
empty_write mode address t before after log readings buffer e some small =
    let room = length log / 2 in
    let n = suc room in
    let os = operations_of t in
    let seven : Answer = Refused InvalidReadBufferLength in
    let eight : Answer = Refused InvalidWriteBufferLength in
    let coded_is : longer_transfer reason_of mode (restarts t) address (with_code 0 os) n P.ends ≡ begun mode false address eight n before =
    ap (λ (l : List (Operation ℕ)). longer_transfer reason_of mode (restarts t) address (with_code 0 l) n P.ends) e
    ∙ ap (λ (l : List (Operation ℕ)). longer_transfer reason_of mode (restarts t) address l n P.ends)
    (code_behind (writes []) refl before after)
    ∙ longer_write mode (restarts t) address n before (with_code 0 after) some
    ∙ same_restart mode address n t before after eight e
    in
    ap (λ (u : Does). left_by (watched_from (coder address os) P.ends [] u) room readings buffer) coded_is
    ∙ watched_same eight_reply refl refl other_than_7 InvalidWriteBufferLength seven refl address os
    (begun_alike mode false address eight seven (room_of os) n before some small (room_enough os before _ e))
    [] room readings buffer
    ∙ ap (λ (u : Does). changed eight_reply (left_by u room readings buffer)) (sym (plain_transaction mode address n before after))
