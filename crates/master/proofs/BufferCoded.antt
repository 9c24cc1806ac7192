-- Each call with a packet error code stores every byte that it reads, but for the code: `coded_received`. The transfer on
-- the longer operations stores them all in a buffer with a place for the code (Buffer.antt); the call leaves the front of that.
use Prim.Native.Nat.{ℕ, zero, suc, ◌+◌, ◌/◌, ◌≤◌}
use native.Mathlib.Omega.{arith}
use mathlib.Core.Bool.{Bool, true, false, not}
use mathlib.Core.List.{List, [], ◌∷◌, ◌++◌, append_assoc, append-nil}
use mathlib.Core.Path.{◌≡◌, refl, sym, ap, subst, ◌∙◌}
use lib.Dec.{ltb, T}
use lib.ListN.{length, take, drop, length-append, length-drop, drop_of_length-le}
use lib.Seq.{take_all, take-nil, take_at, take-append-le, drop-append-le, take-append_seam}
use borrow.Author.Tests.{ltb-true, ltb-false}
use Rattle.regs.specs.declared.answers.Answer.{Answer}
use Rattle.regs.specs.declared.answers.Answer.TheVariants.{Accepted, Heard, Responded, Refused}
use Rattle.regs.specs.declared.answers.Reply.{Reply}
use Rattle.regs.specs.declared.answers.Reply.TheVariants.{Answered}
use Rattle.regs.specs.Left.{no_access, bytes_read, Untouched}
use Rattle.regs.specs.Program as P
use Rattle.regs.specs.Program.{Outcome, outcome, just}
use Rattle.std.specs.Prelude.{if◌then◌else◌}
use Rattle.regs.proofs.Tests.{by_test}
use Rattle.regs.proofs.Stores.{refuses, Whole, whole, none, any}
use Rattle.regs.proofs.Quiet.{ends_late}
use Rattle.regs.specs.Watched.{watched_from}
use Rattle.master.specs.Driver.{reason_of}
use Rattle.master.specs.Operations.{Operation, writes, reads, Mode, blocking, async, operations_of}
use Rattle.master.specs.Transfer.{within}
use Rattle.master.specs.Coded.{with_code, room_of, ends_in_read, tested, is_right, coder, each_coded, longer_transfer}
use Rattle.master.specs.Coded.{restarts, coded}
use Rattle.master.specs.Calls.{Lent, Call, within_limits, arguments, buffer_in, operations_in, left_by_call}
use Rattle.master.specs.Buffer.{most_codes, DataReceived, CodedReceived}
use Rattle.master.proofs.Emits.{Does, after}
use Rattle.master.proofs.Buffer.{Fills, Calls, write_still, read_filled, setup_opens, accepted, reads_in, received}
use Rattle.master.proofs.WatchedStores.{watched_opens, Front, front_left}
use Rattle.master.proofs.Longer.{room_lent}

-- ---- the longer transfer

operations_filled : (mode : Mode) (restart : Bool) (os : List (Operation ℕ)) (offset L n : ℕ) (k : Unit {0} → Does)
    → offset + reads_in os ≤ L
    → ((i : ℕ) → Fills L i (k tt))
    → Fills L offset (each_coded reason_of mode restart offset os n k)
unfolding each_coded
operations_filled mode restart [] offset L n k most h = h offset
operations_filled mode restart (reads len ∷ os) offset L n k most h =
    read_filled mode offset len _ _ L n _ (omega arith) (operations_filled mode restart os (offset + len) L n k (omega arith) h)
operations_filled mode restart (writes [] ∷ os) offset L n k most h = ends_late refl tt
operations_filled mode restart (writes (b ∷ bs) ∷ os) offset L n k most h =
    write_still mode (b ∷ bs) _ L offset n [] tt _ refl (λ _. operations_filled mode restart os offset L n k most h)

longer_opens : (mode : Mode) (restart : Bool) (address : ℕ) (os : List (Operation ℕ)) (L n : ℕ) → reads_in os ≤ L
    → Calls L (longer_transfer reason_of mode restart address os n P.ends)
unfolding longer_transfer each_coded
longer_opens blocking restart address os L n most =
    setup_opens address L n _ (operations_filled blocking restart os 0 L n _ (omega arith) (accepted L))
longer_opens async restart address [] L n most = refuses tt
longer_opens async restart address (o ∷ os) L n most =
    setup_opens address L n _ (operations_filled async restart (o ∷ os) 0 L n _ (omega arith) (accepted L))

-- the code that is read is one byte more
abbrev spare : Bool → List ℕ
spare true = 0 ∷ []
spare false = []

one_longer : (os : List (Operation ℕ)) → reads_in (with_code 0 os) ≤ room_of os + length (spare (ends_in_read os))
unfolding with_code room_of ends_in_read
one_longer [] = omega arith
one_longer (writes [] ∷ []) = omega arith
one_longer (writes (b ∷ bs) ∷ []) = omega arith
one_longer (reads zero ∷ []) = omega arith
one_longer (reads (suc n) ∷ []) = omega arith
one_longer (writes bs ∷ (p ∷ os)) = one_longer (p ∷ os)
one_longer (reads n ∷ (p ∷ os)) = omega (arith, one_longer (p ∷ os))

-- 22 comes after an access
tested_late : (right : Bool) (a : Answer) → T (not (no_access (Answered a))) → T (not (no_access (Answered (tested right a))))
tested_late true Accepted h = tt
tested_late false Accepted h = tt
tested_late right (Heard c) h = h
tested_late right (Responded s) h = h
tested_late right (Refused why) h = h

-- ---- what the call leaves

-- bytes at the front of a longer buffer, but for the places that it has more
front_of : (came before more : List ℕ)
    → take (length before) (came ++ drop (length came) (before ++ more)) ≡ take (length before) came ++ drop (length came) before
front_of came before more =
    by_test (ltb (length before) (length came))
    (λ q. let l = ltb-true (length before) (length came) q in
    let none : drop (length came) before ≡ [] = drop_of_length-le before {i = length came} (omega arith) in
    take-append-le (length before) came (drop (length came) (before ++ more)) (omega arith)
    ∙ sym (ap (λ (x : List ℕ). take (length before) came ++ x) none ∙ append-nil (take (length before) came)))
    (λ q. let l = ltb-false (length before) (length came) q in
    let rest : drop (length came) (before ++ more) ≡ drop (length came) before ++ more =
    drop-append-le (length came) before more l in
    let size : length (came ++ drop (length came) before) ≡ length before = simp (length-append, length-drop) (omega arith) in
    let all : take (length before) came ≡ came = take_all (length before) came l in
    rw (rest, all) (ap (take (length before)) (sym (append_assoc came (drop (length came) before) more))
    ∙ take_at (came ++ drop (length came) before) more (length before) size))

pub record LeftCoded (codes : ℕ) (before : List ℕ) (o : Outcome (Unit {0}) Reply) : Type 0 where
  pub received : DataReceived codes before o
  pub untouched : T (no_access o.answer) → Untouched before tt o

left_front : (before more : List ℕ) (o p : Outcome (Unit {0}) Reply)
    → Front (length before) o p
    → Whole none any (before ++ more) tt p
    → LeftCoded (length more) before o
left_front before more o p f w =
    let r = received (before ++ more) p w in
    let came : List ℕ = bytes_read p.log in
    let most : length came ≤ length before + length more = omega (arith, r.places, length-append before more) in
    let same : bytes_read o.log ≡ came = ap bytes_read f.log in
    record {
      received = record {
        places = rw same most;
        buffer = rw same (f.buffer ∙ (ap (take (length before)) r.buffer ∙ front_of came before more));
      };
      untouched = λ g.
          let u = w.untouched (subst (λ (a : Reply). T (no_access a)) f.answer g) in
          record {
            log = f.log ∙ u.log;
            buffer = f.buffer ∙ (ap (take (length before)) u.buffer ∙ take-append_seam before more);
            state = refl;
          };
    }

module _ (mode : Mode) (address : ℕ) (lent : Lent) (n room : ℕ) (rs : List ℕ) where
  abbrev os : List (Operation ℕ)
  os = operations_of (arguments lent)

  abbrev longer : Does
  longer = longer_transfer reason_of mode (restarts (arguments lent)) address (with_code 0 os) n P.ends

  abbrev more : List ℕ
  more = spare (ends_in_read os)

  coded_left : length (buffer_in lent) ≡ room_of os
      → LeftCoded (length more) (buffer_in lent)
      (after (watched_from (coder address os) P.ends [] longer) room rs (buffer_in lent))
  coded_left size =
      let before : List ℕ = buffer_in lent in
      let long : length (before ++ more) ≡ room_of os + length more =
      length-append before more ∙ ap (λ (k : ℕ). k + length more) size in
      left_front before more _ _
      (front_left (coder address os) (length before) (λ i. ap (ltb i) (sym size)) longer [] room rs before (before ++ more) tt
      (sym (take-append_seam before more)))
      (whole none any (λ _. tt) (λ _. tt)
      (watched_opens (coder address os) (λ log a h. tested_late (is_right address os (bytes_read log)) a h)
      (longer_opens mode (restarts (arguments lent)) address (with_code 0 os) (room_of os + length more) n (one_longer os)) [])
      room rs (before ++ more) long)

  refused_left : (codes : ℕ) (before : List ℕ) (r : Reply) → LeftCoded codes before (just r before tt)
  refused_left codes before r = record {
    received = record { places = omega arith; buffer = rw take-nil };
    untouched = λ g. record { log = refl; buffer = refl; state = refl };
  }

  within_left : (limits : Bool) → (limits ≡ true → length (buffer_in lent) ≡ room_of os)
      → LeftCoded (length more) (buffer_in lent)
      (after (within limits (coded reason_of mode address (arguments lent)) n P.ends) room rs (buffer_in lent))
  unfolding outcome
  within_left true size = coded_left (size refl)
  within_left false size = refused_left (length more) (buffer_in lent) _

spare_length : (q : Bool) → length (spare q) ≡ (if q then 1 else 0)
spare_length true = refl
spare_length false = refl

codes_are : (c : Call) → c.pec ≡ true → length (spare (ends_in_read (operations_in c.lent))) ≡ most_codes c
codes_are c coded = rw coded (spare_length (ends_in_read (operations_in c.lent)))

pub coded_whole : (c : Call) → c.pec ≡ true → (log readings : List ℕ)
    → LeftCoded (most_codes c) (buffer_in c.lent) (left_by_call c log readings)
coded_whole c coded log readings =
    subst (λ (codes : ℕ). LeftCoded codes (buffer_in c.lent) (left_by_call c log readings)) (codes_are c coded)
    (rw coded (within_left c.mode c.address c.lent (suc (length log / 2)) (length log / 2) readings
    (within_limits c.lent) (room_lent c.lent)))

pub coded_received : CodedReceived
coded_received c coded log readings = (coded_whole c coded log readings).received
