-- From its start the machine steps as the call of each form, or ends with 20. It rests on `stepped_within` and
-- `coded_within`: within the limits each transfer by steps is its call.
use Prim.Native.Nat.{ℕ, zero, suc, ◌/◌, ◌%◌, ◌^◌, ◌<◌}
use native.Mathlib.Omega.{arith}
use mathlib.Core.Bool.{Bool, true, false, ◌&&◌}
use mathlib.Core.List.{List, [], ◌∷◌}
use mathlib.Core.Path.{◌≡◌, refl}
use lib.Dec.{eqb, leb, ltb}
use lib.ListN.{length}
use borrow.Author.Tests.{eqb-true, eqb-false}
use Rattle.regs.specs.Program.{Outcome, outcome, just}
use Rattle.regs.specs.Log.{Each, expected}
use Rattle.regs.specs.Steps.{stepped, without_room, with_room}
use Rattle.regs.specs.Inner.Summed.{summed_machine}
use Rattle.regs.specs.declared.answers.Answer.TheVariants.{Refused}
use Rattle.regs.specs.declared.answers.Refusal.TheVariants.{OverLimits}
use Rattle.regs.specs.declared.answers.Reply.{Reply}
use Rattle.regs.specs.declared.answers.Reply.TheVariants.{Answered}
use Rattle.regs.proofs.Tests.{by_test, both_of, false_true}
use Rattle.master.specs.Calls as Calls
use Rattle.master.specs.Calls.{Lent, reads_into, writes_from, writes_then_reads, transacts, within_limits, buffer_in, bytes_in}
use Rattle.master.specs.Operations.{lists, total, known, fits, READ, WRITE}
use Rattle.master.specs.Inner.Running.{fresh, running}
use Rattle.transfer.specs.Inner.Points.{mode_of}
use Rattle.transfer.specs.Inner.Machine.{machine, started, next_at}
use Rattle.transfer.specs.declared.Mode.{Mode}
use Rattle.transfer.specs.declared.Transfer.{Transfer}
use Rattle.words.specs.Inner.Words.{mode_at}
use Rattle.i2c.specs.Steps.{kinds_in, lengths_in, restart_in}
use Rattle.i2c.proofs.Stepped.{stepped_within, coded_within}
use Rattle.export_steps.specs.Forms.{Shape, read, write, write_read, transaction, shape_of}
use Rattle.export_steps.specs.Forms.{mode_of_form, lent_by, same, kinds_fit, fits_form, accepts}
use Rattle.export_steps.specs.Forms.{program_by}
use Rattle.export_steps.specs.Inner.Steps.{restart_of_form, before_first, over_limits, first_of}

-- kinds that are tested to be those of a form are these
same_is : (xs ys : List ℕ) → same xs ys ≡ true → xs ≡ ys
unfolding same
same_is [] [] q = refl
same_is [] (y ∷ ys) q = absurd (false_true q)
same_is (x ∷ xs) [] q = absurd (false_true q)
same_is (x ∷ xs) (y ∷ ys) q =
    let p = both_of (eqb x y) (same xs ys) q in
    rw (eqb-true x y p.0, same_is xs ys p.1)

-- what the test of the limits says of the sums
record Sums (kinds lengths : List ℕ) (written room : ℕ) : Type 0 where
  as_many : length kinds ≡ length lengths
  writes : total WRITE kinds lengths ≡ written
  reads : total READ kinds lengths ≡ room
  fit : (fits written ≡ true) × (fits room ≡ true)

sums : (kinds lengths : List ℕ) (written room : ℕ) → lists kinds lengths written room ≡ true → Sums kinds lengths written room
sums kinds lengths written room q =
    let p = both_of (eqb (length kinds) (length lengths)) _ q in
    let p₁ = both_of (leb (length kinds) 64) _ p.1 in
    let p₂ = both_of (known kinds) _ p₁.1 in
    let p₃ = both_of (eqb (total WRITE kinds lengths) written) _ p₂.1 in
    let p₄ = both_of (eqb (total READ kinds lengths) room) _ p₃.1 in
    record {
      as_many = eqb-true _ _ p.0;
      writes = eqb-true _ _ p₃.0;
      reads = eqb-true _ _ p₄.0;
      fit = both_of (fits written) (fits room) p₄.1;
    }

abbrev restart_of : Shape → Bool
restart_of read = true
restart_of write = true
restart_of write_read = true
restart_of transaction = false

no_element : (xs : List ℕ) → length xs ≡ 0 → xs ≡ []
no_element [] e = refl
no_element (x ∷ xs) e = absurd (omega arith)

-- ---- the calls

-- the steps of the machine, plain or with the running code of a packet error code
abbrev pub run_by : Bool → ℕ → List ℕ → List ℕ → List ℕ → ℕ → Transfer → List ℕ → List ℕ → Outcome (Unit {0}) Reply
run_by false address kinds lengths bytes room t readings buffer = stepped (machine false kinds lengths bytes) room t readings buffer
run_by true address kinds lengths bytes room t readings buffer =
    stepped (summed_machine (running address) (machine true kinds lengths bytes)) room (fresh, t) readings buffer

within_by : (pec : Bool) (mode : Mode) (address : ℕ) (l : Lent) → within_limits l ≡ true
    → (pec ≡ true → Each (λ b. b < 2 ^ 8) (bytes_in l))
    → (log readings : List ℕ)
    → run_by pec address (kinds_in l) (lengths_in l) (bytes_in l) (length log / 2)
    (started mode (restart_in l) address (kinds_in l)) readings (buffer_in l)
    ≡ expected (Calls.program_by pec (mode_of mode) address l) log readings (buffer_in l) tt
within_by false mode address l q small log readings = stepped_within mode address l q log readings (buffer_in l) tt
within_by true mode address l q small log readings = rw q (coded_within mode address l q (small refl) log readings)

module _ (pec : Bool) (mode : Mode) (address : ℕ) (bytes buffer log readings : List ℕ)
    (small : pec ≡ true → Each (λ b. b < 2 ^ 8) bytes)
  where
    -- the steps from a start, and what a call is to leave
    abbrev StepsAre : Shape → List ℕ → List ℕ → Type 0
    StepsAre shape kinds lengths =
        run_by pec address kinds lengths bytes (length log / 2) (started mode (restart_of shape) address kinds) readings buffer
        ≡ expected (Calls.program_by pec (mode_of mode) address (lent_by shape kinds lengths bytes buffer)) log readings buffer tt

    as_read : (lengths : List ℕ) → Sums (READ ∷ []) lengths (length bytes) (length buffer) → StepsAre read (READ ∷ []) lengths
    unfolding total
    as_read [] s = absurd (omega (arith, s.as_many))
    as_read (n ∷ []) s =
        let e : n ≡ length buffer = omega (arith, s.reads) in
        rw (e, no_element bytes (omega (arith, s.writes)))
        (within_by pec mode address (reads_into buffer) s.fit.1 (λ p. tt) log readings)
    as_read (m ∷ n ∷ lengths) s = absurd (omega (arith, s.as_many))

    as_write : (lengths : List ℕ) → Sums (WRITE ∷ []) lengths (length bytes) (length buffer) → StepsAre write (WRITE ∷ []) lengths
    unfolding total
    as_write [] s = absurd (omega (arith, s.as_many))
    as_write (n ∷ []) s =
        let e : n ≡ length bytes = omega (arith, s.writes) in
        rw (e, no_element buffer (omega (arith, s.reads)))
        (within_by pec mode address (writes_from bytes) s.fit.0 small log readings)
    as_write (m ∷ n ∷ lengths) s = absurd (omega (arith, s.as_many))

    as_write_read : (lengths : List ℕ) → Sums (WRITE ∷ READ ∷ []) lengths (length bytes) (length buffer)
        → StepsAre write_read (WRITE ∷ READ ∷ []) lengths
    unfolding total
    as_write_read [] s = absurd (omega (arith, s.as_many))
    as_write_read (n ∷ []) s = absurd (omega (arith, s.as_many))
    as_write_read (m ∷ n ∷ []) s =
        let e : m ≡ length bytes = omega (arith, s.writes) in
        let f : n ≡ length buffer = omega (arith, s.reads) in
        let q : fits (length bytes) && fits (length buffer) ≡ true = rw (s.fit.0, s.fit.1) in
        rw (e, f) (within_by pec mode address (writes_then_reads bytes buffer) q small log readings)
    as_write_read (k ∷ m ∷ n ∷ lengths) s = absurd (omega (arith, s.as_many))

    by_shape : (shape : Shape) (kinds lengths : List ℕ)
        → kinds_fit shape kinds ≡ true
        → lists kinds lengths (length bytes) (length buffer) ≡ true
        → StepsAre shape kinds lengths
    by_shape read kinds lengths f q =
        let e : kinds ≡ READ ∷ [] = same_is kinds (READ ∷ []) f in
        rw e (as_read lengths (rw e at (sums kinds lengths (length bytes) (length buffer) q)))
    by_shape write kinds lengths f q =
        let e : kinds ≡ WRITE ∷ [] = same_is kinds (WRITE ∷ []) f in
        rw e (as_write lengths (rw e at (sums kinds lengths (length bytes) (length buffer) q)))
    by_shape write_read kinds lengths f q =
        let e : kinds ≡ WRITE ∷ READ ∷ [] = same_is kinds (WRITE ∷ READ ∷ []) f in
        rw e (as_write_read lengths (rw e at (sums kinds lengths (length bytes) (length buffer) q)))
    by_shape transaction kinds lengths f q = within_by pec mode address (transacts kinds lengths bytes buffer) q small log readings

-- ---- the forms

-- RESTART is left out of transactions
restart_is : (form : ℕ) → restart_of_form form ≡ restart_of (shape_of form)
unfolding shape_of restart_of_form
restart_is form =
    by_test (eqb (form % 4) 0) (λ q. rw (eqb-true (form % 4) 0 q)) (λ q₀.
    by_test (eqb (form % 4) 1) (λ q. rw (eqb-true (form % 4) 1 q)) (λ q₁.
    by_test (eqb (form % 4) 2) (λ q. rw (eqb-true (form % 4) 2 q)) (λ q₂.
    let three : form % 4 ≡ 3 = omega (arith, eqb-false (form % 4) 0 q₀, eqb-false (form % 4) 1 q₁, eqb-false (form % 4) 2 q₂) in
    rw three)))

mode_is : (form : ℕ) → mode_of_form form ≡ mode_of (mode_at (ltb 3 form))
unfolding mode_of_form mode_at
mode_is form = by_test (ltb 3 form) (λ q. rw q) (λ q. rw q)

module _ (pec : Bool) (form address : ℕ) (kinds lengths bytes buffer readings log : List ℕ)
    (small : pec ≡ true → Each (λ b. b < 2 ^ 8) bytes)
  where
    abbrev Called : Type 0
    Called =
        run_by pec address kinds lengths bytes (length log / 2)
        (first_of form address kinds lengths (length bytes) (length buffer)) readings buffer
        ≡ expected (program_by pec form address kinds lengths bytes buffer) log readings buffer tt

    -- what the test of a start says
    tested : accepts form kinds lengths (length bytes) (length buffer) ≡ true
        → (kinds_fit (shape_of form) kinds ≡ true) × (lists kinds lengths (length bytes) (length buffer) ≡ true)
    unfolding accepts fits_form
    tested q =
        let p = both_of (fits_form form kinds) (lists kinds lengths (length bytes) (length buffer)) q in
        ((both_of (ltb form 8) (kinds_fit (shape_of form) kinds) p.0).1, p.1)

    accepted : accepts form kinds lengths (length bytes) (length buffer) ≡ true → Called
    unfolding first_of before_first
    accepted q =
        rw (q, restart_is form, mode_is form)
        (by_shape pec (mode_at (ltb 3 form)) address bytes buffer log readings small (shape_of form) kinds lengths
        (tested q).0 (tested q).1)

    ended : (pec : Bool) (room : ℕ)
        → run_by pec address kinds lengths bytes room (over_limits (before_first form address kinds)) readings buffer
        ≡ just (Answered (Refused OverLimits)) buffer tt
    unfolding over_limits next_at stepped without_room with_room
    ended false zero = refl
    ended false (suc room) = refl
    ended true zero = refl
    ended true (suc room) = refl

    refused : accepts form kinds lengths (length bytes) (length buffer) ≡ false → Called
    unfolding first_of outcome
    refused q = rw q (ended pec (length log / 2))

    pub steps_are_called : Called
    steps_are_called = by_test (accepts form kinds lengths (length bytes) (length buffer)) accepted refused
