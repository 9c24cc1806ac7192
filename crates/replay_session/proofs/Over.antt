-- Operations of a call's form that are beyond the limits are refused by the call's driver, with number 20
-- (`over_refused`): `fits` and `lists` are false then, and the slave's `within_limits` exits.
use Prim.Native.Nat.{ℕ, ◌+◌}
use mathlib.Core.Bool.{Bool, true, false, ◌&&◌, ◌||◌}
use mathlib.Core.List.{List, [], ◌∷◌, ◌++◌}
use mathlib.Core.Path.{◌≡◌, refl}
use lib.Dec.{eqb, ltb, leb}
use lib.ListN.{length}
use borrow.Author.Tests.{ltb-true, lt-leb}
use Rattle.regs.specs.Program.{Program, behaviour, ends, Outcome, outcome, just}
use Rattle.std.specs.Prelude.{Some, None}
use Rattle.regs.proofs.Tests.{false_true}
use Rattle.regs.specs.declared.answers.Answer.{Answer}
use Rattle.regs.specs.declared.answers.Answer.TheVariants.{Refused}
use Rattle.regs.specs.declared.answers.Refusal.TheVariants.{OverLimits}
use Rattle.regs.specs.declared.answers.Reply.{Reply}
use Rattle.regs.specs.declared.answers.Reply.TheVariants.{Answered}
use Rattle.master.specs.Operations.{Operation, writes, reads, READ, WRITE, fits, lists, known, total}
use Rattle.slave.specs.I2cSlave.{respond_to_read_call, respond_and_fill_call}
use Rattle.slave.specs.declared.SlaveState.{SlaveState}
use Rattle.text_hex.specs.Print.{log_text, answer_text}
use Rattle.replay_calls.specs.Calls.{LOG_ENTRIES, replayed, Listed, listing, transfer_by, transfer_of, keeping}
use Rattle.replay_calls.specs.Calls.{outcome_of, outcome_text, has_buffer}
use Rattle.replay_calls.specs.declared.form.Kind.{Kind}
use Rattle.replay_calls.specs.declared.form.Form.{Form}
use Rattle.replay_calls.specs.declared.Call.{Call}
use Rattle.replay_calls.specs.declared.Call.TheVariants.{Clock, Master, Reset, Listen, Respond, Fill, RespondAndFill}
use Rattle.replay_session.specs.Session.{wants_by}
use Rattle.replay_session.specs.Inner.Bounded.{over}
use Rattle.replay_session.specs.declared.Wants.TheVariants.{Nothing, Read, Write, Both}
use Rattle.replay_session.proofs.Forms.{after, done, form_of}

-- ---- which operations a form has

never_done : (os : List (Operation ℕ)) → done (after os None) ≡ true → ⊥
unfolding after
never_done [] e = false_true e
never_done (o ∷ os) e = never_done os e

none_left : (os : List (Operation ℕ)) → done (after os (Some Nothing)) ≡ true → os ≡ []
unfolding after
none_left [] e = refl
none_left (writes bs ∷ os) e = absurd (never_done os e)
none_left (reads n ∷ os) e = absurd (never_done os e)

-- ---- beyond the limits

beyond : (n : ℕ) → ltb 4096 n ≡ true → fits n ≡ false
beyond n e = lt-leb n 4096 (ltb-true 4096 n e)

or_false : (b : Bool) → b || false ≡ true → b ≡ true
or_false true e = refl
or_false false e = absurd (false_true e)

and_false : (t : Bool) → t && false ≡ false
and_false true = refl
and_false false = refl

either_beyond : (a b : ℕ) → (ltb 4096 a || ltb 4096 b) ≡ true → (fits a && fits b) ≡ false
either_beyond a b = go (ltb 4096 a) refl
  where
    go : (t : Bool) → ltb 4096 a ≡ t → (t || ltb 4096 b) ≡ true → (fits a && fits b) ≡ false
    go true e o = rw (beyond a e)
    go false e o = rw (beyond b o) (and_false (fits a))

-- two of six tests
second_or_last : (a b c d e f : Bool) → b && f ≡ false → a && (b && (c && (d && (e && f)))) ≡ false
second_or_last false b c d e f z = refl
second_or_last true false c d e f z = refl
second_or_last true true false d e f z = refl
second_or_last true true true false e f z = refl
second_or_last true true true true false f z = refl
second_or_last true true true true true f z = z

-- a transaction, whatever it lists
lists_none : (l : Listed) → over l ≡ true → lists l.kinds l.lengths (length l.bytes) l.room ≡ false
lists_none l o =
    second_or_last (eqb (length l.kinds) (length l.lengths)) (leb (length l.kinds) 64) (known l.kinds)
    (eqb (total WRITE l.kinds l.lengths) (length l.bytes)) (eqb (total READ l.kinds l.lengths) l.room)
    (fits (length l.bytes) && fits l.room) (go (ltb 64 (length l.kinds)) refl o)
  where
    go : (t : Bool) → ltb 64 (length l.kinds) ≡ t → (t || (ltb 4096 (length l.bytes) || ltb 4096 l.room)) ≡ true
        → (leb (length l.kinds) 64 && (fits (length l.bytes) && fits l.room)) ≡ false
    go true e o = rw (lt-leb (length l.kinds) 64 (ltb-true 64 (length l.kinds) e))
    go false e o = rw (either_beyond (length l.bytes) l.room o) (and_false (leb (length l.kinds) 64))

one_read : (os : List (Operation ℕ)) → done (after os (Some Read)) ≡ true → over (listing os) ≡ true → ltb 4096 (listing os).room ≡ true
unfolding after listing
one_read [] e o = absurd (false_true e)
one_read (writes bs ∷ os) e o = absurd (never_done os e)
one_read (reads n ∷ os) e o = rw (none_left os e) (rw (none_left os e) at o)

one_write : (os : List (Operation ℕ)) → done (after os (Some Write)) ≡ true → over (listing os) ≡ true
    → ltb 4096 (length (listing os).bytes) ≡ true
unfolding after listing
one_write [] e o = absurd (false_true e)
one_write (reads n ∷ os) e o = absurd (never_done os e)
one_write (writes bs ∷ os) e o = rw (none_left os e) (or_false (ltb 4096 (length (bs ++ []))) (rw (none_left os e) at o))

-- a write, then a read
both_fit : (os : List (Operation ℕ)) → done (after os (Some Both)) ≡ true → over (listing os) ≡ true
    → (fits (length (listing os).bytes) && fits (listing os).room) ≡ false
unfolding after listing
both_fit [] e o = absurd (false_true e)
both_fit (reads n ∷ os) e o = absurd (never_done os e)
both_fit (writes bs ∷ []) e o = absurd (false_true e)
both_fit (writes bs ∷ writes cs ∷ os) e o = absurd (never_done os e)
both_fit (writes bs ∷ reads n ∷ os) e o =
    rw (none_left os e) (either_beyond (length (bs ++ [])) (n + 0) (rw (none_left os e) at o))

-- ---- refused with number 20

abbrev Refuses : {S : Type 0} → Program S Answer Answer → Type 0
Refuses p = behaviour p LOG_ENTRIES ≡ ends (Refused OverLimits)

transfer_refuses : (form : Form) (address : ℕ) (os : List (Operation ℕ))
    → done (after os (Some (wants_by form.kind))) ≡ true
    → over (listing os) ≡ true
    → Refuses (transfer_of form address (listing os))
transfer_refuses form address os = by form.kind
  where
    l : Listed
    l = listing os

    by : (kind : Kind)
        → done (after os (Some (wants_by kind))) ≡ true
        → over l ≡ true
        → Refuses (transfer_by kind form address l)
    by Kind.Read e o = rw (beyond l.room (one_read os e o))
    by Kind.Write e o = rw (beyond (length l.bytes) (one_write os e o))
    by Kind.WriteRead e o = rw (both_fit os e o)
    by Kind.Transaction e o = rw (lists_none l o)

-- what is printed of a refusal, and the state after it
pub record As20 (b : Bool) (s : SlaveState) (o : Outcome SlaveState Reply) : Type 0 where
  pub text : outcome_text b o ≡ answer_text 20 0
  pub state : o.state ≡ s

printed_20 : {S : Type 0} (b : Bool) (buffer : List ℕ) (z : S)
    → outcome_text b (just (Answered (Refused OverLimits)) buffer z) ≡ answer_text 20 0
unfolding log_text
printed_20 true buffer z = refl
printed_20 false buffer z = refl

refused : (p : Program SlaveState Answer Answer) (b : Bool) (readings buffer : List ℕ) (s : SlaveState) → Refuses p
    → As20 b s (replayed p readings buffer s)
unfolding replayed outcome
refused p b readings buffer s e = record { text = rw e (printed_20 b buffer s); state = rw e }

kept_refused : (p : Program (Unit {0}) Answer Answer) (b : Bool) (readings buffer : List ℕ) (s : SlaveState) → Refuses p
    → As20 b s (keeping s (replayed p readings buffer tt))
unfolding replayed outcome
kept_refused p b readings buffer s e = record { text = rw e (printed_20 b buffer s); state = refl }

over_none : {P : Type 0} (os : List (Operation ℕ)) → done (after os (Some Nothing)) ≡ true → over (listing os) ≡ true → P
unfolding listing
over_none os e o = absurd (false_true (rw (none_left os e) at o))

pub over_refused : (c : Call) (os : List (Operation ℕ)) (readings : List ℕ) (s : SlaveState)
    → done (after os (Some (form_of c))) ≡ true
    → over (listing os) ≡ true
    → As20 (has_buffer c (listing os)) s (outcome_of c (listing os) readings s)
unfolding respond_to_read_call respond_and_fill_call
over_refused (Clock frequency clk) os readings s e o = over_none os e o
over_refused (Master form address) os readings s e o =
    kept_refused (transfer_of form address (listing os)) _ readings _ s (transfer_refuses form address os e o)
over_refused (Reset address general_call) os readings s e o = over_none os e o
over_refused (Listen n) os readings s e o = over_none os e o
over_refused Respond os readings s e o =
    refused (respond_to_read_call (listing os).bytes) _ readings [] s (rw (one_write os e o))
over_refused (Fill fill) os readings s e o = over_none os e o
over_refused (RespondAndFill fill) os readings s e o =
    refused (respond_and_fill_call (listing os).bytes fill) _ readings [] s (rw (one_write os e o))
