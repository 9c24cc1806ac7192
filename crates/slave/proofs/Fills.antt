-- A fill ends where the master has stopped: `respond_till_stop` does not end at NeedMoreBytes, and `respond_and_fill`
-- does not answer it. One claim for both, taken along the calls by `Responses`; it rests on `till_stop` and `filled`.
use Prim.Native.Nat.{ℕ, zero, suc, ◌/◌}
use native.Mathlib.Omega.{arith}
use mathlib.Core.Bool.{true}
use mathlib.Core.List.{List, [], ◌∷◌}
use mathlib.Core.Logic.{◌⊎◌, inl, inr, ◌≢◌}
use mathlib.Core.Path.{◌≡◌, refl}
use lib.ListN.{length}
use Rattle.regs.specs.Registers.{CLR_RX_DONE, CLR_INTR}
use Rattle.regs.specs.Program.{ends, reads, Outcome, outcome, just, logged, Result, ok, err}
use Rattle.regs.specs.declared.access.Entry.{Entry}
use Rattle.regs.specs.declared.access.Entry.TheVariants as E
use Rattle.regs.specs.declared.answers.Answer.{Answer}
use Rattle.regs.specs.declared.answers.Answer.TheVariants.{Accepted, Responded, Refused}
use Rattle.regs.specs.declared.answers.ReadStatus.{ReadStatus}
use Rattle.regs.specs.declared.answers.ReadStatus.TheVariants.{Done, NeedMoreBytes, LeftoverBytes}
use Rattle.regs.specs.declared.answers.Refusal.{Refusal}
use Rattle.regs.specs.declared.answers.Reply.{Reply}
use Rattle.regs.specs.declared.answers.Reply.TheVariants.{Answered, LogFull, OutOfReadings}
use Rattle.slave.specs.I2cSlave.{answer, filled}
use Rattle.slave.specs.Counts.{ends_at_stop, FilledTillStop, FillsTillStop, FillsUpTillStop}
use Rattle.slave.specs.declared.SlaveState.{SlaveState}
use Rattle.slave.proofs.Basics.{Out}
use Rattle.slave.proofs.Waits.{Claim, Kept, Came, cleared, All}
use Rattle.slave.proofs.Waits.Came.{came_done, came_more, came_leftover, came_error}
use Rattle.slave.proofs.Responses.{Again, AtEnd, Told, ended, filled_after, filled_alone}

-- ---- the claim

abbrev Stops : Answer → Claim
Stops well w c q o = FilledTillStop well o

-- an access more in front changes nothing
in_front : (e : Entry) (es : List Entry) → ends_at_stop es ≡ true → ends_at_stop (e ∷ es) ≡ true
in_front e [] h = let z : ◌≡◌ {A = ℕ} 0 1 = cc in absurd (omega arith)
in_front e (next ∷ es) h = h

longer : {well : Answer} (e : Entry) (o : Outcome SlaveState Reply) → FilledTillStop well o → FilledTillStop well (logged e o)
longer e o h = record { never_more = h.never_more; stopped = λ a. in_front e o.log (h.stopped a) }

-- where a call answers neither of the two
neither : {well : Answer} (r : Reply) (b : List ℕ) (z : SlaveState)
    → r ≢ Answered (Responded NeedMoreBytes)
    → r ≢ Answered well
    → FilledTillStop well (just r b z)
neither r b z more ill = record { never_more = more; stopped = λ e. absurd (ill e) }

no_answer : (r : Reply) (a : Answer) → (r ≡ LogFull) ⊎ (r ≡ OutOfReadings) → r ≢ Answered a
no_answer r a (inl e) h = let z : ◌≡◌ {A = ℕ} 0 1 = cc in absurd (omega arith)
no_answer r a (inr e) h = let z : ◌≡◌ {A = ℕ} 0 1 = cc in absurd (omega arith)

stops_kept : (well : Answer) → Kept (Stops well)
stops_kept well =
    record {
      stopped = λ w c q r b z e. neither r b z (no_answer r _ e) (no_answer r _ e);
      read = λ w c q r v o e h. longer _ o h;
      source = λ w c q v o h. longer _ o h;
      masked = λ w q v o h. longer _ o h;
      marked = λ w q o h. longer _ o h;
      sent = λ w v c q o h. longer _ o h;
    }

-- nothing is said of how many bytes were sent
again_stops : (well : Answer) (f : ℕ) → Again (Stops well) (stops_kept well) f
again_stops well f w t h = record { holds = h.holds }

-- ---- the ends

module _ (well : Answer) where
  -- an answer behind the access that cleared RX_DONE, or all flags
  behind_stop : {w : ℕ} {c q : List ℕ} (r : ℕ) (a : Answer)
      → ((v : ℕ) → ends_at_stop (E.Read r v ∷ []) ≡ true)
      → Answered a ≢ Answered (Responded NeedMoreBytes)
      → All (Stops well) (stops_kept well) w c q (reads r (λ _. ends a))
  unfolding outcome
  behind_stop {w} {c} {q} r a stop more = record { holds = go }
    where
      go : (room : ℕ) (rs b : List ℕ) (z : SlaveState) → FilledTillStop well (Out (reads r (λ _. ends a)) room rs b z)
      go zero rs b z = (stops_kept well).stopped w c q LogFull b z (inl refl)
      go (suc room) [] b z = (stops_kept well).stopped w c q OutOfReadings b z (inr refl)
      go (suc room) (v ∷ rs) b z = record { never_more = more; stopped = λ _. stop v }

  refuses : (w : ℕ) (c q : List ℕ) (why : Refusal)
      → Answered (Refused why) ≢ Answered well
      → All (Stops well) (stops_kept well) w c q (ends (Refused why))
  refuses w c q why ill =
      ended (Stops well) (stops_kept well) (λ b z. neither _ b z (λ e. let z : ◌≡◌ {A = ℕ} 0 1 = cc in absurd (omega arith)) ill)

  -- the end of a fill, for what a call makes of it: no fill ends at NeedMoreBytes, and what it ends at is not that answer
  module _ (told : Result (Unit {0}) Refusal → Answer)
      (other : (x : Result (Unit {0}) Refusal) → Answered (told x) ≢ Answered (Responded NeedMoreBytes))
      (ill : (e : Refusal) → Answered (told (err e)) ≢ Answered well) where
    at_end : AtEnd (Stops well) (stops_kept well) (λ x. ends (told x))
    at_end w _ _ _ x came_done e = behind_stop CLR_RX_DONE (told x) (λ v. refl) (other x)
    at_end w _ _ _ x came_more e = let z : ◌≡◌ {A = ℕ} 0 1 = cc in absurd (omega arith)
    at_end w c q _ x (came_leftover k) e = behind_stop CLR_INTR (told x) (λ v. refl) (other x)
    at_end w c q _ (ok _) came_error e = let z : ◌≡◌ {A = ℕ} 0 1 = cc in absurd (omega arith)
    at_end w c q _ (err why) came_error e =
        ended (Stops well) (stops_kept well) (λ b z. neither _ b z (other (err why)) (ill why))

-- ---- respond_till_stop

pub fills_till_stop : FillsTillStop
fills_till_stop fill log readings me =
    (filled_alone (Stops Accepted) (stops_kept Accepted) fill (again_stops Accepted fill) _
    (at_end Accepted (answer (λ _. Accepted)) other (λ e h. let z : ◌≡◌ {A = ℕ} 0 1 = cc in absurd (omega arith)))
    ).holds (length log / 2) readings [] me
  where
    other : (x : Result (Unit {0}) Refusal) → Answered (answer (λ _. Accepted) x) ≢ Answered (Responded NeedMoreBytes)
    other (ok _) h = let z : ◌≡◌ {A = ℕ} 0 1 = cc in absurd (omega arith)
    other (err e) h = let z : ◌≡◌ {A = ℕ} 0 1 = cc in absurd (omega arith)

-- ---- respond_and_fill

-- what it tells when the fill is over
not_more : (x : Result (Unit {0}) Refusal) → Answered (answer Responded (filled x)) ≢ Answered (Responded NeedMoreBytes)
not_more (ok _) h = let z : ◌≡◌ {A = ℕ} 0 1 = cc in absurd (omega arith)
not_more (err e) h = let z : ◌≡◌ {A = ℕ} 0 1 = cc in absurd (omega arith)

not_done : (e : Refusal) → Answered (Refused e) ≢ Answered (Responded Done)
not_done e h = let z : ◌≡◌ {A = ℕ} 0 1 = cc in absurd (omega arith)

-- a result of the bytes themselves
direct : (w : ℕ) (c q : List ℕ) (r : Result ReadStatus Refusal)
    → Came w c q r
    → Told r
    → All (Stops (Responded Done)) (stops_kept (Responded Done)) w c q (cleared r (ends (answer Responded r)))
direct w _ _ _ came_done t =
    behind_stop (Responded Done) CLR_RX_DONE (Responded Done) (λ v. refl) (λ h. let z : ◌≡◌ {A = ℕ} 0 1 = cc in absurd (omega arith))
direct w _ _ _ came_more t = absurd t
direct w c q (ok (LeftoverBytes k)) (came_leftover e) t =
    behind_stop (Responded Done) CLR_INTR (Responded (LeftoverBytes k)) (λ v. refl)
    (λ h. let z : ◌≡◌ {A = ℕ} 0 1 = cc in absurd (omega arith))
direct w c q (err why) came_error t = refuses (Responded Done) w c q why (not_done why)

pub fills_up_till_stop : FillsUpTillStop
fills_up_till_stop bytes fill log readings me =
    (filled_after (Stops (Responded Done)) (stops_kept (Responded Done)) fill (again_stops (Responded Done) fill)
    (λ w c q why. refuses (Responded Done) w c q why (not_done why)) direct
    (at_end (Responded Done) (λ x. answer Responded (filled x)) not_more not_done) _ bytes
    ).holds (length log / 2) readings [] me
