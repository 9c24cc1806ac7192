-- What is done with a run, by cases: only where it is accepted is a byte tested; and by the last access.
use Prim.Native.Nat.{ℕ, ◌+◌, ◌*◌}
use mathlib.Core.Bool.{Bool, true, false}
use mathlib.Core.List.{List}
use mathlib.Core.Path.{◌≡◌, refl, sym, ap}
use lib.Dec.{eqb}
use lib.ListN.{get_or}
use Rattle.regs.specs.declared.access.Ran.{Ran}
use Rattle.regs.specs.declared.answers.Answer.TheVariants.{Accepted, Heard, Responded, Refused}
use Rattle.regs.specs.declared.answers.Refusal.TheVariants.{WrongPacketErrorCode}
use Rattle.regs.specs.declared.answers.Reply.{Reply}
use Rattle.regs.specs.declared.answers.Reply.TheVariants.{Answered, OutOfReadings, LogFull}
use Rattle.std.specs.Prelude.{None, Some}
use Rattle.regs.specs.Fields.{dat}
use Rattle.regs.proofs.Tests.{false_true}
use Rattle.master.specs.CodedLaws.{tested_reply}
use Rattle.transfer_code.specs.Inner.Settling.{is_accepted, replied, wrong, tested_ran}
use Rattle.transfer_code.specs.Inner.Settling.{last_at, with_code_at, Settled}
use Rattle.transfer_code.specs.declared.settle.DataAt.TheVariants.{Got, Put}

right_reply : (r : Reply) → tested_reply true r ≡ r
right_reply (Answered Accepted) = refl
right_reply (Answered (Heard c)) = refl
right_reply (Answered (Responded s)) = refl
right_reply (Answered (Refused why)) = refl
right_reply OutOfReadings = refl
right_reply LogFull = refl

wrong_reply : (r : Reply) → is_accepted r ≡ true → tested_reply false r ≡ Answered (Refused WrongPacketErrorCode)
wrong_reply (Answered Accepted) h = refl
wrong_reply (Answered (Heard c)) h = absurd (false_true h)
wrong_reply (Answered (Responded s)) h = absurd (false_true h)
wrong_reply (Answered (Refused why)) h = absurd (false_true h)
wrong_reply OutOfReadings h = absurd (false_true h)
wrong_reply LogFull h = absurd (false_true h)

other_reply : (q : Bool) (r : Reply) → is_accepted r ≡ false → tested_reply q r ≡ r
other_reply q (Answered Accepted) h = absurd (false_true (sym h))
other_reply q (Answered (Heard c)) h = refl
other_reply q (Answered (Responded s)) h = refl
other_reply q (Answered (Refused why)) h = refl
other_reply q OutOfReadings h = refl
other_reply q LogFull h = refl

module _ (ran : Ran) (q : Bool) where
  pub is_right : q ≡ true → ran ≡ tested_ran q ran
  is_right e = rw e (sym (ap (λ (r : Reply). replied r ran) (right_reply ran.reply)))

  pub is_wrong : is_accepted ran.reply ≡ true → q ≡ false → wrong ran ≡ tested_ran q ran
  is_wrong h e = rw e (sym (ap (λ (r : Reply). replied r ran) (wrong_reply ran.reply h)))

  pub is_other : is_accepted ran.reply ≡ false → ran ≡ tested_ran q ran
  is_other h = sym (ap (λ (r : Reply). replied r ran) (other_reply q ran.reply h))

module _ {c : ℕ} {from : Ran} {before : List ℕ} where
  pub settled_nowhere : None ≡ last_at before from.entries → Settled c from before from before
  settled_nowhere e = record { ran = rw (← e); log = rw (← e) }

  pub settled_got : {k : ℕ} {to : Ran} → Some (Got k) ≡ last_at before from.entries
      → to ≡ tested_ran (eqb (dat (get_or before (k * 2 + 1) 0)) c) from
      → Settled c from before to before
  settled_got e h = record { ran = rw (← e) h; log = rw (← e) }

  pub settled_put : {k : ℕ} {after : List ℕ} → Some (Put k) ≡ last_at before from.entries
      → after ≡ with_code_at c before k
      → Settled c from before from after
  settled_put e h = record { ran = rw (← e); log = rw (← e) h }
