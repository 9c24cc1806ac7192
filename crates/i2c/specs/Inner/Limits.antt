-- The limits as the code tests them.
use Rattle.std.specs.Prelude.{ℕ, ◌+◌, Option, Some, None, option_and_then, List, [], ◌∷◌, eqb, if◌then◌else◌}
use Rattle.regs.specs.declared.access.Ran.{Ran}
use Rattle.regs.specs.declared.answers.Answer.TheVariants.{Refused}
use Rattle.regs.specs.declared.answers.Refusal.TheVariants.{OverLimits}
use Rattle.regs.specs.declared.answers.Reply.TheVariants.{Answered}
use Rattle.master.specs.Operations.{READ, WRITE}
use Rattle.i2c.specs.declared.limits.Sums.{Sums}

abbrev pub refused_over : Ran
refused_over = record { reply = Answered (Refused OverLimits); entries = 0; used = 0 }

-- one operation more; none where its kind is neither a write nor a read
unfoldable pub sums_with : Sums → ℕ → ℕ → Option Sums
sums_with s kind n =
    if eqb kind WRITE then Some (record s { written = s.written + n })
    else (if eqb kind READ then Some (record s { room = s.room + n }) else None)

-- the lengths of each kind, added to s
unfoldable pub sums_of : Sums → List ℕ → List ℕ → Option Sums
sums_of s [] lengths = Some s
sums_of s (kind ∷ kinds) [] = Some s
sums_of s (kind ∷ kinds) (n ∷ lengths) = option_and_then (λ (more : Sums). sums_of more kinds lengths) (sums_with s kind n)
