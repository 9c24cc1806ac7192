-- What the exported steps do with what a caller holds. The contracts cite `Starts`, `Tells`, `Moves` and `Stores`, and so does
-- the caller's loop (`Loop.antt`), of which it is proved what it leaves: nothing here needs to be believed.
use Rattle.std.specs.Prelude.{ℕ, ◌%◌, Bool, true, false, not, List, ◌≡◌, eqb, ltb, if◌then◌else◌}
use Rattle.regs.specs.Answers.{number, detail}
use Rattle.regs.specs.Steps.{stored_in}
use Rattle.regs.specs.Inner.Summed.{sum_after}
use Rattle.regs.specs.declared.access.Next.{Next}
use Rattle.regs.specs.declared.access.Next.TheVariants.{Read, Write, Mark, Finished}
use Rattle.regs.specs.declared.answers.Answer.TheVariants.{Refused}
use Rattle.regs.specs.declared.answers.Refusal.TheVariants.{OverLimits}
use Rattle.regs.specs.declared.answers.Reply.TheVariants.{Answered}
use Rattle.master.specs.Inner.Running.{Sum, fresh, running}
use Rattle.transfer.specs.Inner.Machine.{started, next_of}
use Rattle.transfer.specs.Inner.Points.{with_point}
use Rattle.transfer.specs.declared.Transfer.{Transfer}
use Rattle.transfer.specs.declared.Point.TheVariants as P
use Rattle.words_points.specs.Held.{Held, Live, Over, held_of, advanced_held, store_held}
use Rattle.words.specs.Inner.Words.{held_at, mode_at}
use Rattle.words_code.specs.Inner.Code.{sum_in, word_by, number_by}
use Rattle.export_steps.specs.Forms.{accepts}
use Rattle.export_steps.specs.declared.Access.{Access}

-- ---- an access, as a caller gets it

-- the end, with number and detail
unfoldable pub ended : ℕ → ℕ → Access
ended n d = record { kind = 0; register = 0; number = n; value = d }

unfoldable pub access_of : Next → Access
access_of (Read r) = record { kind = 1; register = r; number = 0; value = 0 }
access_of (Write r v) = record { kind = 2; register = r; number = 0; value = v }
access_of (Mark x) = record { kind = 3; register = x; number = 0; value = 0 }
access_of (Finished a) = ended (number (Answered a)) (detail (Answered a))

-- ---- the words

-- the first word of a read carries RESTART, but in a transaction
unfoldable pub restart_of_form : ℕ → Bool
restart_of_form form = not (eqb (form % 4) 3)

-- number 20
unfoldable pub over_limits : Transfer → Transfer
over_limits t = with_point t (P.Finished (Refused OverLimits))

-- the mode and the RESTART flag of a form
unfoldable pub before_first : ℕ → ℕ → List ℕ → Transfer
before_first form address kinds = started (mode_at (ltb 3 form)) (restart_of_form form) address kinds

-- the first point: the tests of the form, of the limits and of the address are done
unfoldable pub first_of : ℕ → ℕ → List ℕ → List ℕ → ℕ → ℕ → Transfer
first_of form address kinds lengths written room =
    if accepts form kinds lengths written room then before_first form address kinds else over_limits (before_first form address kinds)

-- the access that is next
unfoldable pub access_held : List ℕ → Held → Access
access_held bytes (Live t) = access_of (next_of bytes t)
access_held bytes (Over n d) = ended n d

-- ---- with a packet error code

-- an access as it is told: the word with STOP of a write carries the code, and at the end accepted is 22 where the register is not 0
unfoldable pub told_by : Sum → Access → Access
told_by s a = record {
  kind = a.kind;
  register = a.register;
  number = if eqb a.kind 0 then number_by s a.number a.value else a.number;
  value = if eqb a.kind 2 then word_by s a.register a.value else a.value;
}

-- the running code after an access that read v
unfoldable pub sum_held : List ℕ → Held → Sum → ℕ → Sum
sum_held bytes (Live t) s v = sum_after (running t.address) s (next_of bytes t) v
sum_held bytes (Over n d) s v = s

-- ---- what a caller holds, plain or, with `pec`, with a packet error code

-- the words; with a packet error code its two bytes beside them
abbrev pub Holding : Bool → Type 0
Holding false = List ℕ
Holding true = List ℕ × List ℕ

abbrev pub words_of : (pec : Bool) → Holding pec → List ℕ
words_of false words = words
words_of true held = held.0

abbrev pub access_by : (pec : Bool) → List ℕ → Holding pec → Access
access_by false bytes words = access_held bytes (held_at words)
access_by true bytes held = told_by (sum_in held.1) (access_held bytes (held_at held.0))

-- `celadonsaw_start` or `celadonsaw_start_pec` left this
abbrev pub Starts : (pec : Bool) → ℕ → ℕ → List ℕ → List ℕ → ℕ → ℕ → Holding pec → Type 0
Starts false form address kinds lengths written room words =
    held_at words ≡ held_of (first_of form address kinds lengths written room)
Starts true form address kinds lengths written room held =
    (held_at held.0 ≡ held_of (first_of form address kinds lengths written room)) × (sum_in held.1 ≡ fresh)

-- the access that is told, beside a write buffer
abbrev pub Tells : (pec : Bool) → Holding pec → List ℕ → Access → Type 0
Tells pec held bytes a = a ≡ access_by pec bytes held

-- the words after an access that read v
abbrev pub Advances : Bool → List ℕ → List ℕ → List ℕ → ℕ → List ℕ → Type 0
Advances pec kinds lengths words v after = held_at after ≡ advanced_held pec kinds lengths (held_at words) v

-- what is held after it; of the write buffer the code takes in the byte that was sent
abbrev pub Moves : (pec : Bool) → List ℕ → List ℕ → List ℕ → Holding pec → ℕ → Holding pec → Type 0
Moves false kinds lengths bytes words v after = Advances false kinds lengths words v after
Moves true kinds lengths bytes held v after =
    Advances true kinds lengths held.0 v after.0
    × (sum_in after.1 ≡ sum_held bytes (held_at held.0) (sum_in held.1) v)

-- the read buffer after it
abbrev pub Stores : (pec : Bool) → Holding pec → ℕ → List ℕ → List ℕ → Type 0
Stores pec held v buffer after = after ≡ stored_in buffer (store_held (held_at (words_of pec held)) v)
