-- The form of a transfer, by the bits of its number.
use Rattle.std.specs.Prelude.{ℕ, ◌%◌, ◌≡◌, not, Option, Some, None, Result, MatchResult, eqb, ltb, if◌then◌else◌}
use Rattle.replay_calls.specs.declared.form.Kind.{Kind}
use Rattle.replay_calls.specs.declared.form.Kind.TheVariants.{Read, Write, WriteRead, Transaction}
use Rattle.replay_calls.specs.declared.form.Mode.TheVariants.{Blocking, Async}
use Rattle.replay_calls.specs.declared.form.Form.{Form}
use Rattle.replay_calls.specs.declared.form.NoForm.{NoForm}

-- bits 0 and 1: read, write, write-read, transaction
abbrev pub kind_by : ℕ → Kind
kind_by bits =
    if eqb (bits % 4) 0 then Read else
    (if eqb (bits % 4) 1 then Write else (if eqb (bits % 4) 2 then WriteRead else Transaction))

-- bit 2: async; bit 3: with a packet error code
abbrev pub form_by : ℕ → Form
form_by bits = record { kind = kind_by bits; mode = if ltb (bits % 8) 4 then Blocking else Async; coded = not (ltb bits 8) }

-- a form has four bits
abbrev pub form_of : ℕ → Option Form
form_of bits = if ltb bits 16 then Some (form_by bits) else None

-- what the conversion from a number gives
abbrev pub Formed : ℕ → Result Form NoForm → Type 0
Formed bits r = MatchResult r (λ form. Some form ≡ form_of bits) (λ e. None ≡ form_of bits)
