-- The parts of a piece's text. Only contracts of inner functions cite this.
use Rattle.std.specs.Prelude.{ℕ, ◌+◌, ◌*◌, Bool, List, [], ◌++◌, if◌then◌else◌, Option, Some, None}
use Rattle.regs.specs.Fields.{dat}
use Rattle.bus.specs.declared.Direction.{Direction}
use Rattle.bus.specs.declared.Direction.TheVariants.{Writing, Reading}
use Rattle.bus.specs.declared.Condition.{Condition}
use Rattle.bus.specs.declared.Sign.TheVariants.{Stop}
use Rattle.bus.specs.Bus.{direction_bit, condition_sign}
use Rattle.explain_bus.specs.Line.{address_text, byte_text, run_text, sign_text}

abbrev pub towards : Bool → Direction
towards read = if read then Reading else Writing

abbrev pub direction_letter_of : Bool → ℕ
direction_letter_of read = if read then 114 else 119

-- START or RESTART, and the address byte
unfoldable pub addressed_text : Condition → ℕ → Bool → List ℕ
addressed_text condition address read = sign_text (condition_sign condition)
    ++ address_text (address * 2 + direction_bit (towards read))

unfoldable pub opening_text : Option Condition → ℕ → Bool → List ℕ
opening_text None address read = []
opening_text (Some condition) address read = addressed_text condition address read

abbrev pub data_text : Bool → ℕ → List ℕ
data_text read w = if read then run_text 1 else byte_text (dat w)

abbrev pub closing_text : Bool → List ℕ
closing_text last = if last then sign_text Stop else []
