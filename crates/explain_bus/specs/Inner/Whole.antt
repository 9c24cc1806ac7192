-- The sequence of a log that is put down whole, or none. Only contracts of inner functions cite this.
use Rattle.std.specs.Prelude.{ℕ, List, ltb, length, if◌then◌else◌, Option, Some, None}
use Rattle.regs.specs.Log.{decode}
use Rattle.bus.specs.declared.Sign.{Sign}
use Rattle.bus.specs.Bus.{bus_sequence}
use Rattle.explain_bus.specs.declared.sequence.Sequence.{Sequence}

-- of at most 32,768 signs, in as many places
abbrev pub whole : List ℕ → ℕ → Option (List Sign)
whole log places =
    if ltb 32768 (length (bus_sequence (decode log))) then None else
    (if ltb places 32768 then None else Some (bus_sequence (decode log)))

abbrev pub signs_in : Option Sequence → Option (List Sign)
signs_in None = None
signs_in (Some s) = Some s.signs.now
