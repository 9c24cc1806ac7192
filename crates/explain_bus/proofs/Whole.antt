-- A text by the whole sequence of a log, or by none.
use Prim.Native.Nat.{ℕ}
use mathlib.Core.Bool.{Bool, true, false}
use mathlib.Core.List.{List, []}
use mathlib.Core.Path.{◌≡◌, refl}
use lib.Dec.{ltb}
use lib.ListN.{length}
use Rattle.std.specs.Prelude.{if◌then◌else◌, Option, Some, None}
use Rattle.regs.specs.Log.{decode}
use Rattle.bus.specs.declared.Sign.{Sign}
use Rattle.bus.specs.Bus.{bus_sequence}
use Rattle.explain_bus.specs.Line.{sequence_text, bus_line}
use Rattle.explain_bus.specs.Inner.Whole.{whole}

abbrev pub text_by : (List Sign → List ℕ) → Option (List Sign) → List ℕ
text_by text None = []
text_by text (Some ss) = text ss

by_tests : (text : List Sign → List ℕ) (many few : Bool) (ss : List Sign)
    → (if many then [] else (if few then [] else text ss))
    ≡ text_by text (if many then None else (if few then None else Some ss))
by_tests text true few ss = refl
by_tests text false true ss = refl
by_tests text false false ss = refl

pub by_whole : (text : List Sign → List ℕ) (log : List ℕ) (places : ℕ) {found : Option (List Sign)}
    → found ≡ whole log places
    → (if ltb 32768 (length (bus_sequence (decode log))) then [] else
    (if ltb places 32768 then [] else text (bus_sequence (decode log))))
    ≡ text_by text found
by_whole text log places e = rw e
    (by_tests text (ltb 32768 (length (bus_sequence (decode log)))) (ltb places 32768) (bus_sequence (decode log)))

-- the bus line, where there is room for it
abbrev pub line_in : ℕ → List Sign → List ℕ
line_in room ss = if ltb room 294921 then [] else sequence_text ss

pub line_is : (log : List ℕ) (places room : ℕ) {found : Option (List Sign)}
    → found ≡ whole log places
    → bus_line log places room ≡ text_by (line_in room) found
unfolding bus_line
line_is log places room e = by_whole (line_in room) log places e
