-- The parts of a piece's text, one after the other, are its text.
use Prim.Native.Nat.{ℕ, ◌+◌, ◌*◌, ◌/◌, ◌%◌}
use native.Mathlib.Omega.{arith}
use mathlib.Core.Bool.{Bool, true, false}
use mathlib.Core.List.{List, [], ◌∷◌, ◌++◌, append_assoc, append-nil}
use mathlib.Core.Path.{◌≡◌, refl, sym, ap, ◌∙◌}
use Rattle.regs.specs.Fields.{cmd, stop}
use Rattle.text_hex.specs.Text.{hex2}
use Rattle.bus.specs.declared.Bus.{Bus}
use Rattle.std.specs.Prelude.{Option, Some, None}
use Rattle.bus.specs.declared.Condition.{Condition}
use Rattle.bus.specs.declared.Condition.TheVariants.{Start, Restart}
use Rattle.bus.specs.declared.Sign.{Sign}
use Rattle.bus.specs.declared.Sign.TheVariants as S
use Rattle.bus.specs.Bus.{direction_bit, opening_of, opening, byte_sign, closing, signs_of}
use Rattle.explain_bus.specs.Line.{address_text, run_text, sign_text, signs_text}
use Rattle.explain_beside.specs.Inner.Parts.{towards, direction_letter_of, addressed_text, opening_text, data_text, closing_text}

-- the digits and the letter of an address byte
pub address_is : (address : ℕ) (read : Bool)
    → address_text (address * 2 + direction_bit (towards read)) ≡ (32 ∷ [])
    ++ (hex2 address ++ (direction_letter_of read ∷ []))
address_is address true =
    let d : (address * 2 + 1) / 2 ≡ address = omega arith in
    let m : (address * 2 + 1) % 2 ≡ 1 = omega arith in
    rw (d, m)
address_is address false =
    let d : (address * 2 + 0) / 2 ≡ address = omega arith in
    let m : (address * 2 + 0) % 2 ≡ 0 = omega arith in
    rw (d, m)

front : (o : Option Condition) (address : ℕ) (read : Bool) (ss : List Sign)
    → opening_text o address read ++ signs_text 0 ss ≡ signs_text 0 (opening o address (towards read) ++ ss)
unfolding opening_text addressed_text signs_text run_text
front None address read ss = refl
front (Some Start) address read ss = append_assoc (sign_text S.Start) (address_text (address * 2 + direction_bit (towards read))) (signs_text 0 ss)
front (Some Restart) address read ss = append_assoc (sign_text S.Restart) (address_text (address * 2 + direction_bit (towards read))) (signs_text 0 ss)

back : (read last : Bool) (w : ℕ) → data_text read w ++ closing_text last ≡ signs_text 0 (byte_sign (towards read) w ∷ closing last)
unfolding signs_text run_text
back true true w = ap (λ (l : List ℕ). data_text true w ++ l) (sym (append-nil (sign_text S.Stop)))
back true false w = append-nil (data_text true w)
back false true w = ap (λ (l : List ℕ). data_text false w ++ l) (sym (append-nil (sign_text S.Stop)))
back false false w = refl

pub piece_is : (bus : Bus) (address w : ℕ)
    → opening_text (opening_of bus w) address (cmd w) ++ (data_text (cmd w) w ++ closing_text (stop w)) ≡ signs_text
    0 (signs_of bus address w)
piece_is bus address w =
    ap (λ (l : List ℕ). opening_text (opening_of bus w) address (cmd w) ++ l) (back (cmd w) (stop w) w)
    ∙ front (opening_of bus w) address (cmd w) (byte_sign (towards (cmd w)) w ∷ closing (stop w))
