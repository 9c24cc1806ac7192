-- A log of at most 8,192 entries makes at most 32,768 signs of the bus sequence: a word makes at most four.
use Prim.Native.Nat.{ℕ, suc, ◌*◌, ◌≤◌}
use native.Mathlib.Omega.{arith}
use mathlib.Core.Bool.{Bool, true, false}
use mathlib.Core.List.{List, [], ◌∷◌}
use lib.Dec.{eqb}
use lib.ListN.{length, get_or, length-append}
use Rattle.regs.specs.declared.access.Entry.{Entry}
use Rattle.regs.specs.declared.access.Entry.TheVariants.{Read, Write, Marked}
use Rattle.std.specs.Prelude.{if◌then◌else◌, Option, Some, None}
use Rattle.regs.specs.Registers.{TAR, DATA_CMD}
use Rattle.regs.specs.Fields.{stop, address_field}
use Rattle.regs.specs.Log.{decode, written_to}
use Rattle.bus.specs.declared.Direction.{Direction}
use Rattle.bus.specs.declared.Bus.{Bus}
use Rattle.bus.specs.declared.Bus.TheVariants.{Idle}
use Rattle.bus.specs.declared.Condition.{Condition}
use Rattle.bus.specs.declared.Condition.TheVariants.{Start, Restart}
use Rattle.bus.specs.Bus.{direction_of, opening_of, opening, byte_sign, closing, after, signs_of, signs, bus_sequence}
use Rattle.answer_lines.specs.Lines.{LOG_WORDS}

opening_few : (o : Option Condition) (address : ℕ) (d : Direction) → length (opening o address d) ≤ 2
opening_few None address d = omega arith
opening_few (Some Start) address d = omega arith
opening_few (Some Restart) address d = omega arith

closing_few : (last : Bool) → length (closing last) ≤ 1
closing_few true = omega arith
closing_few false = omega arith

word_few : (bus : Bus) (address w : ℕ) → length (signs_of bus address w) ≤ 4
word_few bus address w =
    omega (
      arith,
      length-append (opening (opening_of bus w) address (direction_of w)) (byte_sign (direction_of w) w ∷ closing (stop w)),
      opening_few (opening_of bus w) address (direction_of w),
      closing_few (stop w),
    )

signs_few : (bus : Bus) (address : ℕ) (words : List ℕ) → length (signs bus address words) ≤ 4 * length words
unfolding signs
signs_few bus address [] = omega arith
signs_few bus address (w ∷ words) =
    omega (
      arith,
      length-append (signs_of bus address w) (signs (after w) address words),
      word_few bus address w,
      signs_few (after w) address words,
    )

one_more : (b : Bool) (v n : ℕ) (words : List ℕ) → length words ≤ n → length (if b then v ∷ words else words) ≤ suc n
one_more true v n words h = omega arith
one_more false v n words h = omega arith

written_few : (r : ℕ) (log : List Entry) → length (written_to r log) ≤ length log
unfolding written_to
written_few r [] = omega arith
written_few r (Read s v ∷ log) = omega (arith, written_few r log)
written_few r (Write s v ∷ log) = one_more (eqb s r) v (length log) (written_to r log) (written_few r log)
written_few r (Marked x ∷ log) = omega (arith, written_few r log)

decode_few : (words : List ℕ) → 2 * length (decode words) ≤ length words
unfolding decode
decode_few [] = omega arith
decode_few (head ∷ []) = omega arith
decode_few (head ∷ value ∷ words) = omega (arith, decode_few words)

pub signs_fit : (log : List ℕ) → length log ≤ LOG_WORDS → length (bus_sequence (decode log)) ≤ 32768
signs_fit log h =
    let address : ℕ = address_field (get_or (written_to TAR (decode log)) 0 0) in
    omega (
      arith,
      signs_few Idle address (written_to DATA_CMD (decode log)),
      written_few DATA_CMD (decode log),
      decode_few log,
    )
