-- `push_address`: `both` joins seven pushes in the order of `byte_text`; their bounds add up to exactly 157. The
-- letter is the capital of the one in a bus line (`capital`).
use Rattle.std.proofs.Common.{ℕ, ◌≡◌, ◌%◌, Bool, true, false, refl}
use Rattle.std.specs.Prelude.{eqb, not, if◌then◌else◌}
use Rattle.std.specs.Char.{to_ascii_uppercase}
use Rattle.text_hex.proofs.Adding.{both}
use Rattle.svg_text.specs.Picture.{byte_text, direction_text}
use Rattle.svg_text.proofs.sign.push_address.Goals as goal

capital : (b : ℕ) → to_ascii_uppercase (if not (eqb (b % 2) 0) then 114 else 119) ≡ direction_text b
capital b = by_test (eqb (b % 2) 0)
  where
    by_test : (even : Bool) → to_ascii_uppercase (if not even then 114 else 119) ≡ (if even then 87 else 82)
    by_test true = refl
    by_test false = refl

pub returns : goal.returns
unfolding byte_text
returns c = rw (← capital c.args.b, ← c.letter.ensures, ← c.to_ascii_uppercase.ensures.value)
    (both c.push_open.ensures
    (both c.push_bits.ensures
    (both c.push_text.ensures
    (both c.push_hex2.ensures
    (both c.push.ensures (both c.push-2.ensures c.push_text-2.ensures))))))
