-- Lines, digits and numbers: how the bytes of the input are read, and how numbers are written.
use Rattle.std.specs.Prelude.{ℕ, zero, suc, ◌+◌, ◌*◌, ◌-◌, ◌/◌, ◌%◌, ◌^◌, List, [], ◌∷◌, ◌++◌, eqb, ltb, get_or, if◌then◌else◌, Option, Some, None}

-- the byte that ends a line
abbrev pub LF : ℕ
LF = 10

-- a last line without LF: it is a line like the others, and no line where nothing of it has come
abbrev pub last_line : List ℕ → List (List ℕ)
last_line [] = []
last_line (c ∷ cs) = (c ∷ cs) ∷ []

-- the lines of an input, where `begun` has come already of the first of them
unfoldable pub lines_after : List ℕ → List ℕ → List (List ℕ)
lines_after begun [] = last_line begun
lines_after begun (c ∷ cs) = if eqb c LF then begun ∷ lines_after [] cs else lines_after (begun ++ (c ∷ [])) cs

abbrev pub lines : List ℕ → List (List ℕ)
lines input = lines_after [] input

-- the value of a capital hexadecimal digit, and 16 of every other byte: `0` to `9` are 48 to 57, `A` to `F` 65 to 70
unfoldable pub digit_of : ℕ → ℕ
digit_of c =
    if ltb c 48 then 16 else
    (if ltb c 58 then c - 48 else
    (if ltb c 65 then 16 else
    (if ltb c 71 then c - 55 else 16)))

-- the value of a digit, if the byte is one
abbrev pub digit_in : ℕ → Option ℕ
digit_in c = if ltb (digit_of c) 16 then Some (digit_of c) else None

abbrev pub and_digit : Option ℕ → ℕ → Option ℕ
and_digit None d = None
and_digit (Some v) d = if ltb d 16 then Some (v * 16 + d) else None

-- the number that the n bytes of a line from `at` on write, if they are digits. Past the end of the line stands 0, which is no digit.
unfoldable pub number_at : List ℕ → ℕ → ℕ → Option ℕ
number_at line at zero = Some 0
number_at line at (suc n) = and_digit (number_at line at n) (digit_of (get_or line (at + n) 0))

abbrev pub and_bytes : ℕ → ℕ → Option (List ℕ) → Option (List ℕ)
and_bytes high low None = None
and_bytes high low (Some bytes) = if ltb high 16 then (if ltb low 16 then Some ((high * 16 + low) ∷ bytes) else None) else None

-- the bytes that pairs of digits write, if they are pairs of digits
unfoldable pub bytes_of : List ℕ → Option (List ℕ)
bytes_of [] = Some []
bytes_of (c ∷ []) = None
bytes_of (c ∷ d ∷ cs) = and_bytes (digit_of c) (digit_of d) (bytes_of cs)

-- the character of a digit
unfoldable pub char_of : ℕ → ℕ
char_of d = if ltb d 10 then d + 48 else d + 55

-- a number in 2 and in 8 digits
abbrev pub hex2 : ℕ → List ℕ
hex2 n = char_of (n / 16 % 16) ∷ char_of (n % 16) ∷ []

abbrev pub hex4 : ℕ → List ℕ
hex4 n = hex2 (n / 2 ^ 8 % 2 ^ 8) ++ hex2 (n % 2 ^ 8)

abbrev pub hex8 : ℕ → List ℕ
hex8 n = hex4 (n / 2 ^ 16 % 2 ^ 16) ++ hex4 (n % 2 ^ 16)
