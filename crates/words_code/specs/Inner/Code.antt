-- The running packet error code as two bytes, what it does to a word and to the number of an answer, and what an access
-- makes of it.
use Rattle.std.specs.Prelude.{ℕ, not, ◌&&◌, List, eqb, get_or, if◌then◌else◌}
use Rattle.regs.specs.declared.access.Entry.TheVariants.{Read, Write}
use Rattle.master.specs.Inner.Running.{Sum, fresh, feed, running}

abbrev pub sum : ℕ → ℕ → Sum
sum crc last = record { crc = crc; last = last }

abbrev pub fresh_sum : Sum
fresh_sum = fresh

-- the register, then the direction of the last data byte: 0 read, 1 written, above 1 none yet
unfoldable pub sum_in : List ℕ → Sum
sum_in code = sum (get_or code 0 0) (get_or code 1 0)

-- what is written in place of a word; any address will do, the value does not depend on it
unfoldable pub word_by : Sum → ℕ → ℕ → ℕ
word_by s r w = (running 0).value s r w

-- the number at the end, by the answer's number and detail: accepted alone has 0 and 0
unfoldable pub number_by : Sum → ℕ → ℕ → ℕ
number_by s n detail = if eqb n 0 && (eqb detail 0 && not (eqb s.crc 0)) then 22 else n

-- after an access of this kind, as it was told, that wrote a word, 2, or read one, 1
unfoldable pub fed_by : ℕ → Sum → ℕ → ℕ → ℕ → ℕ → Sum
fed_by address s kind register word read =
    if eqb kind 1 then feed address s (Read register read) else (if eqb kind 2 then feed address s (Write register word) else s)
