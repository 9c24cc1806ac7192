-- What a log makes of the bus (UM10204, and DATA_CMD in the RP2040 datasheet), from an idle bus and with IC_RESTART_EN set.
use Rattle.std.specs.Prelude.{ℕ, ◌+◌, ◌*◌, Bool, true, false, not, ◌&&◌, List, [], ◌∷◌, ◌++◌, get_or, if◌then◌else◌, Option, Some, None}
use Rattle.regs.specs.declared.access.Entry.{Entry}
use Rattle.regs.specs.Registers.{TAR, DATA_CMD}
use Rattle.regs.specs.Fields.{dat, cmd, stop, restart, address_field}
use Rattle.regs.specs.Log.{written_to}
use Rattle.bus.specs.declared.Direction.{Direction}
use Rattle.bus.specs.declared.Direction.TheVariants.{Writing, Reading}
use Rattle.bus.specs.declared.Bus.{Bus}
use Rattle.bus.specs.declared.Bus.TheVariants.{Idle, Busy}
use Rattle.bus.specs.declared.Condition.{Condition}
use Rattle.bus.specs.declared.Condition.TheVariants as C
use Rattle.bus.specs.declared.Sign.{Sign}
use Rattle.bus.specs.declared.Sign.TheVariants.{Start, Restart, Stop, Address, Written, ReadSlot}

abbrev pub direction_bit : Direction → ℕ
direction_bit Writing = 0
direction_bit Reading = 1

abbrev pub same : Direction → Direction → Bool
same Writing Writing = true
same Writing Reading = false
same Reading Writing = false
same Reading Reading = true

abbrev pub direction_of : ℕ → Direction
direction_of w = if cmd w then Reading else Writing

-- a START or a RESTART, and the address byte
abbrev pub addressed : Sign → ℕ → Direction → List Sign
addressed sign address d = sign ∷ Address (address * 2 + direction_bit d) ∷ []

-- what comes before a word's byte: on an idle bus START; on a busy one RESTART, where the direction changes or the flag asks for it
abbrev pub opening_of : Bus → ℕ → Option Condition
opening_of Idle w = Some C.Start
opening_of (Busy d) w = if same d (direction_of w) && not (restart w) then None else Some C.Restart

abbrev pub condition_sign : Condition → Sign
condition_sign C.Start = Start
condition_sign C.Restart = Restart

abbrev pub opening : Option Condition → ℕ → Direction → List Sign
opening None address d = []
opening (Some condition) address d = addressed (condition_sign condition) address d

abbrev pub byte_sign : Direction → ℕ → Sign
byte_sign Writing w = Written (dat w)
byte_sign Reading w = ReadSlot

abbrev pub closing : Bool → List Sign
closing last = if last then Stop ∷ [] else []

-- the bus after a word
abbrev pub after : ℕ → Bus
after w = if stop w then Idle else Busy (direction_of w)

-- what one word makes of the bus
abbrev pub signs_of : Bus → ℕ → ℕ → List Sign
signs_of bus address w = opening (opening_of bus w) address (direction_of w) ++ (byte_sign (direction_of w) w ∷ closing (stop w))

-- and the words one after the other
unfoldable pub signs : Bus → ℕ → List ℕ → List Sign
signs bus address [] = []
signs bus address (w ∷ words) = signs_of bus address w ++ signs (after w) address words

-- the address is what the log writes to TAR, the words those that it writes to DATA_CMD
abbrev pub bus_sequence : List Entry → List Sign
bus_sequence log = signs Idle (address_field (get_or (written_to TAR log) 0 0)) (written_to DATA_CMD log)

-- a sign as one word: its kind times 65,536, and its value
abbrev pub sign_word : Sign → ℕ
sign_word Start = 0x10000
sign_word Restart = 0x20000
sign_word Stop = 0x30000
sign_word (Address b) = 0x40000 + b
sign_word (Written b) = 0x50000 + b
sign_word ReadSlot = 0x60000
