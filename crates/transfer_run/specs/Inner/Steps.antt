-- Steps of a transfer: its run comes to a later state, or ends.
use Rattle.std.specs.Prelude.{ℕ, ◌-◌, ◌<◌, Bool, List, ◌≡◌, Result, Ok, Err}
use Rattle.regs.specs.Inner.Machine.{final, ran}
use Rattle.regs.specs.Inner.Recording.{Keeps, room_of}
use Rattle.regs.specs.declared.access.Recording.{Recording}
use Rattle.regs.specs.declared.answers.Reply.{Reply}
use Rattle.transfer.specs.Inner.Machine.{machine}
use Rattle.transfer.specs.declared.Transfer.{Transfer}
use Rattle.regs_runs.specs.Inner.Reaches.{Reaches}

-- what is recorded and the buffer b, before and after
abbrev pub Steps : Bool → List ℕ → List ℕ → List ℕ → Transfer → Recording → List ℕ → Recording → List ℕ → Result Transfer Reply → Type 0
Steps coded kinds lengths bytes t before b after b' (Ok t') =
    Keeps before after
    × Reaches (machine coded kinds lengths bytes) before.readings.now t before.entries before.used before.log.now b t' after.entries
    after.used after.log.now b'
    × (before.entries < after.entries)
Steps coded kinds lengths bytes t before b after b' (Err reply) =
    Keeps before after
    × (final reply after.entries after.used after.log.now b' tt
    ≡ ran (machine coded kinds lengths bytes) before.readings.now (room_of before - before.entries) t before.entries before.used
    before.log.now b)
