-- `push_bus`: `bus_line`'s contract on the buffer's first bytes, said of the buffer by `in_front` (proofs/Rooms.antt).
use mathlib.Core.Path.{refl}
use lib.ListN.{length}
use Rattle.explain_lines.specs.Inner.Said.{BUS_ROOM}
use Rattle.explain_lines.proofs.Rooms.{in_front}
use Rattle.explain_lines.proofs.push_bus.Goals as goal

pub returns : goal.returns
returns c = let w = c.words in
    rw (← w.ensures.same) (in_front w.result.now (length c.args.places.now) BUS_ROOM
    w.ensures.few c.requires.room c.requires.signs refl
    c.bus_line.ensures c.bus_line.auto.out)
