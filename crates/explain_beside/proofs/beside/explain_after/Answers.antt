-- `explain_after`: a line that writes no word is `explain`'s; with a word there is no text where the buffer has no
-- room, and else `word_line`'s.
use Rattle.std.proofs.Common.{rules}
use Rattle.text_hex.proofs.Appends.{nothing, within}
use Rattle.explain_beside.specs.Piece.{told_of}
use Rattle.explain_beside.proofs.beside.explain_after.Goals as goal

pub returns-then-out-lt-ROOM : goal.returns-then-out-lt-ROOM
unfolding told_of
returns-then-out-lt-ROOM c = search (rules, nothing)

pub returns-in-None : goal.returns-in-None
unfolding told_of
returns-in-None c = search rules

pub returns-else-out-lt-ROOM : goal.returns-else-out-lt-ROOM
unfolding told_of
returns-else-out-lt-ROOM c = search (rules, within)
