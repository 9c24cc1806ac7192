-- `next_line`: the loop's invariant `Reading` says that the buffer holds what `take` makes of the unread bytes and all
-- bytes read since, by as many reads as the loop has counted.
use Rattle.text_stdin.specs.Handed.{unread}
use Rattle.text_stdin.proofs.Reading.{Reading}
use Rattle.text_stdin.proofs.next_line.Given as goal

abbrev pub invariant-loop : goal.invariant-loop
invariant-loop l = Reading l.from.end (unread l.from l.initial.chunk) l.chunk l.line l.part l.end l.counter
