-- What a call of `begin` leaves, and what one of `explain_line` leaves and prints. Only contracts cite this.
use Rattle.std.specs.Prelude.{ℕ, ◌+◌, ◌≤◌, List, [], ◌≡◌, length, take, None}
use Rattle.bus.specs.declared.Sign.{Sign}
use Rattle.explain_lines.specs.Printed.{Open, open_after, line_text, LINE_ROOM}
use Rattle.explain_lines.specs.declared.Call.{Call}
use Rattle.explain_lines.specs.declared.Said.{Said}

-- behind so many lines, with no call open
abbrev pub closed_call : ℕ → Call
closed_call lines = record { lines = lines; transfer = None }

abbrev pub start_call : Call
start_call = closed_call 0

-- what is kept, with the log
abbrev pub open_of : Call → List ℕ → Open
open_of c log = record { lines = c.lines; transfer = c.transfer; log = log }

-- before the first line, with an empty log, whatever it held
pub record BegunAs (log : List ℕ) (c : Call) : Type 0 where
  pub empty : log ≡ []
  pub call : c ≡ start_call

-- how many signs a log can make, and the room for their text
abbrev pub PLACES : ℕ
PLACES = 32768

abbrev pub BUS_ROOM : ℕ
BUS_ROOM = 294921

-- the buffers: a line that was cut at its buffer's end is longer than every answer frame, and there is room for the
-- signs, and for a bus line with the answer behind it
pub record Lent (text : List ℕ) (held : ℕ) (places : List Sign) (out : List ℕ) : Type 0 where
  pub cut : 8195 ≤ length text
  pub line : held ≤ length text
  pub signs : PLACES ≤ length places
  pub room : BUS_ROOM + LINE_ROOM ≤ length out

pub record SaidAs (c : Call) (log line log' out : List ℕ) (r : Said) : Type 0 where
  pub after : open_of r.call log' ≡ open_after (open_of c log) line
  pub text : take r.made out ≡ line_text (open_of c log) line
  pub made : r.made ≤ length out
