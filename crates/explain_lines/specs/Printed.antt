-- What explain prints of an input, line by line. This is the statement.
use Rattle.std.specs.Prelude.{ℕ, List, [], ◌∷◌, ◌++◌, if◌then◌else◌, Option, None}
use Rattle.regs.specs.Log.{decode}
use Rattle.bus.specs.Bus.{bus_sequence}
use Rattle.text_hex.specs.Text.{lines}
use Rattle.answer_frames.specs.Frames.{frame_of, is_answer}
use Rattle.explain_bus.specs.Line.{sequence_text}
use Rattle.explain_beside.specs.declared.transfer.Transfer.{Transfer}
use Rattle.explain_beside.specs.Piece.{next, told}
use Rattle.answer_lines.specs.Lines.{number_after, no_frame, warning, kept_on}

-- between two lines: how many lines came, and of the open call what stands before its next frame, and its log
pub record Open : Type 0 where
  pub lines : ℕ
  pub transfer : Option Transfer
  pub log : List ℕ

-- behind so many lines, with no call open
abbrev pub closed : ℕ → Open
closed lines = record { lines = lines; transfer = None; log = [] }

-- with an answer its call ends; every other line goes on with the call
abbrev pub open_after : Open → List ℕ → Open
open_after o line =
    if is_answer (frame_of line) then closed (number_after o.lines) else record {
      lines = number_after o.lines;
      transfer = next o.transfer (frame_of line);
      log = kept_on o.log line;
    }

-- before an answer stands the bus line of its call, as far as its log was kept
abbrev pub bus_text : List ℕ → List ℕ
bus_text log = sequence_text (bus_sequence (decode log))

abbrev pub bus_before : List ℕ → List ℕ → List ℕ
bus_before log line = if is_answer (frame_of line) then bus_text log else []

-- the room for the longest text of a line
abbrev pub LINE_ROOM : ℕ
LINE_ROOM = 16900

-- the line's own text, or with its number that it is no answer frame
abbrev pub own_text : ℕ → Option Transfer → List ℕ → List ℕ
own_text number transfer line = if no_frame line then warning number else told transfer line LINE_ROOM

abbrev pub line_text : Open → List ℕ → List ℕ
line_text o line = bus_before o.log line ++ own_text (number_after o.lines) o.transfer line

unfoldable pub explained_from : Open → List (List ℕ) → List ℕ
explained_from o [] = []
explained_from o (l ∷ ls) = line_text o l ++ explained_from (open_after o l) ls

abbrev pub explained_all : List (List ℕ) → List ℕ
explained_all ls = explained_from (closed 0) ls

-- of the bytes of an input
abbrev pub explained_input : List ℕ → List ℕ
explained_input input = explained_all (lines input)
